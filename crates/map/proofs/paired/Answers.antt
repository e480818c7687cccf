use Rattle.std.proofs.Common.{ℕ, ◌+◌, get_or, arith, length-set}
use Rattle.std.proofs.lemmas.List.Edits.{fill_by_more}
use Rattle.map.proofs.paired.Goals as goal

pub loop-k-preserved : goal.loop-k-preserved
loop-k-preserved c =
    let ends = c.args.ends.now in (
      simp length-set c.loop-k.invariant.0,
      rw c.pair_of.ensures
          (fill_by_more (λ (j : ℕ). (get_or ends j 0, get_or ends (c.args.m + j) 0)) c.loop-k.pairs c.loop-k.k (0, 0) (omega arith) c.loop-k.invariant.1),
    )

pub returns-clause-ends : goal.returns-clause-ends
returns-clause-ends c = λ k h. c.loop-k.invariant.1 k (omega arith)

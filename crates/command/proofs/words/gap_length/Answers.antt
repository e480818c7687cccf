use Rattle.std.proofs.Common.{◌≡◌, true, length, take, sym, ◌∙◌, subst, arith, rules}
use Rattle.std.specs.List.{AllByRecursion}
use Rattle.std.proofs.lemmas.List.{take_all}
use Rattle.std.proofs.ByRecursion.{All-more}
use Rattle.command.specs.Words.{blank}
use Rattle.command.proofs.words.gap_length.Goals as goal

pub loop-i-preserved : goal.loop-i-preserved
loop-i-preserved c = All-more (λ b. blank b ≡ true) c.args.line.now c.loop-i.i 0 c.loop-i-test.true c.loop-i.invariant (search rules)

pub returns : goal.returns
returns c =
    let line = c.args.line.now in
    let e : take c.loop-i.i line ≡ take (length line) line = take_all c.loop-i.i line c.loop-i-test.false ∙ sym (take_all (length line) line (omega arith)) in
    record {
      within = omega arith;
      all = subst (AllByRecursion (λ b. blank b ≡ true)) e c.loop-i.invariant;
      stops = λ h. absurd (omega arith);
    }

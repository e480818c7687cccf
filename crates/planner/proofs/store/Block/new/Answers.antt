use Rattle.std.proofs.Common.{◌≡◌, length, sym, ap, ◌∙◌, subst, arith}
use Rattle.parity.specs.Words.{fresh}
use Rattle.parity.proofs.Words.{length_fresh}
use Rattle.planner.specs.declared.store.Block.{Block}
use Rattle.planner.specs.Views.{words_of}
use Rattle.planner.proofs.Duality.{Dual, fresh_dual, some_same}
use Rattle.planner.proofs.store.Block.new.Goals as goal

pub invariant_of-result : goal.invariant_of-result
invariant_of-result c =
    let n = c.args.n in
    let words = c.fresh_of.result.items in
    let each : length words ≡ n = ap length c.fresh_of.ensures ∙ length_fresh n in
    let as_many : length c.fresh_of-2.result.items ≡ length words = ap length (c.fresh_of-2.ensures ∙ sym c.fresh_of.ensures) in
    let d = subst (λ m. Dual m words c.fresh_of-2.result.items) (sym each)
    (subst (λ xs. Dual n xs c.fresh_of-2.result.items) (sym c.fresh_of.ensures) (subst (Dual n (fresh n)) (sym c.fresh_of-2.ensures) (fresh_dual n))) in
    record {
      as_many = as_many;
      some = omega arith;
      few = omega arith;
      words_below = d.words_below;
      duals_below = d.duals_below;
      paired = d.paired;
    }

pub returns : goal.returns
returns c = record {
  some = λ b e. subst (λ (z : Block). (length (words_of z) ≡ c.args.n) × (words_of z ≡ fresh c.args.n)) (some_same e)
      (ap length c.fresh_of.ensures ∙ length_fresh c.args.n, c.fresh_of.ensures);
  none = λ e. absurd cc;
}

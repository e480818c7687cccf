use Rattle.std.proofs.Common.{◌≡◌, ℕ, ◌^◌, [], ◌∷◌, ◌++◌, get_or, Some, None, Option, sym, ap, ◌∙◌, inl, inr, arith}
use Rattle.std.proofs.lemmas.Bool.{cases_eq}
use Rattle.std.specs.Option.{MatchOption, unwrap_or}
use lib.ListN.{get_or-append}
use lib.Seq.{get_or-append_seam}
use Rattle.parity.specs.Sets.{bit, LowestPlace}
use Rattle.parity.proofs.Bits.{bit_some, bit_pow_same, place_is}
use Rattle.planner.proofs.carry.lowest_of_each.Goals as goal

lowest_single : (r : Option ℕ) (x p : ℕ) → MatchOption r (x ≡ 0) (LowestPlace x) → x ≡ 2 ^ p → unwrap_or r 0 ≡ p
lowest_single (Some q) x p l e = sym (place_is p q (ap (λ (y : ℕ). bit y q) (sym e) ∙ l.inside))
lowest_single None x p l e = absurd (bit_some x p (ap (λ (y : ℕ). bit y p) e ∙ bit_pow_same p) l)

pub loop-set-preserved : goal.loop-set-preserved
loop-set-preserved c =
    let sets = c.args.sets.now in
    let at = c.loop-set.at.items in
    let x = c.unwrap_or.result in
    let long = c.loop-set.invariant.0 in (
      omega (arith, c.push.ensures.len),
      (λ v p h b e. ap (λ l. get_or l v 0) c.push.ensures.items
          ∙ elim (cases_eq v c.loop-set.set-index) [
            | inl k ↦ ap (λ (m : ℕ). get_or (at ++ x ∷ []) m 0) (k ∙ sym long) ∙ get_or-append_seam at x [] 0
                ∙ c.unwrap_or.ensures ∙ lowest_single c.lowest.result (get_or sets c.loop-set.set-index 0) p c.lowest.ensures (ap (λ (m : ℕ). get_or sets m 0) (sym k) ∙ e)
            | inr n ↦ get_or-append at (x ∷ []) 0 v (omega arith) ∙ c.loop-set.invariant.1 v p (omega arith) b e
          ]),
    )

use Rattle.std.proofs.Common.{rules, refl, ◌≡◌, ◌∙◌, arith, below_more}
use Rattle.parity.specs.Sets.{bit}
use Rattle.replaying.specs.Islands.{places_below}
use Rattle.replaying.proofs.Placed.{placed, passed}
use Rattle.replaying.proofs.islands.places_of.Goals as goal
use Rattle.replaying.proofs.islands.places_of.Goals.{then-has+in_ok-places, else-has}

pub loop-w-init : goal.loop-w-init
unfolding places_below
loop-w-init c = (refl, λ v h. absurd (omega arith))

pub loop-w-preserved : goal.loop-w-preserved
loop-w-preserved c =
    let at = c.args.at.now in
    let word = c.args.word in
    elim c.if-has.branch [
      | then-has+in_ok-places w ↦ (
        let in_word : bit word c.loop-w.w ≡ 1 = search rules in
            placed at word c.loop-w.w c.loop-w.places _ _ c.loop-w.invariant.0 in_word w.in_ok-places.ensures.1 w.places-is,
        below_more _ _ c.loop-w.invariant.1 (λ _. w.in_ok-places.ensures.0),
      )
      | else-has w ↦ (
        w.places-is ∙ passed at word c.loop-w.w c.loop-w.places c.loop-w.invariant.0 (λ h. search rules),
        below_more _ _ c.loop-w.invariant.1 (λ h. search rules),
      )
    ]

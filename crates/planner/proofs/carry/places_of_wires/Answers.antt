use Rattle.std.proofs.Common.{ℕ, ◌^◌, ◌<◌, ◌≤◌, length, get_or, take, sym, ap, ◌∙◌, subst, arith}
use lib.Bits.{bit_xor}
use Rattle.std.proofs.lemmas.List.{take_all}
use Rattle.parity.specs.Placements.{wires_to_places}
use Rattle.parity.proofs.Masks.{set_from, clear_from}
use Rattle.planner.proofs.Asking.{place_below_64}
use Rattle.planner.proofs.Carrying.{places_more_on, places_more_off}
use Rattle.planner.specs.Views.{places_of}
use Rattle.planner.proofs.carry.places_of_wires.Goals as goal

pub loop-w-preserved : goal.loop-w-preserved
loop-w-preserved c =
    let p = c.args.places.now in
    let at = places_of p in
    let i = c.loop-w.w in
    let x = c.args.x in
    let same = c.deref-place-items.ensures.0 in
    let h : i < length at = subst (λ l. i < length l) same c.loop-w-test.true in
    let place = ap (λ l. get_or l i 0) same in
    elim c.if-has.branch [
      | goal.then-has w ↦ w.set-is ∙ w.flip-set.ensures.place (subst (λ (q : ℕ). q < 64) (sym place) (place_below_64 p i h))
          ∙ ap (λ (y : ℕ). bit_xor y (2 ^ get_or c.deref-place-items.result.now i 0)) c.loop-w.invariant
          ∙ ap (λ (q : ℕ). bit_xor (wires_to_places (take i at) x) (2 ^ q)) place
          ∙ sym (places_more_on at i x h (set_from x i w.if-has.ensures))
      | goal.else-has w ↦ w.set-is ∙ c.loop-w.invariant ∙ sym (places_more_off at i x h (clear_from x i w.if-has.ensures))
    ]

pub returns : goal.returns
returns c =
    let at = places_of c.args.places.now in
    let all : length at ≤ c.loop-w.w = subst (λ l. length l ≤ c.loop-w.w) c.deref-place-items.ensures.0 (omega arith) in
    c.loop-w.invariant ∙ ap (λ l. wires_to_places l c.args.x) (take_all c.loop-w.w at all)

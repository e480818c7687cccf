use Rattle.std.proofs.Common.{◌≡◌, ℕ, ◌<◌}
use Rattle.parity.specs.Sets.{bit}
use Rattle.replaying.specs.Islands.{HasPlace, places_below}
use Rattle.replaying.proofs.islands.places_of.Given as goal

abbrev pub invariant-loop-w : goal.invariant-loop-w
invariant-loop-w l =
    (l.places ≡ places_below l.at l.word l.w) × ((v : ℕ) → v < l.w → bit l.word v ≡ 1 → HasPlace l.at v)

use Rattle.std.proofs.Common.{◌≡◌, take}
use Rattle.parity.specs.Placements.{wires_to_places}
use Rattle.planner.specs.Views.{places_of}
use Rattle.planner.proofs.carry.places_of_wires.Given as goal

abbrev pub invariant-loop-w : goal.invariant-loop-w
invariant-loop-w l = l.set ≡ wires_to_places (take l.w (places_of l.places)) l.x

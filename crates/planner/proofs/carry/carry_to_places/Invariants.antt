use Rattle.std.proofs.Common.{◌≡◌, take, map}
use Rattle.parity.specs.Placements.{wires_to_places}
use Rattle.planner.specs.Views.{places_of}
use Rattle.planner.proofs.carry.carry_to_places.Given as goal

abbrev pub invariant-loop-word : goal.invariant-loop-word
invariant-loop-word l = l.sets.items ≡ map (wires_to_places (places_of l.places)) (take l.word-index l.words)

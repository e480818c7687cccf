use Rattle.parity.proofs.Placements.{places_exactly}
use Rattle.parity.proofs.laws.places_are_those_of_the_wires.Goals as goal

pub returns : goal.returns
returns c = places_exactly

use Rattle.planner.proofs.Couplers.{obeys_neighbours}
use Rattle.planner.proofs.laws.machines_obey_gates_between_neighbours.Goals as goal

pub returns : goal.returns
returns c = obeys_neighbours

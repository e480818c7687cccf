use Rattle.planner.proofs.Couplers.{two_islands_stay}
use Rattle.planner.proofs.laws.sets_on_two_islands_stay_on_two.Goals as goal

pub returns : goal.returns
returns c = two_islands_stay

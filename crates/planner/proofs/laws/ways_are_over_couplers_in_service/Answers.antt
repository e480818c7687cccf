use Rattle.planner.proofs.Couplers.{ways_over_couplers}
use Rattle.planner.proofs.laws.ways_are_over_couplers_in_service.Goals as goal

pub returns : goal.returns
returns c = ways_over_couplers

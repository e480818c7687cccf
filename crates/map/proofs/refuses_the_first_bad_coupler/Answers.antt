use Rattle.map.proofs.Faults.{first_bad_exactly}
use Rattle.map.proofs.refuses_the_first_bad_coupler.Goals as goal

pub returns : goal.returns
returns c = first_bad_exactly

use Rattle.machine.proofs.OnCouplers.{obeys_exactly}
use Rattle.machine.proofs.cnot_obeys_exactly_on_couplers_in_service.Goals as goal

pub returns : goal.returns
returns c = obeys_exactly

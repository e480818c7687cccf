use Rattle.parity.proofs.Gates.{sets_stay_apart}
use Rattle.parity.proofs.laws.gates_keep_sets_apart.Goals as goal

pub returns : goal.returns
returns c = sets_stay_apart

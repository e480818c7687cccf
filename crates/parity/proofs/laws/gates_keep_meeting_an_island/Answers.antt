use Rattle.parity.proofs.Gates.{meeting_survives_gate}
use Rattle.parity.proofs.laws.gates_keep_meeting_an_island.Goals as goal

pub returns : goal.returns
returns c = meeting_survives_gate

use Rattle.parity.proofs.Pairing.{pairing_survives_gate, pairing_survives_gates}
use Rattle.parity.proofs.laws.gates_keep_the_pairing.Goals as goal

pub returns : goal.returns
returns c = record { one_gate = pairing_survives_gate; all_gates = pairing_survives_gates }

use Rattle.parity.proofs.Gates.{xors_survive_gate, xors_survive_gates, single_places_deliver}
use Rattle.parity.proofs.laws.single_places_deliver_xors.Goals as goal

pub returns : goal.returns
returns c = record { one_gate = xors_survive_gate; all_gates = xors_survive_gates; delivered = single_places_deliver }

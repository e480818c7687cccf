use Rattle.parity.proofs.Gates.{gate_undoes_itself, reverse_undoes_on_sets, reverse_undoes_on_words}
use Rattle.parity.proofs.laws.reversed_gates_undo.Goals as goal

pub returns : goal.returns
returns c = record { one_gate = gate_undoes_itself; on_sets = reverse_undoes_on_sets; on_words = reverse_undoes_on_words }

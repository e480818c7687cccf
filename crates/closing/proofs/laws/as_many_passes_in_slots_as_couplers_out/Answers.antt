use Rattle.closing.proofs.Counting.{as_many_as_out}
use Rattle.closing.proofs.laws.as_many_passes_in_slots_as_couplers_out.Goals as goal

pub returns : goal.returns
returns c = as_many_as_out

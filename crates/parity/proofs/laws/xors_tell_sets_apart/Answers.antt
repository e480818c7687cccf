use Rattle.parity.proofs.Xors.{fresh_xors_are_sets}
use Rattle.parity.proofs.Gates.{xors_tell_sets_apart}
use Rattle.parity.proofs.laws.xors_tell_sets_apart.Goals as goal

pub returns : goal.returns
returns c = record { fresh = fresh_xors_are_sets; replayed = xors_tell_sets_apart }

use Rattle.parity.proofs.Bits.{bits_tell_words_apart}
use Rattle.parity.proofs.laws.bits_tell_words_apart.Goals as goal

pub returns : goal.returns
returns c = bits_tell_words_apart

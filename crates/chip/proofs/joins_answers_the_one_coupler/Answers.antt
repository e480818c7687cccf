use Rattle.chip.proofs.Joining.{joins_exactly}
use Rattle.chip.proofs.joins_answers_the_one_coupler.Goals as goal

pub returns : goal.returns
returns c = joins_exactly

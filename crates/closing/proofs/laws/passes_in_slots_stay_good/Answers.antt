use Rattle.closing.proofs.Keeping.{turns_good}
use Rattle.closing.proofs.laws.passes_in_slots_stay_good.Goals as goal

pub returns : goal.returns
returns c = turns_good

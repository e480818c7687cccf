use Rattle.rounds.proofs.Straddling.{straddling_stays, straddling_never_single}
use Rattle.rounds.proofs.straddling_sets_keep_straddling.Goals as goal

pub returns : goal.returns
returns c = record { stays = straddling_stays; never_single = straddling_never_single }

use Rattle.runs.proofs.Exact.{the_law}
use Rattle.runs.proofs.the_sheet_is_true_after_every_run.Goals as goal

pub returns : goal.returns
returns c = the_law

use Rattle.command.proofs.Layouts.{words_by_gaps}
use Rattle.command.proofs.laws.words_are_what_gaps_part.Goals as goal

pub returns : goal.returns
returns c = words_by_gaps

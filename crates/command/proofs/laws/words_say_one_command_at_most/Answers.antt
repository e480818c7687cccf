use Rattle.command.proofs.Apart.{said_apart}
use Rattle.command.proofs.laws.words_say_one_command_at_most.Goals as goal

pub returns : goal.returns
returns c = said_apart

use Rattle.std.proofs.Common.{refl}
use Rattle.command.specs.declared.Command.TheVariants.{Table, Words, Allowance}
use Rattle.command.specs.Words.{words}
use Rattle.command.proofs.Spelling.{bare_tells}
use Rattle.command.proofs.command_of.Goals as goal

pub returns-in-Table : goal.returns-in-Table
returns-in-Table c = bare_tells Table (words c.args.rest.now) c.alone.result c.in-Table.is refl refl c.alone.ensures

pub returns-in-Words : goal.returns-in-Words
returns-in-Words c = bare_tells Words (words c.args.rest.now) c.alone-in-Words.result c.in-Words.is refl refl c.alone-in-Words.ensures

pub returns-in-Allowance : goal.returns-in-Allowance
returns-in-Allowance c = bare_tells Allowance (words c.args.rest.now) c.alone-in-Allowance.result c.in-Allowance.is refl refl c.alone-in-Allowance.ensures

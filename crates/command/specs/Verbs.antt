-- The names of the commands, and their forms.
use Rattle.std.specs.Prelude.{◌≡◌, ◌≢◌, ℕ, List, codes, Result, MatchResult}
use Rattle.std.specs.Borrow.{Bor}
use Rattle.command.specs.declared.verb.Verb.{Verb}
use Rattle.command.specs.declared.verb.Verb.TheVariants.{Grid, Map, Table, Tape, Out, In, Cnot, Words, Serves, Allowance}
use Rattle.command.specs.declared.verb.Mistake.{Mistake}
use Rattle.command.specs.declared.verb.Mistake.TheVariants.{Command, Usage}

abbrev pub name_of : Verb → List ℕ
name_of Grid = codes "grid"
name_of Map = codes "map"
name_of Table = codes "table"
name_of Tape = codes "tape"
name_of Out = codes "out"
name_of In = codes "in"
name_of Cnot = codes "cnot"
name_of Words = codes "words"
name_of Serves = codes "serves"
name_of Allowance = codes "allowance"

-- the command as the manual has it
abbrev pub usage_of : Verb → List ℕ
usage_of Grid = codes "grid R C"
usage_of Map = codes "map FILE"
usage_of Table = codes "table"
usage_of Tape = codes "tape LENGTH"
usage_of Out = codes "out K"
usage_of In = codes "in K"
usage_of Cnot = codes "cnot C T"
usage_of Words = codes "words"
usage_of Serves = codes "serves K"
usage_of Allowance = codes "allowance"

abbrev pub wanted : Mistake → List ℕ
wanted Command = codes "a command"
wanted (Usage v) = usage_of v

-- the verb that a word names; or it names none, and a command was expected
abbrev pub Names : Bor (List ℕ) → Result Verb Mistake → Type 0
Names word r = MatchResult r (λ v. word.now ≡ name_of v) (λ m. (m ≡ Command) × ((v : Verb) → word.now ≢ name_of v))

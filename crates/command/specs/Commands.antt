-- How commands are spelled in words, and what a line's reading says.
use Rattle.std.specs.Prelude.{◌≡◌, ℕ, ◌^◌, ◌<◌, List, [], ◌∷◌, map, Ok, Err, codes, decimal, Result, ◌≢◌, slice_index_or}
use Rattle.std.specs.List.{AllByRecursion}
use Rattle.command.specs.declared.Command.{Command}
use Rattle.command.specs.declared.Command.TheVariants.{Nothing, Grid, Map, Table, Tape, Out, In, Cnot, Words, Serves, Allowance}
use Rattle.command.specs.declared.verb.Verb.{Verb}
use Rattle.command.specs.declared.verb.Mistake.{Mistake}
use Rattle.command.specs.declared.verb.Mistake.TheVariants.{Command as NoCommand, Usage}
use Rattle.command.specs.Verbs.{name_of}

-- a word of a command: as it stands, or by the number that it writes
pub data Part : Type 0 where
  plain : List ℕ → Part
  numeral : ℕ → Part

abbrev pub parts : Command → List Part
parts Nothing = []
parts (Grid rows columns) = plain (codes "grid") ∷ numeral rows ∷ numeral columns ∷ []
parts (Map file) = plain (codes "map") ∷ plain file.now ∷ []
parts Table = plain (codes "table") ∷ []
parts (Tape length) = plain (codes "tape") ∷ numeral length ∷ []
parts (Out coupler) = plain (codes "out") ∷ numeral coupler ∷ []
parts (In coupler) = plain (codes "in") ∷ numeral coupler ∷ []
parts (Cnot control target) = plain (codes "cnot") ∷ numeral control ∷ numeral target ∷ []
parts Words = plain (codes "words") ∷ []
parts (Serves coupler) = plain (codes "serves") ∷ numeral coupler ∷ []
parts Allowance = plain (codes "allowance") ∷ []

abbrev pub spelling : Part → List ℕ
spelling (plain w) = w
spelling (numeral n) = decimal n

-- the words that a command is spelled with
abbrev pub spelled : Command → List (List ℕ)
spelled c = map spelling (parts c)

-- a number that a command can hold
abbrev pub Held : Part → Type 0
Held (plain w) = Unit {0}
Held (numeral n) = n < 2 ^ 64

-- these words say the command
abbrev pub Says : List (List ℕ) → Command → Type 0
Says ws c = AllByRecursion Held (parts c) × (ws ≡ spelled c)

-- the mistake goes by the first word alone
abbrev pub Blames : List (List ℕ) → Mistake → Type 0
Blames ws NoCommand = (v : Verb) → slice_index_or ws 0 [] ≢ name_of v
Blames ws (Usage v) = slice_index_or ws 0 [] ≡ name_of v

abbrev pub SaysNone : List (List ℕ) → Type 0
SaysNone ws = (c : Command) → Says ws c → ⊥

-- the command that the words say; or a mistake, and then they say none
abbrev pub Reads : List (List ℕ) → Result Command Mistake → Type 0
Reads ws (Ok c) = Says ws c
Reads ws (Err m) = SaysNone ws × Blames ws m

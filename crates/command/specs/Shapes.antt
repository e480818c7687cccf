-- What stands behind a command's name: nothing, a word, a number or two.
use Rattle.std.specs.Prelude.{◌≡◌, ℕ, List, [], ◌∷◌, map}
use Rattle.std.specs.List.{AllByRecursion}
use Rattle.command.specs.declared.verb.Verb.{Verb}
use Rattle.command.specs.declared.verb.Verb.TheVariants.{Grid, Map, Table, Tape, Out, In, Cnot, Words, Serves, Allowance}
use Rattle.command.specs.Commands.{Part, plain, numeral, spelling, Held}

pub data Shape : Type 0 where
  bare : Shape
  one_word : Shape
  one_number : Shape
  two_numbers : Shape

abbrev pub shape : Verb → Shape
shape Grid = two_numbers
shape Map = one_word
shape Table = bare
shape Tape = one_number
shape Out = one_number
shape In = one_number
shape Cnot = two_numbers
shape Words = bare
shape Serves = one_number
shape Allowance = bare

-- what a shape is filled with
abbrev pub Filling : Shape → Type 0
Filling bare = Unit {0}
Filling one_word = List ℕ
Filling one_number = ℕ
Filling two_numbers = ℕ × ℕ

abbrev pub filled : (s : Shape) → Filling s → List Part
filled bare x = []
filled one_word w = plain w ∷ []
filled one_number n = numeral n ∷ []
filled two_numbers n = numeral n.0 ∷ numeral n.1 ∷ []

-- these words say the filling
abbrev pub Fills : (s : Shape) → List (List ℕ) → Filling s → Type 0
Fills s ws x = AllByRecursion Held (filled s x) × (ws ≡ map spelling (filled s x))

-- they say none
abbrev pub Unfilled : Shape → List (List ℕ) → Type 0
Unfilled s ws = (x : Filling s) → Fills s ws x → ⊥

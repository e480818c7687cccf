-- The lines that tell of a machine, a block and a plan.
use Rattle.std.specs.Prelude.{ℕ, List, [], ◌∷◌, ◌++◌, length, codes, decimal}
use Rattle.parity.specs.Words.{Gate}

-- one text after another
abbrev pub texts : {A : Type 0} → (A → List ℕ) → List A → List ℕ
texts f [] = []
texts f (x ∷ xs) = f x ++ texts f xs

-- a number in base ten, a space before it
abbrev pub spaced_number : ℕ → List ℕ
spaced_number n = codes " " ++ decimal n

-- a gate as control>target, a space before it
abbrev pub spaced_gate : Gate → List ℕ
spaced_gate g = codes " " ++ (decimal g.0 ++ (codes ">" ++ decimal g.1))

-- the word at each place of a machine
abbrev pub words_text : List ℕ → List ℕ
words_text ws = codes "words" ++ texts spaced_number ws

-- the word of each wire of a block
abbrev pub block_text : List ℕ → List ℕ
block_text ws = codes "block" ++ texts spaced_number ws

-- how many gates there are, each gate, and the new place of each wire
abbrev pub plan_text : List Gate → List ℕ → List ℕ
plan_text gs at = codes "plan: " ++ (decimal (length gs) ++ (codes " gates" ++ (texts spaced_gate gs ++ (codes ", wires at" ++ texts spaced_number at))))

-- Words, gates, and what gates do to the words at the places.
use Rattle.std.specs.Prelude.{◌≡◌, ℕ, ◌+◌, ◌*◌, ◌/◌, ◌%◌, ◌^◌, ◌<◌, List, [], ◌∷◌, map, bit_xor, slice_index, slice_set}
use Rattle.std.specs.List.{range_with_len}

-- A word is a set of inputs: bit i stands for input i.
-- Fresh words of n places: place q carries bit q alone.
unfoldable pub fresh : ℕ → List ℕ
fresh n = map (λ q. 2 ^ q) (range_with_len 0 n)

-- a gate: its control, then its target
abbrev pub Gate : Type 0
Gate = ℕ × ℕ

-- CNOT: the word at the target becomes the exclusive or of the words at control and target
abbrev pub cnot : Gate → List ℕ → List ℕ
cnot g ws = slice_set ws g.1 (bit_xor (slice_index ws g.0) (slice_index ws g.1))

-- gates one after another
abbrev pub replay : List Gate → List ℕ → List ℕ
replay [] ws = ws
replay (g ∷ gs) ws = replay gs (cnot g ws)

-- An entry is a gate written as one number.
abbrev pub entry : Gate → ℕ
entry g = 64 * g.0 + g.1

abbrev pub gate_of : ℕ → Gate
gate_of e = (e / 64, e % 64)

abbrev pub Rereads : Type 0
Rereads = (g : Gate) → g.1 < 64 → gate_of (entry g) ≡ g

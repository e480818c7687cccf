-- The pairing of two sets, and that gates keep it.
use Rattle.std.specs.Prelude.{◌≡◌, ℕ, ◌%◌, ◌≢◌, List, [], ◌∷◌, bit_and, count_ones}
use Rattle.parity.specs.Words.{Gate}
use Rattle.parity.specs.Gates.{act, acts, TwoPlaces, Each}

-- 1 where the sets share an odd number of places, and 0 where an even number
abbrev pub dot : ℕ → ℕ → ℕ
dot x y = count_ones (bit_and x y) % 2

-- the gates with control and target exchanged
abbrev pub turned : List Gate → List Gate
turned [] = []
turned (g ∷ gs) = (g.1, g.0) ∷ turned gs

-- the pairing stays, if the gates act on the other set turned
abbrev pub PairingSurvivesGate : Type 0
PairingSurvivesGate = (c t x y : ℕ) → c ≢ t → dot (act (c, t) x) (act (t, c) y) ≡ dot x y

abbrev pub PairingSurvivesGates : Type 0
PairingSurvivesGates = (n : ℕ) (gs : List Gate) (x y : ℕ) → Each (TwoPlaces n) gs → dot (acts gs x) (acts (turned gs) y) ≡ dot x y

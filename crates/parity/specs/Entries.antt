-- Gates that stand in a buffer of entries.
use Rattle.std.specs.Prelude.{◌≡◌, ℕ, ◌+◌, ◌-◌, ◌≤◌, List, map, take, drop}
use Rattle.parity.specs.Words.{Gate, gate_of}

-- the gates of the entries from i up to j
unfoldable pub gates_in : List ℕ → ℕ → ℕ → List Gate
gates_in es i j = map gate_of (take (j - i) (drop i es))

-- at most `most` entries were written, from i up to j, and the others are as they were
pub record Wrote (before after : List ℕ) (i j most : ℕ) : Type 0 where
  pub forward : i ≤ j
  pub few : j ≤ i + most
  pub front : take i after ≡ take i before
  pub back : drop j after ≡ drop j before

-- The gates that move a set along a tree.
use Rattle.std.specs.Prelude.{◌≡◌, ℕ, ◌<◌, ◌≢◌, ◌⊎◌, List, length, slice_index}
use Rattle.parity.specs.Words.{Gate}
use Rattle.parity.specs.Sets.{bit}
use Rattle.parity.specs.Gates.{acts, Each, Spares}
use Rattle.parity.specs.Entries.{gates_in, Wrote}

-- a gate between u and p, either way
abbrev pub Between : ℕ → ℕ → Gate → Type 0
Between u p g = (g ≡ (u, p)) ⊎ (g ≡ (p, u))

-- a gate between a place of the order, not the first, and its parent
abbrev pub AlongTree : List ℕ → List ℕ → Gate → Type 0
AlongTree order parent g = (i : ℕ) × (0 < i) × (i < length order) × Between (slice_index order i) (slice_index parent (slice_index order i)) g

-- the place u of the set x was cleared through p, and y is left: by the gates that were written from k up to j
pub record Settled (u p x y : ℕ) (before after : List ℕ) (k j : ℕ) : Type 0 where
  pub wrote : Wrote before after k j 2
  pub acted : acts (gates_in after k j) x ≡ y
  pub between : Each (Between u p) (gates_in after k j)
  pub spares_the_others : (q : ℕ) → q ≢ u → bit x q ≡ 1 → Each (Spares q) (gates_in after k j)
  pub cleared : bit y u ≡ 0
  pub others_unchanged : (q : ℕ) → q ≢ u → q ≢ p → bit y q ≡ bit x q
  pub not_emptied : x ≢ 0 → y ≢ 0

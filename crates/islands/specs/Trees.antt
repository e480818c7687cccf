-- Trees on islands: the places in an order with the root first and each other place after its parent.
use Rattle.std.specs.Prelude.{◌≡◌, ℕ, ◌<◌, ◌≢◌, List, length, slice_index}
use Rattle.parity.specs.Sets.{bit}
use Rattle.islands.specs.Graphs.{Reach}

-- the place u, at i in the order, is live; its parent stands before it and is its neighbour
pub record Child (adj : List ℕ) (live : ℕ) (order parent : List ℕ) (i u : ℕ) : Type 0 where
  pub up : (j : ℕ) × (j < i) × (slice_index order j ≡ slice_index parent u)
  pub edge : bit (slice_index adj (slice_index parent u)) u ≡ 1
  pub alive : bit live u ≡ 1

-- the first n of the order are the island of the root, each place once, and each but the root after its parent
pub record TreeOrder (adj : List ℕ) (live root : ℕ) (order parent : List ℕ) (n : ℕ) : Type 0 where
  pub some : 0 < n
  pub first : slice_index order 0 ≡ root
  pub children : (i : ℕ) → 0 < i → i < n → Child adj live order parent i (slice_index order i)
  pub once : (i j : ℕ) → i < n → j < n → slice_index order i ≡ slice_index order j → i ≡ j
  pub below : (i : ℕ) → i < n → slice_index order i < length adj
  pub complete : (q : ℕ) → Reach adj live root q → (i : ℕ) × (i < n) × (slice_index order i ≡ q)

-- each place of the order but the first has its parent before it, and is not its own parent
abbrev pub ParentsFirst : List ℕ → List ℕ → Type 0
ParentsFirst order parent = (i : ℕ) → 0 < i → i < length order
    → (slice_index order i ≢ slice_index parent (slice_index order i)) × ((j : ℕ) × (j < i) × (slice_index order j ≡ slice_index parent (slice_index order i)))

-- each place of the order is below m
abbrev pub PlacesBelow : List ℕ → ℕ → Type 0
PlacesBelow order m = (i : ℕ) → i < length order → slice_index order i < m

-- each place of x stands among the first n of the order
abbrev pub Within : List ℕ → ℕ → ℕ → Type 0
Within order n x = (q : ℕ) → bit x q ≡ 1 → (j : ℕ) × (j < n) × (slice_index order j ≡ q)

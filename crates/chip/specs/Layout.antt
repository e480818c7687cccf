-- Layouts: how many places a chip has, and which places its couplers join.
use Rattle.std.specs.Prelude.{◌≡◌, ℕ, ◌<◌, ◌≤◌, Bool, false, ◌&&◌, ◌||◌, List, length, ◌==◌, ◌≢◌, slice_index_or}

pub record Layout : Type 0 where
  pub places : ℕ
  pub couplers : List (ℕ × ℕ)

-- the ends e are the places a and b, in either order
abbrev pub touches : ℕ → ℕ → ℕ × ℕ → Bool
touches a b e = (e.0 == a && e.1 == b) || (e.0 == b && e.1 == a)

-- sizes in range, ends different and below n, no two couplers between the same two places
pub record Sound (l : Layout) : Type 0 where
  pub some_place : 1 ≤ l.places
  pub at_most_64 : l.places ≤ 64
  pub at_most_256 : length l.couplers ≤ 256
  pub left_below : (k : ℕ) → k < length l.couplers → (slice_index_or l.couplers k (0, 0)).0 < l.places
  pub right_below : (k : ℕ) → k < length l.couplers → (slice_index_or l.couplers k (0, 0)).1 < l.places
  pub differ : (k : ℕ) → k < length l.couplers → (slice_index_or l.couplers k (0, 0)).0 ≢ (slice_index_or l.couplers k (0, 0)).1
  pub apart : (j k : ℕ) → j < k → k < length l.couplers
      → touches (slice_index_or l.couplers j (0, 0)).0 (slice_index_or l.couplers j (0, 0)).1 (slice_index_or l.couplers k (0, 0)) ≡ false

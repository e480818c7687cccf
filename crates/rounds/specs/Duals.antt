-- Wanted sets and duals. A wire's wanted set has the places whose words are to be added up for it;
-- its dual is a second set of places, by which the wires are told apart.
use Rattle.std.specs.Prelude.{◌≡◌, ℕ, ◌<◌, ◌≢◌, List, slice_index}
use Rattle.parity.specs.Words.{Gate}
use Rattle.parity.specs.Gates.{acts}
use Rattle.parity.specs.Pairing.{dot}

-- each set of the first n shares an odd number of places with its own dual, and an even number with any other
pub record Paired (n : ℕ) (sets duals : List ℕ) : Type 0 where
  pub own : (w : ℕ) → w < n → dot (slice_index sets w) (slice_index duals w) ≡ 1
  pub other : (w v : ℕ) → w < n → v < n → w ≢ v → dot (slice_index sets w) (slice_index duals v) ≡ 0

-- each set of ys is what the gates make of that of xs
abbrev pub Moved : List Gate → List ℕ → List ℕ → Type 0
Moved gs xs ys = (v : ℕ) → slice_index ys v ≡ acts gs (slice_index xs v)

-- Wires at places, and sets of wires as sets of places.
use Rattle.std.specs.Prelude.{◌≡◌, ℕ, ◌^◌, ◌<◌, ◌↔◌, List, map, length, slice_index}
use Rattle.parity.specs.Sets.{bit, xor_over}

-- a place of its own for each of n wires
pub record Placement (n : ℕ) (at : List ℕ) : Type 0 where
  pub one_each : length at ≡ n
  pub below : (w : ℕ) → w < n → slice_index at w < n
  pub apart : (v w : ℕ) → v < n → w < n → slice_index at v ≡ slice_index at w → v ≡ w

-- the places of the wires in x
abbrev pub wires_to_places : List ℕ → ℕ → ℕ
wires_to_places at x = xor_over (map (λ (p : ℕ). 2 ^ p) at) x

-- q is the place of a wire in x
pub record PlaceOf (n : ℕ) (at : List ℕ) (x q : ℕ) : Type 0 where
  pub wire : ℕ
  pub below : wire < n
  pub in_word : bit x wire ≡ 1
  pub place : slice_index at wire ≡ q

-- under a placement `wires_to_places` has those places and no others
abbrev pub PlacesExactly : Type 0
PlacesExactly = (n : ℕ) (at : List ℕ) (x q : ℕ) → Placement n at → (bit (wires_to_places at x) q ≡ 1) ↔ PlaceOf n at x q

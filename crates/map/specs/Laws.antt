-- What the checks of a map file come to, in the words of layouts.
use Rattle.std.specs.Prelude.{◌≡◌, ℕ, ◌+◌, ◌*◌, ◌<◌, ◌≤◌, ◌⊎◌, ◌↔◌, List, length, Some, None, ◌≢◌}
use Rattle.chip.specs.declared.fault.ChipFault.TheVariants.{WrongLength, SizeOffLimits, BadCoupler, NoMemory}
use Rattle.chip.specs.Layout.{Layout, Sound}
use Rattle.chip.specs.Chips.{ends_at, Joins}
use Rattle.map.specs.File.{map_places, map_couplers, map_layout, map_fault}

-- no sound layout has coupler k: an end is no place, its ends are one place, or an earlier coupler joins the same two
pub data Bad (l : Layout) (k : ℕ) : Type 0 where
  left_off : l.places ≤ (ends_at l k).0 → Bad l k
  right_off : l.places ≤ (ends_at l k).1 → Bad l k
  loops : (ends_at l k).0 ≡ (ends_at l k).1 → Bad l k
  repeats : (j : ℕ) → j < k → Joins l (ends_at l k).0 (ends_at l k).1 j → Bad l k

-- n is 1 to 64 and m at most 256
pub record SizesFit (file : List ℕ) : Type 0 where
  pub some_place : 1 ≤ map_places file
  pub at_most_64 : map_places file ≤ 64
  pub at_most_256 : map_couplers file ≤ 256

-- a file of a chip: the three size bytes are there, it is as long as they say, and its layout is sound
pub record WellFormed (file : List ℕ) : Type 0 where
  pub header : 3 ≤ length file
  pub whole : length file ≡ 3 + 2 * map_couplers file
  pub sound : Sound (map_layout file)

abbrev pub SoundExactly : Type 0
SoundExactly = (file : List ℕ) → (map_fault file ≡ None) ↔ WellFormed file

-- sizes and length are right, coupler k is bad, and none before it is
pub record FirstBadCoupler (file : List ℕ) (k : ℕ) : Type 0 where
  pub header : 3 ≤ length file
  pub sizes : SizesFit file
  pub whole : length file ≡ 3 + 2 * map_couplers file
  pub there : k < map_couplers file
  pub bad : Bad (map_layout file) k
  pub first : (j : ℕ) → j < k → Bad (map_layout file) j → ⊥

abbrev pub FirstBadExactly : Type 0
FirstBadExactly = (file : List ℕ) (k : ℕ) → (map_fault file ≡ Some (BadCoupler k)) ↔ FirstBadCoupler file k

-- the sizes are looked at before the length that they call for
abbrev pub SizeExactly : Type 0
SizeExactly = (file : List ℕ) → (map_fault file ≡ Some SizeOffLimits) ↔ ((3 ≤ length file) × (SizesFit file → ⊥))

-- fewer than three bytes, or another length than 3 + 2m
abbrev pub LengthExactly : Type 0
LengthExactly =
    (file : List ℕ) → (map_fault file ≡ Some WrongLength) ↔ ((length file < 3) ⊎ (SizesFit file × (length file ≢ 3 + 2 * map_couplers file)))

-- so a refusal for want of memory tells of a file without fault
abbrev pub NeverForMemory : Type 0
NeverForMemory = (file : List ℕ) → map_fault file ≢ Some NoMemory

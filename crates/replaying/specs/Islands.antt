-- Places that hang together over couplers in service, and names for their islands.
use Rattle.std.specs.Prelude.{◌≡◌, ℕ, zero, suc, ◌^◌, ◌<◌, Bool, cond, List, length, ◌==◌, bit_xor, slice_index}
use Rattle.parity.specs.Sets.{bit}
use Rattle.chip.specs.Layout.{Layout}
use Rattle.machine.specs.OnCoupler.{OnCoupler}

-- a way over couplers in service leads from p to the place
pub data HangTogether (l : Layout) (service : List Bool) (p : ℕ) : ℕ → Type 0 where
  here : HangTogether l service p p
  onward : {q r : ℕ} → HangTogether l service p q → OnCoupler l service (q, r) → HangTogether l service p r

-- of 64 places two have one name exactly when they hang together
pub record NamesIslands (l : Layout) (service : List Bool) (names : List ℕ) : Type 0 where
  pub one_name : (p q : ℕ) → p < 64 → q < 64 → HangTogether l service p q → slice_index names p ≡ slice_index names q
  pub no_other : (p q : ℕ) → p < 64 → q < 64 → slice_index names p ≡ slice_index names q → HangTogether l service p q

-- the name x with one name put for another
abbrev pub renamed : ℕ → ℕ → ℕ → ℕ
renamed name other x = cond (x == other) name x

-- each of 64 places that is in the set has the name
abbrev pub AllNamed : ℕ → List ℕ → ℕ → Type 0
AllNamed set names name = (q : ℕ) → q < 64 → bit set q ≡ 1 → slice_index names q ≡ name

-- the places in the set all have one name
abbrev pub OnOneIsland : List ℕ → ℕ → Type 0
OnOneIsland names set = (p : ℕ) → p < 64 → bit set p ≡ 1 → AllNamed set names (slice_index names p)

-- the wire has one of 64 places
abbrev pub HasPlace : List ℕ → ℕ → Type 0
HasPlace at w = (w < length at) × (slice_index at w < 64)

-- each wire in the word has one of 64 places
abbrev pub HavePlaces : List ℕ → ℕ → Type 0
HavePlaces at word = (w : ℕ) → w < 64 → bit word w ≡ 1 → HasPlace at w

-- the places of the wires below n that are in the word
unfoldable pub places_below : List ℕ → ℕ → ℕ → ℕ
places_below at word zero = 0
places_below at word (suc w) = cond (bit word w == 1) (bit_xor (places_below at word w) (2 ^ slice_index at w)) (places_below at word w)

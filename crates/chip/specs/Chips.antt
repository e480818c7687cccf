-- What a chip answers, from its layout alone.
use Rattle.std.specs.Prelude.{◌≡◌, ℕ, ◌+◌, ◌<◌, cond, ◌⊎◌, ◌↔◌, List, [], ◌∷◌, length, Some, None, Option, nat_lt, slice_index_or}
use Rattle.chip.specs.declared.fault.ChipFault.{ChipFault}
use Rattle.chip.specs.declared.fault.ChipFault.TheVariants.{NoSuchCoupler}
use Rattle.chip.specs.Layout.{Layout, Sound, touches}

-- the ends of coupler k, left then right
abbrev pub ends_at : Layout → ℕ → ℕ × ℕ
ends_at l k = slice_index_or l.couplers k (0, 0)

abbrev pub coupler_fault : Layout → ℕ → Option ChipFault
coupler_fault l k = cond (nat_lt k (length l.couplers)) None (Some NoSuchCoupler)

-- the first of the couplers k, k + 1, .. that joins a and b
abbrev pub joining_from : ℕ → ℕ → ℕ → List (ℕ × ℕ) → Option ℕ
joining_from a b k [] = None
joining_from a b k (e ∷ es) = cond (touches a b e) (Some k) (joining_from a b (k + 1) es)

abbrev pub joining : ℕ → ℕ → List (ℕ × ℕ) → Option ℕ
joining a b es = joining_from a b 0 es

-- coupler k has the ends a and b, in one order or the other
pub record Joins (l : Layout) (a b k : ℕ) : Type 0 where
  pub there : k < length l.couplers
  pub ends : (ends_at l k ≡ (a, b)) ⊎ (ends_at l k ≡ (b, a))

abbrev pub JoinsExactly : Type 0
JoinsExactly = (l : Layout) → Sound l → (a b k : ℕ) → (joining a b l.couplers ≡ Some k) ↔ Joins l a b k

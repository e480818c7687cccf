-- Neighbours: places that a coupler in service joins.
use Rattle.std.specs.Prelude.{◌≡◌, ℕ, Bool, false, cond, ◌⊎◌, ◌↔◌, List, length, Some, None, Option, slice_index, slice_index_or}
use Rattle.parity.specs.Sets.{bit}
use Rattle.chip.specs.Layout.{Layout}
use Rattle.chip.specs.Chips.{ends_at}
use Rattle.machine.specs.OnCoupler.{OnCoupler}

-- two places are neighbours exactly when a coupler in service joins them
pub record Shows (l : Layout) (service : List Bool) (adj : List ℕ) : Type 0 where
  pub places : length adj ≡ l.places
  pub neighbours : (p q : ℕ) → (bit (slice_index adj p) q ≡ 1) ↔ OnCoupler l service (p, q)

-- a way over couplers in service
pub data CouplerWay (l : Layout) (service : List Bool) (s : ℕ) : ℕ → Type 0 where
  stay : CouplerWay l service s s
  step : {q r : ℕ} → CouplerWay l service s q → OnCoupler l service (q, r) → CouplerWay l service s r

-- the ends of coupler k, if it is in service
abbrev pub serving_ends : Layout → List Bool → ℕ → Option (ℕ × ℕ)
serving_ends l service k = cond (slice_index_or service k false) (Some (ends_at l k)) None

-- a and b became neighbours, and nothing else changed
pub record Added (before after : List ℕ) (a b : ℕ) : Type 0 where
  pub rows : length after ≡ length before
  pub joined : (p q : ℕ) → (bit (slice_index after p) q ≡ 1) ↔ ((bit (slice_index before p) q ≡ 1) ⊎ (((p ≡ a) × (q ≡ b)) ⊎ ((p ≡ b) × (q ≡ a))))

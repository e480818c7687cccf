-- Gates on couplers in service, told without the machine's calls.
use Rattle.std.specs.Prelude.{◌≡◌, ℕ, ◌≤◌, Bool, true, false, ◌↔◌, List, [], ◌∷◌, None, slice_index_or}
use Rattle.chip.specs.Layout.{Layout, Sound}
use Rattle.chip.specs.Chips.{Joins}
use Rattle.parity.specs.Words.{Gate}
use Rattle.machine.specs.Meaning.{Meaning}
use Rattle.machine.specs.Calls.{cnot_fault}

-- a coupler in service joins the gate's two places
pub record OnCoupler (l : Layout) (service : List Bool) (g : Gate) : Type 0 where
  pub coupler : ℕ
  pub joins : Joins l g.0 g.1 coupler
  pub serves : slice_index_or service coupler false ≡ true

abbrev pub OnCouplers : Layout → List Bool → List Gate → Type 0
OnCouplers l service [] = Unit {0}
OnCouplers l service (g ∷ gs) = OnCoupler l service g × OnCouplers l service gs

abbrev pub ObeysExactly : Type 0
ObeysExactly = (l : Layout) (s : Meaning) (g : Gate) → Sound l → 1 ≤ s.allowance
    → (cnot_fault l s g.0 g.1 ≡ None) ↔ OnCoupler l s.service g

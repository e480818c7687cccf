-- What ties the planner's words to the machine's, each law held by a function of src/laws.rt.
use Rattle.std.specs.Prelude.{◌≡◌, ℕ, ◌≤◌, Bool, ◌↔◌, List, None}
use Rattle.parity.specs.Words.{Gate}
use Rattle.parity.specs.Sets.{bit}
use Rattle.parity.specs.Gates.{acts, Each}
use Rattle.islands.specs.Graphs.{OnEdge}
use Rattle.chip.specs.Layout.{Layout, Sound}
use Rattle.machine.specs.Meaning.{Meaning}
use Rattle.machine.specs.Calls.{cnot_fault}
use Rattle.machine.specs.OnCoupler.{OnCoupler}
use Rattle.rounds.specs.Ways.{Way}
use Rattle.planner.specs.Adjacent.{Shows, CouplerWay}
use Rattle.planner.specs.Plans.{Reaches}

-- with allowance left, a machine obeys exactly the gates between neighbours
abbrev pub ObeysNeighbours : Type 0
ObeysNeighbours = (l : Layout) (s : Meaning) (adj : List ℕ) (g : Gate) → Sound l → Shows l s.service adj → 1 ≤ s.allowance
    → (cnot_fault l s g.0 g.1 ≡ None) ↔ OnEdge adj g

-- two places of x have no way over couplers in service between them
pub record OnTwoIslands (l : Layout) (service : List Bool) (x : ℕ) : Type 0 where
  pub from : ℕ
  pub to : ℕ
  pub has_from : bit x from ≡ 1
  pub has_to : bit x to ≡ 1
  pub no_way : CouplerWay l service from to → ⊥

-- each two places of x have one
abbrev pub OnOneIsland : Layout → List Bool → ℕ → Type 0
OnOneIsland l service x = (p q : ℕ) → bit x p ≡ 1 → bit x q ≡ 1 → CouplerWay l service p q

-- a set that needs places on two islands does so after any gates on couplers in service
abbrev pub TwoIslandsStay : Type 0
TwoIslandsStay = (l : Layout) (service : List Bool) (x : ℕ) (gs : List Gate) → Sound l → OnTwoIslands l service x → Each (OnCoupler l service) gs
    → OnTwoIslands l service (acts gs x)

-- a way between neighbours is a way over couplers in service
abbrev pub WaysOverCouplers : Type 0
WaysOverCouplers = (l : Layout) (service : List Bool) (adj : List ℕ) (p q : ℕ) → Shows l service adj → Way adj p q ↔ CouplerWay l service p q

-- gates between neighbours are gates on couplers in service
abbrev pub PlansOverCouplers : Type 0
PlansOverCouplers = (l : Layout) (service : List Bool) (adj : List ℕ) (n : ℕ) (block old : List ℕ) (gs : List Gate) (new : List ℕ) → Shows l service adj
    → Reaches (OnEdge adj) n block old gs new ↔ Reaches (OnCoupler l service) n block old gs new

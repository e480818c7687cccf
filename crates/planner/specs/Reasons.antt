-- Why there is no plan.
use Rattle.std.specs.Prelude.{ℕ, ◌<◌, Bool, List, length, slice_index}
use Rattle.parity.specs.Placements.{wires_to_places}
use Rattle.chip.specs.Layout.{Layout}
use Rattle.rounds.specs.Ways.{Straddles}
use Rattle.planner.specs.Laws.{OnOneIsland, OnTwoIslands}

-- the word of some wire needs two places with no way between neighbours from one to the other
pub record SomeStraddles (adj block at : List ℕ) : Type 0 where
  pub wire : ℕ
  pub below : wire < length adj
  pub straddles : Straddles adj (wires_to_places at (slice_index block wire))

-- the word of some wire needs places on two islands
pub record SomeOnTwo (l : Layout) (service : List Bool) (block at : List ℕ) : Type 0 where
  pub wire : ℕ
  pub below : wire < l.places
  pub on_two : OnTwoIslands l service (wires_to_places at (slice_index block wire))

-- w is the first wire whose word needs places on two islands
pub record FirstOnTwo (l : Layout) (service : List Bool) (block at : List ℕ) (w : ℕ) : Type 0 where
  pub below : w < l.places
  pub on_two : OnTwoIslands l service (wires_to_places at (slice_index block w))
  pub before : (v : ℕ) → v < w → OnOneIsland l service (wires_to_places at (slice_index block v))

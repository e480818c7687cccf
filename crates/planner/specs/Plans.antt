-- Plans: a list of gates and a new placement. A block has for each wire a word: the set of wires,
-- as they were when the block began, that add up to it.
use Rattle.std.specs.Prelude.{◌≡◌, ℕ, ◌-◌, ◌*◌, ◌^◌, ◌<◌, ◌≤◌, ◌↔◌, List, length, count_ones, slice_index}
use Rattle.parity.specs.Words.{Gate, fresh, replay}
use Rattle.parity.specs.Gates.{Each}
use Rattle.parity.specs.Entries.{gates_in, Wrote}
use Rattle.parity.specs.Placements.{Placement, wires_to_places}

-- the most gates that a plan for n wires has
abbrev pub room : ℕ → ℕ
room n = 2 * (n * (n - 1))

-- replayed from fresh words, the gates leave at the new place of each wire the old places of the wires in its block word
abbrev pub Delivers : ℕ → List ℕ → List ℕ → List Gate → List ℕ → Type 0
Delivers n block old gs new = (w : ℕ) → w < n → slice_index (replay gs (fresh n)) (slice_index new w) ≡ wires_to_places old (slice_index block w)

-- every word of the block has exactly one bit
abbrev pub Renames : ℕ → List ℕ → Type 0
Renames n block = (w : ℕ) → w < n → count_ones (slice_index block w) ≡ 1

-- gates, each of them on a coupler (On), and a placement do what the block asks
pub record Reaches (On : Gate → Type 0) (n : ℕ) (block old : List ℕ) (gs : List Gate) (new : List ℕ) : Type 0 where
  pub on_couplers : Each On gs
  pub placed : Placement n new
  pub delivers : Delivers n block old gs new

-- no list of gates, of any length, does it with any placement
abbrev pub NoPlan : (Gate → Type 0) → ℕ → List ℕ → List ℕ → Type 0
NoPlan On n block old = (gs : List Gate) (new : List ℕ) → Reaches On n block old gs new → ⊥

-- the first k entries are a plan with the placement `new`; the later ones are as they were
pub record PlanIn (On : Gate → Type 0) (n : ℕ) (block old before after : List ℕ) (k : ℕ) (new : List ℕ) : Type 0 where
  pub wrote : Wrote before after 0 k (room n)
  pub reaches : Reaches On n block old (gates_in after 0 k) new
  pub idle_exactly : (k ≡ 0) ↔ Renames n block

-- at has for each set that is a single place that place
pub record Lowest (sets at : List ℕ) : Type 0 where
  pub wide : length sets ≤ length at
  pub singles : (w p : ℕ) → w < length sets → p < 64 → slice_index sets w ≡ 2 ^ p → slice_index at w ≡ p

-- Slots whose passes can all be ended, and how many passes there are.
use Rattle.std.specs.Prelude.{◌≡◌, ℕ, ◌+◌, true, [], ◌∷◌, Some, None, Option, slice_index_or}
use Rattle.session_fault.specs.declared.SessionFault.{SessionFault}
use Rattle.session.specs.declared.pass.Pass.{Pass}
use Rattle.session.specs.declared.records.CouplerRecord.TheVariants.{Out, WrittenOff}
use Rattle.session.specs.State.{State, sized}
use Rattle.session.specs.Outages.{end_fault, recorded}
use Rattle.script.specs.Slots.{Slots}

-- every pass in a slot can be ended here, and no two are for one coupler
pub record Good (s : State) (h : Slots) : Type 0 where
  pub size : sized s ≡ true
  pub own : (i : ℕ) (p : Pass) → slice_index_or h i None ≡ Some p → (p.session ≡ s.session.number) × (slice_index_or s.session.records p.coupler WrittenOff ≡ Out)
  pub apart : (i j : ℕ) (p q : Pass) → slice_index_or h i None ≡ Some p → slice_index_or h j None ≡ Some q → p.coupler ≡ q.coupler → i ≡ j

-- how many passes are in one slot
abbrev pub passes_in : Option Pass → ℕ
passes_in None = 0
passes_in (Some p) = 1

-- how many slots have a pass
abbrev pub filled_count : Slots → ℕ
filled_count [] = 0
filled_count (x ∷ h) = passes_in x + filled_count h

-- why the pass of a slot cannot be ended; an empty slot has none to end
abbrev pub slot_fault : State → Option Pass → Option SessionFault
slot_fault s None = None
slot_fault s (Some p) = end_fault s p

-- the pass of a slot is written off
abbrev pub after_write_off : State → Option Pass → State
after_write_off s None = s
after_write_off s (Some p) = recorded s p.coupler WrittenOff s.machine.service

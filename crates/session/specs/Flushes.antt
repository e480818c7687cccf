-- Flush: from a state and a plan buffer, with an answer, to a state and what the buffer then holds.
use Rattle.std.specs.Prelude.{◌≡◌, ℕ, ◌<◌, ◌≤◌, true, false, List, map, length, Ok, Err, Result}
use Rattle.std.specs.Option.{option_map}
use Rattle.chip.specs.Answers.{answered, kept}
use Rattle.machine.specs.declared.fault.MachineFault.TheVariants.{AllowanceExceeded}
use Rattle.machine.specs.Calls.{fits_fault}
use Rattle.machine.specs.OnCoupler.{OnCoupler}
use Rattle.parity.specs.Words.{Gate, gate_of}
use Rattle.parity.specs.Entries.{gates_in}
use Rattle.play.specs.Playing.{replayed}
use Rattle.planner.specs.Plans.{room, PlanIn, NoPlan}
use Rattle.session_fault.specs.declared.SessionFault.{SessionFault}
use Rattle.session_fault.specs.declared.SessionFault.TheVariants.{SizeMismatch, PlanBufferTooShort, Unreachable, Machine}
use Rattle.session.specs.State.{State, beside, sized}
use Rattle.session.specs.Begins.{begun}

-- the first entries of the buffer are a plan for the block, on couplers in service
abbrev pub HasPlan : State → List ℕ → List ℕ → ℕ → List ℕ → Type 0
HasPlan s before after count new =
    PlanIn (OnCoupler s.layout s.machine.service) s.session.places s.session.block s.session.placement before after count new

-- no list of gates on couplers in service, of any length, does what the block asks, with any placement
abbrev pub PlanLess : State → Type 0
PlanLess s = NoPlan (OnCoupler s.layout s.machine.service) s.session.places s.session.block s.session.placement

-- the gates were played, the wires are at their new places, and a new block has begun
abbrev pub flushed : State → List Gate → List ℕ → State
flushed s gs new = beside (begun s.session new) s.layout (replayed s.machine gs)

-- gates that are on couplers are played, if the machine's allowance is enough
pub record CarriesOut (s : State) (entries new : List ℕ) (r : Result ℕ SessionFault) (t : State) : Type 0 where
  pub answer : r ≡ answered (option_map Machine (fits_fault s.machine (length entries))) (length entries)
  pub leaves : t ≡ kept (option_map Machine (fits_fault s.machine (length entries))) (flushed s (map gate_of entries) new) s

-- every outcome of a flush
pub data Flush (s : State) (buffer : List ℕ) : Result ℕ SessionFault → State → List ℕ → Type 0 where
  other_size : sized s ≡ false → Flush s buffer (Err SizeMismatch) s buffer
  short : sized s ≡ true → length buffer < room s.session.places
      → Flush s buffer (Err (PlanBufferTooShort (room s.session.places))) s buffer
  unreachable : sized s ≡ true → room s.session.places ≤ length buffer → PlanLess s → Flush s buffer (Err Unreachable) s buffer
  too_many : (count : ℕ) (new entries : List ℕ) → sized s ≡ true → room s.session.places ≤ length buffer → HasPlan s buffer entries count new
      → s.machine.allowance < count
      → Flush s buffer (Err (Machine (AllowanceExceeded count s.machine.allowance))) s entries
  plays : (count : ℕ) (new entries : List ℕ) → sized s ≡ true → room s.session.places ≤ length buffer → HasPlan s buffer entries count new
      → count ≤ s.machine.allowance
      → Flush s buffer (Ok count) (flushed s (gates_in entries 0 count) new) entries

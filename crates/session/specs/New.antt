-- A new session on a new machine.
use Rattle.std.specs.Prelude.{◌≡◌, ℕ, ◌<◌, ◌⊎◌, List, length, replicate, Result, MatchResult, slice_index}
use Rattle.chip.specs.Layout.{Layout}
use Rattle.machine.specs.Meaning.{Meaning}
use Rattle.parity.specs.Words.{fresh}
use Rattle.newness.specs.New.{NewMachine}
use Rattle.session_fault.specs.declared.SessionFault.{SessionFault}
use Rattle.session_fault.specs.declared.SessionFault.TheVariants.{MachineNotNew, NoMemory}
use Rattle.session.specs.declared.records.CouplerRecord.{CouplerRecord}
use Rattle.session.specs.declared.records.CouplerRecord.TheVariants.{In}
use Rattle.session.specs.declared.store.Session.{Session}
use Rattle.session.specs.State.{View, State}
use Rattle.session.specs.Views.{state}

-- a session with these sizes and number: a block that does nothing, wire w at place w
pub record Starts (n number : ℕ) (records : List CouplerRecord) (v : View) : Type 0 where
  pub places : v.places ≡ n
  pub couplers : v.couplers ≡ length records
  pub number_is : v.number ≡ number
  pub new_block : v.block ≡ fresh n
  pub all_placed : length v.placement ≡ n
  pub at_own_places : (w : ℕ) → w < n → slice_index v.placement w ≡ w
  pub records_are : v.records ≡ records

-- both are new: the session's sizes are the machine's, and every coupler is recorded as in
pub record New (s : State) : Type 0 where
  pub machine_new : NewMachine s.layout s.machine
  pub session_new : Starts s.layout.places s.session.number (replicate (length s.layout.couplers) In) s.session

-- a new session with that number; or the machine is not new; or memory was wanting
abbrev pub Opens : Layout → Meaning → ℕ → Result Session SessionFault → Type 0
Opens l m number r =
    MatchResult r (λ s. New (state s l m) × ((state s l m).session.number ≡ number))
    (λ f. ((f ≡ MachineNotNew) × (NewMachine l m → ⊥)) ⊎ ((f ≡ NoMemory) × NewMachine l m))

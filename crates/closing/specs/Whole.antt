-- A script from a new session to its end.
use Rattle.std.specs.Prelude.{◌≡◌, ℕ, ◌⊎◌, List, replicate, None, Result, MatchResult}
use Rattle.chip.specs.Layout.{Layout}
use Rattle.machine.specs.Meaning.{Meaning}
use Rattle.session_fault.specs.declared.SessionFault.{SessionFault}
use Rattle.session_fault.specs.declared.SessionFault.TheVariants.{MachineNotNew, NoMemory}
use Rattle.session.specs.State.{View, State, beside}
use Rattle.newness.specs.New.{NewMachine}
use Rattle.session.specs.New.{New}
use Rattle.script.specs.declared.order.Turn.{Turn}
use Rattle.script.specs.Slots.{Slots}
use Rattle.script.specs.Turns.{with, Ran}
use Rattle.closing.specs.Good.{filled_count}

-- the script ran from s and these slots to a machine of that layout and meaning, and so many passes were then in slots
pub record RanToEnd (s : State) (h : Slots) (buffer : List ℕ) (ts : List Turn) (count : ℕ) (l : Layout) (m : Meaning) (left : List ℕ) : Type 0 where
  pub last : View
  pub slots : Slots
  pub ran : Ran (with s h buffer) ts (with (beside last l m) slots left)
  pub passes : count ≡ filled_count slots

-- it began with a new session of that number and n empty slots
pub record Whole (l : Layout) (m : Meaning) (number n : ℕ) (buffer : List ℕ) (ts : List Turn) (count : ℕ) (k : Layout) (o : Meaning) (left : List ℕ) : Type 0 where
  pub first : View
  pub new : New (beside first l m)
  pub number_is : first.number ≡ number
  pub ends : RanToEnd (beside first l m) (replicate n None) buffer ts count k o left

-- nothing was run, and nothing changed: the machine is not new, or memory was wanting
pub record NotRun (l : Layout) (m : Meaning) (buffer : List ℕ) (ts : List Turn) (f : SessionFault) (k : Layout) (o : Meaning) (left : List ℕ) (us : List Turn) : Type 0 where
  pub reason : ((f ≡ MachineNotNew) × (NewMachine l m → ⊥)) ⊎ ((f ≡ NoMemory) × NewMachine l m)
  pub same_chip : k ≡ l
  pub same_machine : o ≡ m
  pub same_buffer : left ≡ buffer
  pub same_script : us ≡ ts

abbrev pub RunsWhole : Layout → Meaning → ℕ → ℕ → List ℕ → List Turn → Result ℕ SessionFault → Layout → Meaning → List ℕ → List Turn → Type 0
RunsWhole l m number n buffer ts r k o left us = MatchResult r (λ count. Whole l m number n buffer us count k o left) (λ f. NotRun l m buffer ts f k o left us)

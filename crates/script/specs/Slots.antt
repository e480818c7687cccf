-- Slots for passes: an obeyed take-out fills one, an obeyed give-back or write-off empties one.
use Rattle.std.specs.Prelude.{◌≡◌, ℕ, Bool, false, cond, not, List, length, is_some, Some, None, Ok, Err, Option, Result, nat_lt, slice_index_or, slice_set}
use Rattle.session_fault.specs.declared.SessionFault.{SessionFault}
use Rattle.session.specs.declared.pass.Pass.{Pass}
use Rattle.session.specs.State.{State}
use Rattle.session.specs.Outages.{TakeOut, GiveBack, WriteOff}
use Rattle.script.specs.declared.order.Outcome.{Outcome}
use Rattle.script.specs.Answers.{plain, ended}

abbrev pub Slots : Type 0
Slots = List (Option Pass)

-- there is such a slot, and it is empty
abbrev pub vacant : Slots → ℕ → Bool
vacant h slot = cond (nat_lt slot (length h)) (not (is_some (slice_index_or h slot None))) false

-- there is such a slot, and a pass in it
abbrev pub filled : Slots → ℕ → Bool
filled h slot = cond (nat_lt slot (length h)) (is_some (slice_index_or h slot None)) false

-- a pass that was handed out goes into the slot
abbrev pub stowed : Result Pass SessionFault → ℕ → Slots → Slots
stowed (Ok p) slot h = slice_set h slot (Some p)
stowed (Err f) slot h = h

-- a pass that was taken leaves the slot; one turned down stays
abbrev pub emptied : Result (Unit {0}) (SessionFault × Pass) → ℕ → Slots → Slots
emptied (Ok a) slot h = slice_set h slot None
emptied (Err e) slot h = h

pub record TakesInto (s : State) (h : Slots) (k slot : ℕ) (a : Result Outcome SessionFault) (t : State) (i : Slots) : Type 0 where
  pub result : Result Pass SessionFault
  pub call : TakeOut s k result t
  pub answer : a ≡ plain result
  pub slots : i ≡ stowed result slot h

pub record GivesFrom (s : State) (h : Slots) (slot : ℕ) (a : Result Outcome SessionFault) (t : State) (i : Slots) : Type 0 where
  pub pass : Pass
  pub there : slice_index_or h slot None ≡ Some pass
  pub result : Result (Unit {0}) (SessionFault × Pass)
  pub call : GiveBack s pass result t
  pub answer : a ≡ ended result
  pub slots : i ≡ emptied result slot h

pub record WritesFrom (s : State) (h : Slots) (slot : ℕ) (a : Result Outcome SessionFault) (t : State) (i : Slots) : Type 0 where
  pub pass : Pass
  pub there : slice_index_or h slot None ≡ Some pass
  pub result : Result (Unit {0}) (SessionFault × Pass)
  pub call : WriteOff s pass result t
  pub answer : a ≡ ended result
  pub slots : i ≡ emptied result slot h

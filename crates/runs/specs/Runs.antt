-- Lists of calls on a session and a machine.
use Rattle.std.specs.Prelude.{ℕ, Bool, List, [], ◌∷◌, length, is_ok, Result}
use Rattle.chip.specs.Layout.{Layout}
use Rattle.machine.specs.Meaning.{Meaning}
use Rattle.session_fault.specs.declared.SessionFault.{SessionFault}
use Rattle.session.specs.declared.pass.Pass.{Pass}
use Rattle.session.specs.State.{View, State, beside}
use Rattle.session.specs.Calls.{Cx, Swap}
use Rattle.session.specs.Outages.{TakeOut, GiveBack, WriteOff}
use Rattle.session.specs.Flushes.{Flush}

-- a call's name and arguments; of a flush's buffer its length
pub data Call : Type 0 where
  cx : ℕ → ℕ → Call
  swap : ℕ → ℕ → Call
  take_out : ℕ → Call
  give_back : Pass → Call
  write_off : Pass → Call
  flush : ℕ → Call

-- a call, and whether it was obeyed
pub record Event : Type 0 where
  pub call : Call
  pub obeyed : Bool

abbrev pub made : Call → Bool → Event
made c b = record { call = c; obeyed = b }

-- one call, by the call's own relation
pub data Step : State → Event → State → Type 0 where
  adds : (v w : View) (l : Layout) (m : Meaning) (a b : ℕ) (r : Result (Unit {0}) SessionFault)
      → Cx v a b r w → Step (beside v l m) (made (cx a b) (is_ok r)) (beside w l m)
  swaps : (v w : View) (l : Layout) (m : Meaning) (a b : ℕ) (r : Result (Unit {0}) SessionFault)
      → Swap v a b r w → Step (beside v l m) (made (swap a b) (is_ok r)) (beside w l m)
  takes_out : (s t : State) (k : ℕ) (r : Result Pass SessionFault) → TakeOut s k r t → Step s (made (take_out k) (is_ok r)) t
  gives_back : (s t : State) (p : Pass) (r : Result (Unit {0}) (SessionFault × Pass)) → GiveBack s p r t → Step s (made (give_back p) (is_ok r)) t
  writes_off : (s t : State) (p : Pass) (r : Result (Unit {0}) (SessionFault × Pass)) → WriteOff s p r t → Step s (made (write_off p) (is_ok r)) t
  flushes : (s t : State) (buffer left : List ℕ) (r : Result ℕ SessionFault) → Flush s buffer r t left → Step s (made (flush (length buffer)) (is_ok r)) t

-- one call after another
pub data Run : State → List Event → State → Type 0 where
  ended : (s : State) → Run s [] s
  then : (s t u : State) (e : Event) (es : List Event) → Step s e t → Run t es u → Run s (e ∷ es) u

-- The turns of a script: each makes the call that its order asks for, by the call's own relation.
use Rattle.std.specs.Prelude.{◌≡◌, ℕ, true, false, List, [], ◌∷◌, ◌++◌, map, length, is_ok, Some, None, Result}
use Rattle.chip.specs.Answers.{answered}
use Rattle.chip.specs.Layout.{Layout}
use Rattle.machine.specs.Meaning.{Meaning}
use Rattle.session_fault.specs.declared.SessionFault.{SessionFault}
use Rattle.session.specs.declared.store.Session.{Session}
use Rattle.session.specs.State.{View, State, beside}
use Rattle.session.specs.Views.{state}
use Rattle.session.specs.New.{New}
use Rattle.session.specs.Calls.{Cx, Swap, place_fault, place_of}
use Rattle.session.specs.Flushes.{Flush}
use Rattle.runs.specs.Runs.{Event, made, cx, swap, take_out, give_back, write_off, flush}
use Rattle.runs.specs.Law.{Holds}
use Rattle.script.specs.declared.order.Order.{Order}
use Rattle.script.specs.declared.order.Order.TheVariants as order
use Rattle.script.specs.declared.order.Outcome.{Outcome}
use Rattle.script.specs.declared.order.Turn.{Turn}
use Rattle.script.specs.Answers.{Answer, plain, placed, counted}
use Rattle.script.specs.Slots.{Slots, vacant, filled, TakesInto, GivesFrom, WritesFrom}

-- all that a script works on
pub record Bench : Type 0 where
  pub state : State
  pub slots : Slots
  pub buffer : List ℕ

abbrev pub with : State → Slots → List ℕ → Bench
with s h b = record { state = s; slots = h; buffer = b }

abbrev pub bench : Session → Layout → Meaning → Slots → List ℕ → Bench
bench s l m h b = with (state s l m) h b

-- a turn: the order, the answer, and the call that was made, if one was
pub data Made : Bench → Order → Answer → Bench → List Event → Type 0 where
  adds : (v w : View) (l : Layout) (m : Meaning) (h : Slots) (b : List ℕ) (x y : ℕ) (r : Result (Unit {0}) SessionFault) → Cx v x y r w
      → Made (with (beside v l m) h b) (order.Cx x y) (Some (plain r)) (with (beside w l m) h b) (made (cx x y) (is_ok r) ∷ [])
  swaps : (v w : View) (l : Layout) (m : Meaning) (h : Slots) (b : List ℕ) (x y : ℕ) (r : Result (Unit {0}) SessionFault) → Swap v x y r w
      → Made (with (beside v l m) h b) (order.Swap x y) (Some (plain r)) (with (beside w l m) h b) (made (swap x y) (is_ok r) ∷ [])
  locates : (s : State) (h : Slots) (b : List ℕ) (w : ℕ)
      → Made (with s h b) (order.Place w) (Some (placed (answered (place_fault s.session w) (place_of s.session w)))) (with s h b) []
  takes_out : (s t : State) (h i : Slots) (b : List ℕ) (k slot : ℕ) (a : Result Outcome SessionFault) → vacant h slot ≡ true → (c : TakesInto s h k slot a t i)
      → Made (with s h b) (order.TakeOut k slot) (Some a) (with t i b) (made (take_out k) (is_ok c.result) ∷ [])
  no_slot : (s : State) (h : Slots) (b : List ℕ) (k slot : ℕ) → vacant h slot ≡ false → Made (with s h b) (order.TakeOut k slot) None (with s h b) []
  gives_back : (s t : State) (h i : Slots) (b : List ℕ) (slot : ℕ) (a : Result Outcome SessionFault) → filled h slot ≡ true → (c : GivesFrom s h slot a t i)
      → Made (with s h b) (order.GiveBack slot) (Some a) (with t i b) (made (give_back c.pass) (is_ok c.result) ∷ [])
  none_to_give : (s : State) (h : Slots) (b : List ℕ) (slot : ℕ) → filled h slot ≡ false → Made (with s h b) (order.GiveBack slot) None (with s h b) []
  writes_off : (s t : State) (h i : Slots) (b : List ℕ) (slot : ℕ) (a : Result Outcome SessionFault) → filled h slot ≡ true → (c : WritesFrom s h slot a t i)
      → Made (with s h b) (order.WriteOff slot) (Some a) (with t i b) (made (write_off c.pass) (is_ok c.result) ∷ [])
  none_to_write : (s : State) (h : Slots) (b : List ℕ) (slot : ℕ) → filled h slot ≡ false → Made (with s h b) (order.WriteOff slot) None (with s h b) []
  flushes : (s t : State) (h : Slots) (b c : List ℕ) (r : Result ℕ SessionFault) → Flush s b r t c
      → Made (with s h b) order.Flush (Some (counted r)) (with t h c) (made (flush (length b)) (is_ok r) ∷ [])

pub record Acts (b : Bench) (o : Order) (a : Answer) (c : Bench) : Type 0 where
  pub events : List Event
  pub turn : Made b o a c events

-- one turn after another, with the calls that were made
pub data Turns : Bench → List Turn → Bench → List Event → Type 0 where
  over : (b : Bench) → Turns b [] b []
  next : (b c d : Bench) (x : Turn) (ts : List Turn) (es fs : List Event) → Made b x.order x.answer c es → Turns c ts d fs → Turns b (x ∷ ts) d (es ++ fs)

abbrev pub orders : List Turn → List Order
orders ts = map (λ (t : Turn). t.order) ts

-- a script has run; and if it began with a new session on a new machine, the law holds of the calls that it made
pub record Ran (b : Bench) (ts : List Turn) (c : Bench) : Type 0 where
  pub events : List Event
  pub turns : Turns b ts c events
  pub law : New b.state → Holds b.state events c.state

-- From what a call did to a turn, and from turns to a run.
use Rattle.std.proofs.Common.{◌≡◌, ℕ, true, false, List, [], ◌∷◌, ◌++◌, Some, None, Result, sym, refl, ap, ◌∙◌, subst, subst₂, append_assoc, append-nil}
use Rattle.chip.specs.Answers.{answered}
use Rattle.chip.specs.Layout.{Layout}
use Rattle.machine.specs.Meaning.{Meaning}
use Rattle.session_fault.specs.declared.SessionFault.{SessionFault}
use Rattle.session.specs.State.{View, State, beside}
use Rattle.session.specs.Calls.{Cx, Swap, place_fault, place_of}
use Rattle.session.specs.Flushes.{Flush}
use Rattle.runs.specs.Runs.{Event, Step, Run, ended, then}
use Rattle.runs.specs.Runs as runs
use Rattle.script.specs.declared.order.Order.{Order}
use Rattle.script.specs.declared.order.Order.TheVariants as order
use Rattle.script.specs.declared.order.Outcome.{Outcome}
use Rattle.script.specs.declared.order.Turn.{Turn}
use Rattle.script.specs.Answers.{Answer, plain, placed, counted}
use Rattle.script.specs.Slots.{Slots, vacant, filled, TakesInto, GivesFrom, WritesFrom}
use Rattle.script.specs.Turns.{Bench, with, Made, adds, swaps, locates, takes_out, no_slot, gives_back, none_to_give, writes_off, none_to_write, flushes, Acts, Turns, over, next}

-- ---- turns

as_ordered : (b c : Bench) (o p : Order) (a d : Answer) → o ≡ p → a ≡ d → Acts b p d c → Acts b o a c
as_ordered b c o p a d e f h = subst₂ (λ (x : Order) (y : Answer). Acts b x y c) (sym e) (sym f) h

pub acts_cx : (v w : View) (l : Layout) (m : Meaning) (h : Slots) (b : List ℕ) (x y : ℕ) (o : Order) (a : Answer) (r : Result (Unit {0}) SessionFault)
    → o ≡ order.Cx x y → a ≡ Some (plain r) → Cx v x y r w → Acts (with (beside v l m) h b) o a (with (beside w l m) h b)
acts_cx v w l m h b x y o a r e f c = as_ordered _ _ o (order.Cx x y) a (Some (plain r)) e f (record { events = _; turn = adds v w l m h b x y r c })

pub acts_swap : (v w : View) (l : Layout) (m : Meaning) (h : Slots) (b : List ℕ) (x y : ℕ) (o : Order) (a : Answer) (r : Result (Unit {0}) SessionFault)
    → o ≡ order.Swap x y → a ≡ Some (plain r) → Swap v x y r w → Acts (with (beside v l m) h b) o a (with (beside w l m) h b)
acts_swap v w l m h b x y o a r e f c = as_ordered _ _ o (order.Swap x y) a (Some (plain r)) e f (record { events = _; turn = swaps v w l m h b x y r c })

pub acts_place : (s : State) (h : Slots) (b : List ℕ) (w : ℕ) (o : Order) (a : Result Outcome SessionFault) (r : Result ℕ SessionFault)
    → o ≡ order.Place w → a ≡ placed r → r ≡ answered (place_fault s.session w) (place_of s.session w) → Acts (with s h b) o (Some a) (with s h b)
acts_place s h b w o a r e f c =
    as_ordered _ _ o (order.Place w) (Some a) (Some (placed (answered (place_fault s.session w) (place_of s.session w)))) e (ap Some (f ∙ ap placed c)) (record { events = []; turn = locates s h b w })

pub acts_take : (s t : State) (h i : Slots) (b : List ℕ) (k slot : ℕ) (o : Order) (a : Result Outcome SessionFault)
    → o ≡ order.TakeOut k slot → vacant h slot ≡ true → TakesInto s h k slot a t i → Acts (with s h b) o (Some a) (with t i b)
acts_take s t h i b k slot o a e z c = as_ordered _ _ o (order.TakeOut k slot) (Some a) (Some a) e refl (record { events = _; turn = takes_out s t h i b k slot a z c })

pub acts_no_slot : (s : State) (h : Slots) (b : List ℕ) (k slot : ℕ) (o : Order) → o ≡ order.TakeOut k slot → vacant h slot ≡ false → Acts (with s h b) o None (with s h b)
acts_no_slot s h b k slot o e z = as_ordered _ _ o (order.TakeOut k slot) None None e refl (record { events = []; turn = no_slot s h b k slot z })

pub acts_give : (s t : State) (h i : Slots) (b : List ℕ) (slot : ℕ) (o : Order) (a : Result Outcome SessionFault)
    → o ≡ order.GiveBack slot → filled h slot ≡ true → GivesFrom s h slot a t i → Acts (with s h b) o (Some a) (with t i b)
acts_give s t h i b slot o a e z c = as_ordered _ _ o (order.GiveBack slot) (Some a) (Some a) e refl (record { events = _; turn = gives_back s t h i b slot a z c })

pub acts_none_to_give : (s : State) (h : Slots) (b : List ℕ) (slot : ℕ) (o : Order) → o ≡ order.GiveBack slot → filled h slot ≡ false → Acts (with s h b) o None (with s h b)
acts_none_to_give s h b slot o e z = as_ordered _ _ o (order.GiveBack slot) None None e refl (record { events = []; turn = none_to_give s h b slot z })

pub acts_write : (s t : State) (h i : Slots) (b : List ℕ) (slot : ℕ) (o : Order) (a : Result Outcome SessionFault)
    → o ≡ order.WriteOff slot → filled h slot ≡ true → WritesFrom s h slot a t i → Acts (with s h b) o (Some a) (with t i b)
acts_write s t h i b slot o a e z c = as_ordered _ _ o (order.WriteOff slot) (Some a) (Some a) e refl (record { events = _; turn = writes_off s t h i b slot a z c })

pub acts_none_to_write : (s : State) (h : Slots) (b : List ℕ) (slot : ℕ) (o : Order) → o ≡ order.WriteOff slot → filled h slot ≡ false → Acts (with s h b) o None (with s h b)
acts_none_to_write s h b slot o e z = as_ordered _ _ o (order.WriteOff slot) None None e refl (record { events = []; turn = none_to_write s h b slot z })

pub acts_flush : (s t : State) (h : Slots) (b c : List ℕ) (o : Order) (a : Result Outcome SessionFault) (r : Result ℕ SessionFault)
    → o ≡ order.Flush → a ≡ counted r → Flush s b r t c → Acts (with s h b) o (Some a) (with t h c)
acts_flush s t h b c o a r e f x = as_ordered _ _ o order.Flush (Some a) (Some (counted r)) e (ap Some f) (record { events = _; turn = flushes s t h b c r x })

-- ---- runs

single : {s t : State} {e : Event} → Step s e t → Run s (e ∷ []) t
single {s} {t} {e} st = then s t t e [] st (ended t)

run_append : {s t u : State} {es fs : List Event} → Run s es t → Run t fs u → Run s (es ++ fs) u
run_append (ended s) q = q
run_append {u = u} {fs = fs} (then s t v e es st r) q = then s t u e (es ++ fs) st (run_append r q)

made_run : {b c : Bench} {o : Order} {a : Answer} {es : List Event} → Made b o a c es → Run b.state es c.state
made_run (adds v w l m h b x y r c) = single (runs.adds v w l m x y r c)
made_run (swaps v w l m h b x y r c) = single (runs.swaps v w l m x y r c)
made_run (locates s h b w) = ended s
made_run (takes_out s t h i b k slot a z c) = single (runs.takes_out s t k c.result c.call)
made_run (no_slot s h b k slot z) = ended s
made_run (gives_back s t h i b slot a z c) = single (runs.gives_back s t c.pass c.result c.call)
made_run (none_to_give s h b slot z) = ended s
made_run (writes_off s t h i b slot a z c) = single (runs.writes_off s t c.pass c.result c.call)
made_run (none_to_write s h b slot z) = ended s
made_run (flushes s t h b c r f) = single (runs.flushes s t b c r f)

pub turns_run : {b c : Bench} {ts : List Turn} {es : List Event} → Turns b ts c es → Run b.state es c.state
turns_run (over b) = ended b.state
turns_run (next b c d x ts es fs m r) = run_append (made_run m) (turns_run r)

pub turns_push : {b c : Bench} {ts : List Turn} {es : List Event} (d : Bench) (x : Turn) (fs : List Event) → Turns b ts c es → Made c x.order x.answer d fs
    → Turns b (ts ++ x ∷ []) d (es ++ fs)
turns_push d x fs (over b) m = subst (Turns b (x ∷ []) d) (append-nil fs) (next b d d x [] fs [] m (over d))
turns_push d x fs (next b c e y ts es gs n rest) m =
    subst (Turns b (y ∷ (ts ++ x ∷ [])) d) (sym (append_assoc es gs fs)) (next b c d y (ts ++ x ∷ []) es (gs ++ fs) n (turns_push d x fs rest m))

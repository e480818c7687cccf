-- From what a flush did to its relation.
use Rattle.std.proofs.Common.{◌≡◌, ℕ, ◌<◌, ◌≤◌, Bool, true, false, cond, eqb, leb, ◌⊎◌, ◌↔◌, List, [], ◌∷◌, map, length, take, Some, None, Ok, Err, Option, Result, sym, refl, ap, ◌∙◌, subst, subst₂, inl, inr, arith, length-take-le}
use Rattle.std.proofs.lemmas.Bool.{leb-true, leb-false, eqb-true, and_parts, cases_lt, cases_Bool}
use Rattle.std.specs.Option.{option_map}
use Rattle.chip.specs.Answers.{answered, kept}
use Rattle.chip.specs.Layout.{Layout}
use Rattle.machine.specs.declared.fault.MachineFault.TheVariants.{AllowanceExceeded}
use Rattle.machine.specs.OnCoupler.{OnCoupler, OnCouplers}
use Rattle.parity.specs.Words.{Gate, gate_of}
use Rattle.parity.specs.Gates.{Each}
use Rattle.parity.specs.Entries.{gates_in}
use Rattle.planner.specs.declared.fault.PlanFault.{PlanFault}
use Rattle.planner.specs.declared.fault.PlanFault.TheVariants as plan
use Rattle.planner.specs.Plans.{room, NoPlan, PlanIn}
use Rattle.session_fault.specs.declared.SessionFault.{SessionFault}
use Rattle.session_fault.specs.declared.SessionFault.TheVariants.{SizeMismatch, Machine}
use Rattle.session_fault.specs.Faults.{of_plan}
use Rattle.planner.specs.declared.plan.Planned.{Planned}
use Rattle.planner.specs.Views.{places_of}
use Rattle.session.specs.State.{State, sized}
use Rattle.session.specs.Outages.{size_fault}
use Rattle.session.specs.Planning.{PlannedFor}
use Rattle.session.specs.Flushes.{HasPlan, flushed, CarriesOut, Flush, other_size, short, unreachable, too_many, plays}

-- ---- sizes

pub same_places : (s : State) → sized s ≡ true → s.layout.places ≡ s.session.places
same_places s e = eqb-true _ _ (and_parts (eqb s.layout.places s.session.places) (eqb (length s.layout.couplers) s.session.couplers) e).0

size_by : (s : State) (b : Bool) (r : Result (Unit {0}) SessionFault) → sized s ≡ b → r ≡ answered (size_fault s) tt → r ≡ answered {F = SessionFault} {A = Unit {0}} (cond b None (Some SizeMismatch)) tt
size_by s b r e h = h ∙ ap (λ (x : Bool). answered {F = SessionFault} {A = Unit {0}} (cond x None (Some SizeMismatch)) tt) e

pub size_passed : (s : State) (r : Result (Unit {0}) SessionFault) → r ≡ answered (size_fault s) tt → r ≡ Ok tt → sized s ≡ true
size_passed s r h ok = by (cases_Bool (sized s))
  where
    by : (sized s ≡ true) ⊎ (sized s ≡ false) → sized s ≡ true
    by (inl t) = t
    by (inr f) = let k = size_by s false r f h in absurd cc

pub flush_other_size : (s : State) (buffer : List ℕ) (r : Result (Unit {0}) SessionFault) (f : SessionFault) → r ≡ answered (size_fault s) tt → r ≡ Err f
    → Flush s buffer (Err f) s buffer
flush_other_size s buffer r f h bad = by (cases_Bool (sized s))
  where
    by : (sized s ≡ true) ⊎ (sized s ≡ false) → Flush s buffer (Err f) s buffer
    by (inl t) = let k = size_by s true r t h in absurd cc
    by (inr e) = let k = size_by s false r e h in let q : f ≡ SizeMismatch = cc in subst (λ (x : SessionFault). Flush s buffer (Err x) s buffer) (sym q) (other_size e)

-- ---- what the planner answered

-- a buffer that was not refused is long enough
pub long_enough : (n len : ℕ) (Sizes : Type 0) (r : Result Planned PlanFault) (p : Planned)
    → ((k : ℕ) → (r ≡ Err (plan.BufferTooShort k)) ↔ (Sizes × (len < room n) × (k ≡ room n))) → Sizes → r ≡ Ok p → room n ≤ len
long_enough n len Sizes r p short_exactly sizes ok = by (cases_lt len (room n))
  where
    by : (len < room n) ⊎ (room n ≤ len) → room n ≤ len
    by (inl lt) = let e = (short_exactly (room n)).1 (sizes, lt, refl) in absurd cc
    by (inr le) = le

pub planned_for : (s : State) (n : ℕ) (before after : List ℕ) (p : Planned) → sized s ≡ true → n ≡ s.session.places → room n ≤ length before
    → length (places_of p.places) ≡ n
    → PlanIn (OnCoupler s.layout s.machine.service) n s.session.block s.session.placement before after p.gates (places_of p.places)
    → PlannedFor s before after p
planned_for s n before after p z e enough wires plan = record {
  size = z;
  long_enough = subst (λ (k : ℕ). room k ≤ length before) e enough;
  plan = subst (λ (k : ℕ). PlanIn (OnCoupler s.layout s.machine.service) k s.session.block s.session.placement before after p.gates (places_of p.places)) e plan;
  wires = wires ∙ e;
}

-- a fault of the planner, for n places, with this buffer
pub record Refused (s : State) (n : ℕ) (buffer : List ℕ) (f : PlanFault) : Type 0 where
  pub sizes : f ≡ plan.SizeMismatch → ⊥
  pub shorter : (k : ℕ) → f ≡ plan.BufferTooShort k → (length buffer < room n) × (k ≡ room n)
  pub none : f ≡ plan.Unreachable → (room n ≤ length buffer) × NoPlan (OnCoupler s.layout s.machine.service) n s.session.block s.session.placement

refused_here : (s : State) (buffer : List ℕ) (f : PlanFault) → sized s ≡ true → Refused s s.session.places buffer f → Flush s buffer (Err (of_plan f)) s buffer
refused_here s buffer plan.SizeMismatch z r = absurd (r.sizes refl)
refused_here s buffer (plan.BufferTooShort k) z r =
    let h = r.shorter k refl in
    subst (λ (j : ℕ). Flush s buffer (Err (of_plan (plan.BufferTooShort j))) s buffer) (sym h.1) (short z h.0)
refused_here s buffer plan.Unreachable z r = let h = r.none refl in unreachable z h.0 h.1

pub flush_refused : (s : State) (n : ℕ) (buffer left : List ℕ) (f : PlanFault) → sized s ≡ true → n ≡ s.session.places → left ≡ buffer → Refused s n buffer f
    → Flush s buffer (Err (of_plan f)) s left
flush_refused s n buffer left f z e same r =
    subst (λ (l : List ℕ). Flush s buffer (Err (of_plan f)) s l) (sym same) (refused_here s buffer f z (subst (λ (k : ℕ). Refused s k buffer f) e r))

-- ---- the gates of a plan

on_each : (l : Layout) (service : List Bool) (gs : List Gate) → Each (OnCoupler l service) gs → OnCouplers l service gs
on_each l service [] h = tt
on_each l service (g ∷ gs) h = (h.0, on_each l service gs h.1)

pub first_gates : (es : List ℕ) (k : ℕ) → gates_in es 0 k ≡ map gate_of (take k es)
unfolding gates_in
first_gates es k = ap (λ (j : ℕ). map gate_of (take j es)) (omega arith)

pub plan_on_couplers : (s : State) (buffer entries new : List ℕ) (count : ℕ) → HasPlan s buffer entries count new
    → OnCouplers s.layout s.machine.service (map gate_of (take count entries))
plan_on_couplers s buffer entries new count p =
    subst (OnCouplers s.layout s.machine.service) (first_gates entries count)
    (on_each s.layout s.machine.service (gates_in entries 0 count) p.reaches.on_couplers)

-- ---- the exits past the plan

record Carried (s t : State) (buffer left new : List ℕ) (count : ℕ) (r : Result ℕ SessionFault) (es : List ℕ) : Type 0 where
  size : sized s ≡ true
  long_enough : room s.session.places ≤ length buffer
  plan : HasPlan s buffer left count new
  counted : length es ≡ count
  gates : map gate_of es ≡ gates_in left 0 count
  done : CarriesOut s es new r t

abbrev fault_if : State → ℕ → Bool → Option SessionFault
fault_if s k b = option_map Machine (cond b None (Some (AllowanceExceeded k s.machine.allowance)))

carried_by : (s t : State) (buffer left new : List ℕ) (count : ℕ) (r : Result ℕ SessionFault) (es : List ℕ) → Carried s t buffer left new count r es
    → (leb (length es) s.machine.allowance ≡ true) ⊎ (leb (length es) s.machine.allowance ≡ false) → Flush s buffer r t left
carried_by s t buffer left new count r es c (inl e) =
    let fits = leb-true (length es) s.machine.allowance e in
    let many = c.counted in
    let a : r ≡ Ok count = c.done.answer ∙ ap (λ (b : Bool). answered (fault_if s (length es) b) (length es)) e ∙ ap (λ (k : ℕ). Ok k) many in
    let u : t ≡ flushed s (gates_in left 0 count) new =
    c.done.leaves ∙ ap (λ (b : Bool). kept (fault_if s (length es) b) (flushed s (map gate_of es) new) s) e ∙ ap (λ (gs : List Gate). flushed s gs new) c.gates in
    subst₂ (λ (x : Result ℕ SessionFault) (y : State). Flush s buffer x y left) (sym a) (sym u) (plays count new left c.size c.long_enough c.plan (omega arith))
carried_by s t buffer left new count r es c (inr e) =
    let over = leb-false (length es) s.machine.allowance e in
    let many = c.counted in
    let a : r ≡ Err (Machine (AllowanceExceeded count s.machine.allowance)) =
    c.done.answer ∙ ap (λ (b : Bool). answered (fault_if s (length es) b) (length es)) e ∙ ap (λ (k : ℕ). Err (Machine (AllowanceExceeded k s.machine.allowance))) many in
    let u : t ≡ s = c.done.leaves ∙ ap (λ (b : Bool). kept (fault_if s (length es) b) (flushed s (map gate_of es) new) s) e in
    subst₂ (λ (x : Result ℕ SessionFault) (y : State). Flush s buffer x y left) (sym a) (sym u) (too_many count new left c.size c.long_enough c.plan (omega arith))

pub flush_carried : (s t : State) (buffer left new : List ℕ) (count : ℕ) (r : Result ℕ SessionFault) → sized s ≡ true → room s.session.places ≤ length buffer
    → HasPlan s buffer left count new → count ≤ length left → CarriesOut s (take count left) new r t → Flush s buffer r t left
flush_carried s t buffer left new count r z enough p here c =
    carried_by s t buffer left new count r (take count left) (record {
      size = z;
      long_enough = enough;
      plan = p;
      counted = length-take-le count left here;
      gates = sym (first_gates left count);
      done = c;
    }) (cases_Bool (leb (length (take count left)) s.machine.allowance))

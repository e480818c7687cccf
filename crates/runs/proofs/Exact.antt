-- The law, from what the sheet tells.
use Rattle.std.proofs.Common.{◌≡◌, ℕ, ◌-◌, ◌^◌, ◌<◌, ◌≤◌, Bool, true, false, eqb, List, length, get_or, take, set, Some, None, Ok, Err, Option, Result, sym, refl, ap, ◌∙◌, subst, arith, length-take-le}
use lib.ListN.{get_or-map, length-map}
use Rattle.std.proofs.lemmas.Bool.{eq-eqb, and_from}
use Rattle.chip.specs.Answers.{kept}
use Rattle.parity.specs.Words.{Gate, gate_of, replay, fresh}
use Rattle.parity.specs.Sets.{xor_over}
use Rattle.parity.specs.Entries.{gates_in}
use Rattle.parity.specs.Placements.{wires_to_places}
use Rattle.parity.proofs.Words.{below_fresh, below_replay}
use Rattle.parity.proofs.Gates.{xors_tell_sets_apart, replay_from_fresh}
use Rattle.parity.proofs.Placements.{places_below}
use Rattle.planner.specs.Plans.{room}
use Rattle.session_fault.specs.declared.SessionFault.{SessionFault}
use Rattle.session_fault.specs.declared.SessionFault.TheVariants.{Unreachable}
use Rattle.session.specs.declared.records.CouplerRecord.TheVariants.{In, Out, WrittenOff}
use Rattle.session.specs.State.{State, sized}
use Rattle.session.specs.Outages.{recorded, take_fault, end_fault}
use Rattle.session.specs.Flushes.{HasPlan, PlanLess, Flush, other_size, short, unreachable, too_many, plays}
use Rattle.session.proofs.Flushing.{first_gates}
use Rattle.runs.specs.Runs.{Event, Step, adds, swaps, takes_out, gives_back, writes_off, flushes, Run, ended, then}
use Rattle.runs.specs.Sheet.{never, written_off, Sheet, blank, fed, serving}
use Rattle.runs.specs.Law.{Carried, Puts, UnreachableExactly, Service, Law}
use Rattle.runs.specs.Carrying.{Carries, FlushCarries}
use Rattle.runs.proofs.Lists.{get_d_map_in, get_d_default}
use Rattle.runs.proofs.Tied.{ReachesIn, Tied, words_long, wanted_is, brought, delivered, run_tied, new_tied}
use Rattle.runs.proofs.Counting.{run_weighs, none_out}

-- ---- carried

carried : (t : State) (h : Sheet) → Tied t h → Carried t h
carried t h ti = record {
  placed = ti.placed;
  word = λ w lt. sym (ap (λ (l : List ℕ). get_or l w 0) ti.carried
      ∙ get_d_map_in (λ (p : ℕ). get_or t.machine.words p 0) t.session.placement w (subst (λ (k : ℕ). w < k) (sym ti.placed.one_each) lt));
}

-- ---- unreachable exactly

puts : (t : State) (h : Sheet) (gs : List Gate) (new : List ℕ) → Tied t h → ReachesIn t gs new → Puts t h gs new
puts t h gs new ti re = record {
  on_couplers = re.on_couplers;
  placed = re.placed;
  word = λ w lt. delivered t h gs new w ti re lt;
}

-- the machine's words tell sets of places apart
tells : (t : State) (h : Sheet) (x y : ℕ) → Tied t h → x < 2 ^ t.session.places → y < 2 ^ t.session.places
    → xor_over t.machine.words x ≡ xor_over t.machine.words y → x ≡ y
tells t h x y ti hx hy e =
    xors_tell_sets_apart t.session.places ti.gates x y ti.two_places hx hy
    (ap (λ (l : List ℕ). xor_over l x) (sym ti.words) ∙ e ∙ ap (λ (l : List ℕ). xor_over l y) ti.words)

reaches : (t : State) (h : Sheet) (gs : List Gate) (at : List ℕ) → Tied t h → Puts t h gs at → ReachesIn t gs at
reaches t h gs at ti pu =
    let n = t.session.places in
    record {
      on_couplers = pu.on_couplers;
      placed = pu.placed;
      delivers = λ w lt. tells t h (get_or (replay gs (fresh n)) (get_or at w 0) 0) (wires_to_places t.session.placement (get_or t.session.block w 0)) ti
          (below_replay n gs (fresh n) (below_fresh n) (get_or at w 0))
          (places_below n t.session.placement (get_or t.session.block w 0) (λ v lv. ti.placed.below v (subst (λ (k : ℕ). v < k) ti.placed.one_each lv)))
          (sym (replay_from_fresh n t.machine.words gs (get_or at w 0) (words_long t h ti)) ∙ pu.word w lt ∙ wanted_is t h w ti);
    }

says_none : {t u : State} {buffer left : List ℕ} {r : Result ℕ SessionFault} → Flush t buffer r u left → r ≡ Err Unreachable → PlanLess t
says_none (other_size z) e = absurd cc
says_none (short z l) e = absurd cc
says_none (unreachable z l none) e = none
says_none (too_many count new es z l plan a) e = absurd cc
says_none (plays count new es z l plan a) e = absurd cc

none_says : {t u : State} {buffer left : List ℕ} {r : Result ℕ SessionFault} → sized t ≡ true → room t.session.places ≤ length buffer
    → Flush t buffer r u left → PlanLess t → r ≡ Err Unreachable
none_says y b (other_size z) void = absurd cc
none_says y b (short z l) void = absurd (omega arith)
none_says y b (unreachable z l n) void = refl
none_says y b (too_many count new es z l plan a) void = absurd (void (gates_in es 0 count) new plan.reaches)
none_says y b (plays count new es z l plan a) void = absurd (void (gates_in es 0 count) new plan.reaches)

sized_tied : (t : State) (h : Sheet) → Tied t h → sized t ≡ true
sized_tied t h ti =
    and_from (eqb t.layout.places t.session.places) (eqb (length t.layout.couplers) t.session.couplers)
    (eq-eqb t.layout.places t.session.places (sym ti.same_places))
    (eq-eqb (length t.layout.couplers) t.session.couplers (sym ti.same_couplers))

exactly : (t : State) (h : Sheet) → Tied t h → UnreachableExactly t h
exactly t h ti buffer left r u long f = (
  (λ e gs at pu. says_none f e gs at (reaches t h gs at ti pu)),
  (λ void. none_says (sized_tied t h ti) long f (λ gs new re. void gs new (puts t h gs new ti re))),
)

-- ---- service

service : (t : State) (h : Sheet) → Tied t h → Service t h
service t h ti k lt =
    ap (λ (l : List Bool). get_or l k false) ti.serves
    ∙ get_or-map serving h.lasts k written_off
    ∙ ap serving (get_d_default h.lasts k written_off never (subst (λ (m : ℕ). k < m) (sym ti.one_call_each) lt))

-- ---- the chip stays

kept_layout : (f : Option SessionFault) (s t : State) → t.layout ≡ s.layout → (kept f t s).layout ≡ s.layout
kept_layout None s t e = e
kept_layout (Some f) s t e = refl

flush_layout : {s t : State} {buffer left : List ℕ} {r : Result ℕ SessionFault} → Flush s buffer r t left → t.layout ≡ s.layout
flush_layout (other_size z) = refl
flush_layout (short z l) = refl
flush_layout (unreachable z l none) = refl
flush_layout (too_many count new es z l plan a) = refl
flush_layout (plays count new es z l plan a) = refl

step_layout : {s t : State} {e : Event} → Step s e t → t.layout ≡ s.layout
step_layout (adds v w l m a b r c) = refl
step_layout (swaps v w l m a b r c) = refl
step_layout (takes_out s t k r c) = ap (λ (x : State). x.layout) c.leaves ∙ kept_layout (take_fault s k) s (recorded s k Out (set s.machine.service k false)) refl
step_layout (gives_back s t p r c) =
    ap (λ (x : State). x.layout) c.leaves ∙ kept_layout (end_fault s p) s (recorded s p.coupler In (set s.machine.service p.coupler true)) refl
step_layout (writes_off s t p r c) = ap (λ (x : State). x.layout) c.leaves ∙ kept_layout (end_fault s p) s (recorded s p.coupler WrittenOff s.machine.service) refl
step_layout (flushes s t buffer left r c) = flush_layout c

run_layout : {s t : State} {es : List Event} → Run s es t → t.layout ≡ s.layout
run_layout (ended s) = refl
run_layout (then s t u e es st r) = run_layout r ∙ step_layout st

-- ---- the law

pub the_law : Law
the_law s t es so new r =
    let start = blank s.session.places s.session.couplers in
    let ti = new_tied s so new in
    let end = run_tied start r ti in
    let all = run_weighs start r ti in
    let none = none_out s.session.couplers in
    record {
      same_chip = run_layout r;
      same_size = sized_tied t (fed start es) end;
      carried = carried t (fed start es) end;
      unreachable_exactly = exactly t (fed start es) end;
      service = service t (fed start es) end;
      records = end.records;
      balance = omega arith;
    }

-- ---- what a flush carries

counted : (s : State) (buffer left new : List ℕ) (count : ℕ) → length left ≡ length buffer → room s.session.places ≤ length buffer → HasPlan s buffer left count new
    → length (gates_in left 0 count) ≡ count
counted s buffer left new count same long p =
    let few = p.wrote.few in
    let here : count ≤ length left = omega arith in
    ap length (first_gates left count) ∙ length-map (take count left) gate_of ∙ length-take-le count left here

carries_by : {s t : State} {buffer left : List ℕ} {r : Result ℕ SessionFault} (count : ℕ) → length s.machine.words ≡ s.session.places → length left ≡ length buffer
    → Flush s buffer r t left → r ≡ Ok count → Carries s t count
carries_by count long same (other_size z) e = absurd cc
carries_by count long same (short z l) e = absurd cc
carries_by count long same (unreachable z l none) e = absurd cc
carries_by count long same (too_many c new es z l plan a) e = absurd cc
carries_by {s} {t} {buffer} {left} count long same (plays c new es z l plan a) e =
    let k : c ≡ count = cc in
    record {
      word = λ w lt. brought s (gates_in left 0 c) new w long plan.reaches lt;
      allowance = ap (λ (j : ℕ). s.machine.allowance - j) (counted s buffer left new c same l plan ∙ k);
      service = refl;
      layout = refl;
    }

pub flush_carries : FlushCarries
flush_carries s t buffer left count long same f = carries_by count long same f refl

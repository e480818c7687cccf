-- What a session and its machine hold after every list of calls, told by the sheet.
use Rattle.std.proofs.Common.{◌≡◌, ℕ, ◌<◌, Bool, true, false, cond, eqb, ltb, List, [], ◌++◌, map, length, get_or, set, replicate, is_ok, Some, None, Option, Result, sym, refl, ap, ◌∙◌, subst, subst₂, length-set}
use lib.ListN.{length-map, length-replicate, get_or-map}
use lib.Seq.{map-set, map-set_same}
use Rattle.chip.specs.Answers.{answered, kept}
use Rattle.chip.specs.Layout.{Layout, Sound}
use Rattle.machine.specs.declared.fault.MachineFault.TheVariants.{NoSuchCoupler}
use Rattle.machine.specs.Meaning.{Meaning}
use Rattle.machine.specs.OnCoupler.{OnCoupler}
use Rattle.machine.proofs.OnCouplers.{ends_of}
use Rattle.parity.specs.Words.{Gate, cnot, replay, fresh}
use Rattle.parity.specs.Sets.{xor_over}
use Rattle.parity.specs.Gates.{Each, TwoPlaces}
use Rattle.parity.specs.Entries.{gates_in}
use Rattle.parity.specs.Placements.{Placement, wires_to_places}
use Rattle.parity.proofs.Words.{length_fresh, length_replay, replay_append}
use Rattle.parity.proofs.Xors.{xor_over_none, get_d_map_zero, map_fresh, map_cnot}
use Rattle.parity.proofs.Each.{each_append, each_map}
use Rattle.parity.proofs.Gates.{replay_from_fresh}
use Rattle.parity.proofs.Placements.{xor_over_places}
use Rattle.planner.specs.Blocks.{traded}
use Rattle.planner.specs.Plans.{Reaches}
use Rattle.session_fault.specs.declared.SessionFault.{SessionFault}
use Rattle.session_fault.specs.declared.SessionFault.TheVariants.{SizeMismatch, CouplerNotIn, OtherSession, CouplerNotOut, Machine}
use Rattle.session.specs.declared.pass.Pass.{Pass}
use Rattle.session.specs.declared.records.CouplerRecord.{CouplerRecord}
use Rattle.session.specs.declared.records.CouplerRecord.TheVariants.{In, Out, WrittenOff}
use Rattle.session.specs.State.{View, State, beside, sized, with_block}
use Rattle.session.specs.New.{New}
use Rattle.session.specs.Calls.{pair_fault}
use Rattle.session.specs.Outages.{is_in, is_out, recorded, take_fault, end_fault, returned}
use Rattle.session.specs.Flushes.{flushed, Flush, other_size, short, unreachable, too_many, plays}
use Rattle.runs.specs.Runs.{cx, swap, take_out, give_back, write_off, flush, Event, Step, adds, swaps, takes_out, gives_back, writes_off, flushes, Run, ended, then}
use Rattle.runs.specs.Sheet.{Last, never, taken_out, given_back, written_off, Sheet, blank, wants, settles, notes, fed_call, feed, fed, serving, record_by}
use Rattle.runs.proofs.Lists.{same_map, map_traded, map_replicate}

-- gates and a placement do what the session's block asks of this machine
abbrev pub ReachesIn : State → List Gate → List ℕ → Type 0
ReachesIn s gs new = Reaches (OnCoupler s.layout s.machine.service) s.session.places s.session.block s.session.placement gs new

-- the words come from fresh ones by some gates, the carried words stand at the wires' places, and each wanted word is the exclusive or
-- of carried words over the block's word; records and service are as the sheet's last calls say
pub record Tied (s : State) (h : Sheet) : Type 0 where
  pub sound : Sound s.layout
  pub same_places : s.session.places ≡ s.layout.places
  pub same_couplers : s.session.couplers ≡ length s.layout.couplers
  pub one_word_each : length s.session.block ≡ s.session.places
  pub placed : Placement s.session.places s.session.placement
  pub carried : h.carried ≡ map (λ (p : ℕ). get_or s.machine.words p 0) s.session.placement
  pub wanted : h.wanted ≡ map (xor_over h.carried) s.session.block
  pub gates : List Gate
  pub two_places : Each (TwoPlaces s.session.places) gates
  pub words : s.machine.words ≡ replay gates (fresh s.session.places)
  pub one_call_each : length h.lasts ≡ s.session.couplers
  pub records : s.session.records ≡ map record_by h.lasts
  pub serves : s.machine.service ≡ map serving h.lasts

-- ---- the sheet's words

pub words_long : (s : State) (h : Sheet) → Tied s h → length s.machine.words ≡ s.session.places
words_long s h ti = ap length ti.words ∙ length_replay ti.gates (fresh s.session.places) ∙ length_fresh s.session.places

wanted_long : (s : State) (h : Sheet) → Tied s h → length h.wanted ≡ s.session.places
wanted_long s h ti = ap length ti.wanted ∙ length-map s.session.block (xor_over h.carried) ∙ ti.one_word_each

-- the wanted word of w is the exclusive or of what the places of the wires in its block word carry
pub wanted_is : (s : State) (h : Sheet) (w : ℕ) → Tied s h
    → get_or h.wanted w 0 ≡ xor_over s.machine.words (wires_to_places s.session.placement (get_or s.session.block w 0))
wanted_is s h w ti =
    ap (λ (l : List ℕ). get_or l w 0) ti.wanted
    ∙ get_d_map_zero (xor_over h.carried) (xor_over_none h.carried) s.session.block w
    ∙ ap (λ (l : List ℕ). xor_over l (get_or s.session.block w 0)) ti.carried
    ∙ sym (xor_over_places s.machine.words s.session.placement (get_or s.session.block w 0))

-- what gates bring to a wire's new place, from the words as they are
pub brought : (s : State) (gs : List Gate) (new : List ℕ) (w : ℕ) → length s.machine.words ≡ s.session.places → ReachesIn s gs new → w < s.session.places
    → get_or (replay gs s.machine.words) (get_or new w 0) 0 ≡ xor_over s.machine.words (wires_to_places s.session.placement (get_or s.session.block w 0))
brought s gs new w long re lt =
    replay_from_fresh s.session.places s.machine.words gs (get_or new w 0) long ∙ ap (xor_over s.machine.words) (re.delivers w lt)

pub delivered : (s : State) (h : Sheet) (gs : List Gate) (new : List ℕ) (w : ℕ) → Tied s h → ReachesIn s gs new → w < s.session.places
    → get_or (replay gs s.machine.words) (get_or new w 0) 0 ≡ get_or h.wanted w 0
delivered s h gs new w ti re lt = brought s gs new w (words_long s h ti) re lt ∙ sym (wanted_is s h w ti)

-- ---- cx and swap

block_tied : (v : View) (l : Layout) (m : Meaning) (h : Sheet) (b ws : List ℕ) → length b ≡ length v.block → ws ≡ map (xor_over h.carried) b
    → Tied (beside v l m) h → Tied (beside (with_block v b) l m) (wants h ws)
block_tied v l m h b ws e f ti = record {
  sound = ti.sound;
  same_places = ti.same_places;
  same_couplers = ti.same_couplers;
  one_word_each = e ∙ ti.one_word_each;
  placed = ti.placed;
  carried = ti.carried;
  wanted = f;
  gates = ti.gates;
  two_places = ti.two_places;
  words = ti.words;
  one_call_each = ti.one_call_each;
  records = ti.records;
  serves = ti.serves;
}

cx_tied : (v : View) (l : Layout) (m : Meaning) (h : Sheet) (a b : ℕ) (f : Option SessionFault) → Tied (beside v l m) h
    → Tied (beside (kept f (with_block v (cnot (a, b) v.block)) v) l m) (fed_call (cx a b) (is_ok (answered {A = Unit {0}} f tt)) h)
cx_tied v l m h a b None ti =
    block_tied v l m h (cnot (a, b) v.block) (cnot (a, b) h.wanted) (length-set v.block b _)
    (ap (cnot (a, b)) ti.wanted ∙ sym (map_cnot h.carried (a, b) v.block)) ti
cx_tied v l m h a b (Some f) ti = ti

swap_tied : (v : View) (l : Layout) (m : Meaning) (h : Sheet) (a b : ℕ) (f : Option SessionFault) → Tied (beside v l m) h
    → Tied (beside (kept f (with_block v (traded a b v.block)) v) l m) (fed_call (swap a b) (is_ok (answered {A = Unit {0}} f tt)) h)
swap_tied v l m h a b None ti =
    block_tied v l m h (traded a b v.block) (traded a b h.wanted) (length-set (set v.block a _) b _ ∙ length-set v.block a _)
    (ap (traded a b) ti.wanted ∙ sym (map_traded h.carried a b v.block)) ti
swap_tied v l m h a b (Some f) ti = ti

-- ---- passes

innermost : {F : Type 0} (a b c : Bool) (x y z : F) → ◌≡◌ {A = Option F} (cond a (cond b (cond c None (Some x)) (Some y)) (Some z)) None → c ≡ true
innermost true true true x y z e = refl
innermost true true false x y z e = cc
innermost true false true x y z e = refl
innermost true false false x y z e = cc
innermost false b true x y z e = refl
innermost false b false x y z e = cc

in_if_is_in : (r : CouplerRecord) → is_in r ≡ true → r ≡ In
in_if_is_in In e = refl
in_if_is_in Out e = cc
in_if_is_in WrittenOff e = cc

out_if_is_out : (r : CouplerRecord) → is_out r ≡ true → r ≡ Out
out_if_is_out In e = cc
out_if_is_out Out e = refl
out_if_is_out WrittenOff e = cc

found_in : (s : State) (k : ℕ) → take_fault s k ≡ None → get_or s.session.records k WrittenOff ≡ In
found_in s k e =
    in_if_is_in (get_or s.session.records k WrittenOff)
    (innermost (sized s) (ltb k (length s.layout.couplers)) (is_in (get_or s.session.records k WrittenOff)) CouplerNotIn (Machine NoSuchCoupler) SizeMismatch e)

found_out : (s : State) (p : Pass) → end_fault s p ≡ None → get_or s.session.records p.coupler WrittenOff ≡ Out
found_out s p e =
    out_if_is_out (get_or s.session.records p.coupler WrittenOff)
    (innermost (sized s) (eqb p.session s.session.number) (is_out (get_or s.session.records p.coupler WrittenOff)) CouplerNotOut OtherSession SizeMismatch e)

last_by : (s : State) (h : Sheet) (k : ℕ) (r : CouplerRecord) → Tied s h → get_or s.session.records k WrittenOff ≡ r → record_by (get_or h.lasts k written_off) ≡ r
last_by s h k r ti g =
    sym (get_or-map record_by h.lasts k written_off) ∙ (ap (λ (l : List CouplerRecord). get_or l k WrittenOff) (sym ti.records) ∙ g)

out_taken : (l : Last) → record_by l ≡ Out → l ≡ taken_out
out_taken never e = cc
out_taken taken_out e = refl
out_taken given_back e = cc
out_taken written_off e = cc

pub was_in : (s : State) (h : Sheet) (k : ℕ) → Tied s h → take_fault s k ≡ None → record_by (get_or h.lasts k written_off) ≡ In
was_in s h k ti e = last_by s h k In ti (found_in s k e)

pub was_taken_out : (s : State) (h : Sheet) (p : Pass) → Tied s h → end_fault s p ≡ None → get_or h.lasts p.coupler written_off ≡ taken_out
was_taken_out s h p ti e = out_taken (get_or h.lasts p.coupler written_off) (last_by s h p.coupler Out ti (found_out s p e))

noted : (s : State) (h : Sheet) (k : ℕ) (l : Last) (service : List Bool) → service ≡ map serving (set h.lasts k l)
    → Tied s h → Tied (recorded s k (record_by l) service) (notes h k l)
noted s h k l service e ti = record {
  sound = ti.sound;
  same_places = ti.same_places;
  same_couplers = ti.same_couplers;
  one_word_each = ti.one_word_each;
  placed = ti.placed;
  carried = ti.carried;
  wanted = ti.wanted;
  gates = ti.gates;
  two_places = ti.two_places;
  words = ti.words;
  one_call_each = length-set h.lasts k l ∙ ti.one_call_each;
  records = ap (λ (rs : List CouplerRecord). set rs k (record_by l)) ti.records ∙ sym (map-set record_by h.lasts k l);
  serves = e;
}

switched_by : (s : State) (h : Sheet) (k : ℕ) (l : Last) → Tied s h → set s.machine.service k (serving l) ≡ map serving (set h.lasts k l)
switched_by s h k l ti = ap (λ (on : List Bool). set on k (serving l)) ti.serves ∙ sym (map-set serving h.lasts k l)

take_tied : (s : State) (h : Sheet) (k : ℕ) (p : Pass) (f : Option SessionFault) → Tied s h
    → Tied (kept f (recorded s k Out (set s.machine.service k false)) s) (fed_call (take_out k) (is_ok (answered f p)) h)
take_tied s h k p None ti = noted s h k taken_out (set s.machine.service k false) (switched_by s h k taken_out ti) ti
take_tied s h k p (Some f) ti = ti

give_tied : (s : State) (h : Sheet) (p : Pass) (f : Option SessionFault) → Tied s h
    → Tied (kept f (recorded s p.coupler In (set s.machine.service p.coupler true)) s) (fed_call (give_back p) (is_ok (returned f p)) h)
give_tied s h p None ti = noted s h p.coupler given_back (set s.machine.service p.coupler true) (switched_by s h p.coupler given_back ti) ti
give_tied s h p (Some f) ti = ti

write_tied : (s : State) (h : Sheet) (p : Pass) (f : Option SessionFault) → (f ≡ None → get_or h.lasts p.coupler written_off ≡ taken_out) → Tied s h
    → Tied (kept f (recorded s p.coupler WrittenOff s.machine.service) s) (fed_call (write_off p) (is_ok (returned f p)) h)
write_tied s h p None was ti =
    noted s h p.coupler written_off s.machine.service
    (ti.serves ∙ sym (map-set_same serving h.lasts p.coupler written_off written_off (sym (ap serving (was refl))))) ti
write_tied s h p (Some f) was ti = ti

-- ---- flush

on_two_places : (l : Layout) (service : List Bool) (gs : List Gate) → Sound l → Each (OnCoupler l service) gs → Each (TwoPlaces l.places) gs
on_two_places l service gs so on =
    each_map (OnCoupler l service) (TwoPlaces l.places) (λ g c. ends_of l g.0 g.1 c.coupler so c.joins) gs on

flushed_tied : (s : State) (h : Sheet) (gs : List Gate) (new : List ℕ) → ReachesIn s gs new → Tied s h → Tied (flushed s gs new) (settles h)
flushed_tied s h gs new re ti =
    let n = s.session.places in
    let on : Each (TwoPlaces n) gs = subst (λ (k : ℕ). Each (TwoPlaces k) gs) (sym ti.same_places) (on_two_places s.layout s.machine.service gs ti.sound re.on_couplers) in
    record {
      sound = ti.sound;
      same_places = ti.same_places;
      same_couplers = ti.same_couplers;
      one_word_each = length_fresh n;
      placed = re.placed;
      carried = same_map (λ (p : ℕ). get_or (replay gs s.machine.words) p 0) new h.wanted (wanted_long s h ti ∙ sym re.placed.one_each)
          (λ w lt. sym (delivered s h gs new w ti re (subst (λ (k : ℕ). w < k) re.placed.one_each lt)));
      wanted = map_fresh n h.wanted (wanted_long s h ti);
      gates = ti.gates ++ gs;
      two_places = each_append (TwoPlaces n) ti.gates gs ti.two_places on;
      words = ap (replay gs) ti.words ∙ sym (replay_append ti.gates gs (fresh n));
      one_call_each = ti.one_call_each;
      records = ti.records;
      serves = ti.serves;
    }

flush_tied : {s t : State} {buffer left : List ℕ} {r : Result ℕ SessionFault} (h : Sheet) → Flush s buffer r t left → Tied s h
    → Tied t (fed_call (flush (length buffer)) (is_ok r) h)
flush_tied h (other_size z) ti = ti
flush_tied h (short z l) ti = ti
flush_tied h (unreachable z l none) ti = ti
flush_tied h (too_many count new es z l plan a) ti = ti
flush_tied {s} h (plays count new es z l plan a) ti = flushed_tied s h (gates_in es 0 count) new plan.reaches ti

-- ---- runs

pub step_tied : {s t : State} {e : Event} (h : Sheet) → Step s e t → Tied s h → Tied t (feed e h)
step_tied h (adds v w l m a b r c) ti =
    subst₂ (λ (x : View) (y : Result (Unit {0}) SessionFault). Tied (beside x l m) (fed_call (cx a b) (is_ok y) h)) (sym c.leaves) (sym c.answer)
    (cx_tied v l m h a b (pair_fault v a b) ti)
step_tied h (swaps v w l m a b r c) ti =
    subst₂ (λ (x : View) (y : Result (Unit {0}) SessionFault). Tied (beside x l m) (fed_call (swap a b) (is_ok y) h)) (sym c.leaves) (sym c.answer)
    (swap_tied v l m h a b (pair_fault v a b) ti)
step_tied h (takes_out s t k r c) ti =
    subst₂ (λ (x : State) (y : Result Pass SessionFault). Tied x (fed_call (take_out k) (is_ok y) h)) (sym c.leaves) (sym c.answer)
    (take_tied s h k (record { session = s.session.number; coupler = k }) (take_fault s k) ti)
step_tied h (gives_back s t p r c) ti =
    subst₂ (λ (x : State) (y : Result (Unit {0}) (SessionFault × Pass)). Tied x (fed_call (give_back p) (is_ok y) h)) (sym c.leaves) (sym c.answer)
    (give_tied s h p (end_fault s p) ti)
step_tied h (writes_off s t p r c) ti =
    subst₂ (λ (x : State) (y : Result (Unit {0}) (SessionFault × Pass)). Tied x (fed_call (write_off p) (is_ok y) h)) (sym c.leaves) (sym c.answer)
    (write_tied s h p (end_fault s p) (was_taken_out s h p ti) ti)
step_tied h (flushes s t buffer left r c) ti = flush_tied h c ti

pub run_tied : {s t : State} {es : List Event} (h : Sheet) → Run s es t → Tied s h → Tied t (fed h es)
run_tied h (ended s) ti = ti
run_tied h (then s t u e es st r) ti = run_tied (feed e h) r (step_tied h st ti)

-- ---- the start

pub new_tied : (s : State) → Sound s.layout → New s → Tied s (blank s.session.places s.session.couplers)
new_tied s so new =
    let n = s.session.places in
    let v = new.session_new in
    let same : n ≡ s.layout.places = v.places in
    let m : s.session.couplers ≡ length s.layout.couplers = v.couplers ∙ length-replicate (length s.layout.couplers) In in
    let long : length s.session.placement ≡ n = v.all_placed ∙ sym same in
    let own : (w : ℕ) → w < n → get_or s.session.placement w 0 ≡ w = λ w lt. v.at_own_places w (subst (λ (k : ℕ). w < k) same lt) in
    let words : s.machine.words ≡ fresh n = new.machine_new.fresh_words ∙ ap fresh (sym same) in
    let block : s.session.block ≡ fresh n = v.new_block ∙ ap fresh (sym same) in
    record {
      sound = so;
      same_places = same;
      same_couplers = m;
      one_word_each = ap length block ∙ length_fresh n;
      placed = record {
        one_each = long;
        below = λ w lt. subst (λ (k : ℕ). k < n) (sym (own w lt)) lt;
        apart = λ v w hv hw e. sym (own v hv) ∙ e ∙ own w hw;
      };
      carried = same_map (λ (p : ℕ). get_or s.machine.words p 0) s.session.placement (fresh n) (length_fresh n ∙ sym long)
          (λ w lt. ap (λ (l : List ℕ). get_or l w 0) (sym words) ∙ ap (λ (q : ℕ). get_or s.machine.words q 0) (sym (own w (subst (λ (k : ℕ). w < k) long lt))));
      wanted = map_fresh n (fresh n) (length_fresh n) ∙ ap (map (xor_over (fresh n))) (sym block);
      gates = [];
      two_places = tt;
      words = words;
      one_call_each = length-replicate s.session.couplers never;
      records = v.records_are ∙ ap (λ (k : ℕ). replicate k In) (sym m) ∙ sym (map_replicate record_by s.session.couplers never);
      serves = new.machine_new.all_in_service ∙ ap (λ (k : ℕ). replicate k true) (sym m) ∙ sym (map_replicate serving s.session.couplers never);
    }

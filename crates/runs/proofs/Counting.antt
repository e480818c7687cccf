-- Take-outs against give-backs, write-offs and couplers out on a pass.
use Rattle.std.proofs.Common.{◌≡◌, ℕ, zero, suc, ◌+◌, ◌<◌, Bool, true, false, List, [], ◌∷◌, length, get_or, set, replicate, is_ok, Some, None, Option, Result, sym, refl, ap, subst, le_of_suc-le-suc, not-suc-le-zero, arith}
use Rattle.chip.specs.Answers.{answered}
use Rattle.session_fault.specs.declared.SessionFault.{SessionFault}
use Rattle.session.specs.declared.pass.Pass.{Pass}
use Rattle.session.specs.declared.records.CouplerRecord.TheVariants.{In}
use Rattle.session.specs.State.{State}
use Rattle.session.specs.Outages.{take_fault, end_fault, returned}
use Rattle.runs.specs.Runs.{Call, cx, swap, take_out, give_back, write_off, flush, Event, Step, adds, swaps, takes_out, gives_back, writes_off, flushes, Run, ended, then}
use Rattle.runs.specs.Sheet.{Last, never, taken_out, given_back, written_off, Sheet, fed_call, feed, fed, tally, if_obeyed, take_one, give_one, write_one, record_by, out_one, outs}
use Rattle.runs.proofs.Tied.{Tied, was_in, was_taken_out, step_tied}

outs_set : (ls : List Last) (k : ℕ) (v d : Last) → k < length ls → outs (set ls k v) + out_one (get_or ls k d) ≡ outs ls + out_one v
outs_set [] k v d h = absurd (not-suc-le-zero h)
outs_set (l ∷ ls) zero v d h = omega arith
outs_set (l ∷ ls) (suc k) v d h = let e = outs_set ls k v d (le_of_suc-le-suc h) in omega arith

-- a last call that is not the default stands within the list
in_within : (ls : List Last) (k : ℕ) → record_by (get_or ls k written_off) ≡ In → k < length ls
in_within [] k e = absurd cc
in_within (r ∷ rs) zero e = omega arith
in_within (r ∷ rs) (suc k) e = let h = in_within rs k e in omega arith

taken_within : (ls : List Last) (k : ℕ) → get_or ls k written_off ≡ taken_out → k < length ls
taken_within [] k e = absurd cc
taken_within (r ∷ rs) zero e = omega arith
taken_within (r ∷ rs) (suc k) e = let h = taken_within rs k e in omega arith

in_none_out : (l : Last) → record_by l ≡ In → out_one l ≡ 0
in_none_out never e = refl
in_none_out taken_out e = absurd cc
in_none_out given_back e = refl
in_none_out written_off e = refl

-- one call: take-outs and what was out before, against the rest
abbrev Weighs : Call → Bool → Sheet → Type 0
Weighs c b h = if_obeyed b (take_one c) + outs h.lasts ≡ if_obeyed b (give_one c) + if_obeyed b (write_one c) + outs (fed_call c b h).lasts

refused_weighs : (c : Call) (h : Sheet) → Weighs c false h
refused_weighs c h = omega arith

block_weighs : (c : Call) (b : Bool) (h : Sheet) → take_one c ≡ 0 → give_one c ≡ 0 → write_one c ≡ 0 → (fed_call c true h).lasts ≡ h.lasts → Weighs c b h
block_weighs c true h e f g k = let q = ap outs k in omega arith
block_weighs c false h e f g k = omega arith

take_weighs : (h : Sheet) (k : ℕ) (p : Pass) (f : Option SessionFault) → (f ≡ None → record_by (get_or h.lasts k written_off) ≡ In) → Weighs (take_out k) (is_ok (answered f p)) h
take_weighs h k p None was =
    let c = outs_set h.lasts k taken_out written_off (in_within h.lasts k (was refl)) in
    let z = in_none_out (get_or h.lasts k written_off) (was refl) in
    omega arith
take_weighs h k p (Some f) was = refused_weighs (take_out k) h

give_weighs : (h : Sheet) (p : Pass) (f : Option SessionFault) → (f ≡ None → get_or h.lasts p.coupler written_off ≡ taken_out) → Weighs (give_back p) (is_ok (returned f p)) h
give_weighs h p None was =
    let c = outs_set h.lasts p.coupler given_back written_off (taken_within h.lasts p.coupler (was refl)) in
    let z = ap out_one (was refl) in
    omega arith
give_weighs h p (Some f) was = refused_weighs (give_back p) h

write_weighs : (h : Sheet) (p : Pass) (f : Option SessionFault) → (f ≡ None → get_or h.lasts p.coupler written_off ≡ taken_out) → Weighs (write_off p) (is_ok (returned f p)) h
write_weighs h p None was =
    let c = outs_set h.lasts p.coupler written_off written_off (taken_within h.lasts p.coupler (was refl)) in
    let z = ap out_one (was refl) in
    omega arith
write_weighs h p (Some f) was = refused_weighs (write_off p) h

step_weighs : {s t : State} {e : Event} (h : Sheet) → Step s e t → Tied s h → Weighs e.call e.obeyed h
step_weighs h (adds v w l m a b r c) ti = block_weighs (cx a b) (is_ok r) h refl refl refl refl
step_weighs h (swaps v w l m a b r c) ti = block_weighs (swap a b) (is_ok r) h refl refl refl refl
step_weighs h (takes_out s t k r c) ti =
    subst (λ (y : Result Pass SessionFault). Weighs (take_out k) (is_ok y) h) (sym c.answer)
    (take_weighs h k (record { session = s.session.number; coupler = k }) (take_fault s k) (was_in s h k ti))
step_weighs h (gives_back s t p r c) ti =
    subst (λ (y : Result (Unit {0}) (SessionFault × Pass)). Weighs (give_back p) (is_ok y) h) (sym c.answer) (give_weighs h p (end_fault s p) (was_taken_out s h p ti))
step_weighs h (writes_off s t p r c) ti =
    subst (λ (y : Result (Unit {0}) (SessionFault × Pass)). Weighs (write_off p) (is_ok y) h) (sym c.answer) (write_weighs h p (end_fault s p) (was_taken_out s h p ti))
step_weighs h (flushes s t buffer left r c) ti = block_weighs (flush (length buffer)) (is_ok r) h refl refl refl refl

pub run_weighs : {s t : State} {es : List Event} (h : Sheet) → Run s es t → Tied s h
    → tally take_one es + outs h.lasts ≡ tally give_one es + tally write_one es + outs (fed h es).lasts
run_weighs h (ended s) ti = omega arith
run_weighs h (then s t u e es st r) ti =
    let a = step_weighs h st ti in
    let b = run_weighs (feed e h) r (step_tied h st ti) in
    omega arith

pub none_out : (m : ℕ) → outs (replicate m never) ≡ 0
none_out zero = refl
none_out (suc m) = let e = none_out m in omega arith

-- As many passes are in slots as couplers are out on a pass.
use Rattle.std.proofs.Common.{◌≡◌, ℕ, zero, suc, ◌+◌, ◌<◌, Bool, true, false, cond, not, ltb, List, [], ◌∷◌, ◌++◌, length, get_or, set, is_some, is_ok, Some, None, Option, Result, sym, refl, ap, ◌∙◌, subst₂, le_of_suc-le-suc, not-suc-le-zero, arith}
use Rattle.chip.specs.Answers.{answered}
use Rattle.chip.specs.Layout.{Sound}
use Rattle.session_fault.specs.declared.SessionFault.{SessionFault}
use Rattle.session.specs.declared.pass.Pass.{Pass}
use Rattle.session.specs.New.{New}
use Rattle.session.specs.Outages.{take_fault, end_fault, returned}
use Rattle.runs.specs.Runs.{Call, cx, swap, take_out, give_back, write_off, flush, Event}
use Rattle.runs.specs.Sheet.{tally, if_obeyed, take_one, give_one, write_one, outs}
use Rattle.runs.specs.Law.{sheet_of}
use Rattle.runs.proofs.Exact.{the_law}
use Rattle.script.specs.declared.order.Order.{Order}
use Rattle.script.specs.Answers.{Answer}
use Rattle.script.specs.declared.order.Turn.{Turn}
use Rattle.script.specs.Slots.{Slots, vacant, stowed, emptied}
use Rattle.script.specs.Turns.{Bench, Made, adds, swaps, locates, takes_out, no_slot, gives_back, none_to_give, writes_off, none_to_write, flushes, Turns, over, next}
use Rattle.script.proofs.Turning.{turns_run}
use Rattle.closing.specs.Good.{passes_in, filled_count}
use Rattle.closing.proofs.Keeping.{has_slot, vacant_below}

-- ---- one slot

filled_set : (h : Slots) (slot : ℕ) (x : Option Pass) → slot < length h → filled_count (set h slot x) + passes_in (get_or h slot None) ≡ filled_count h + passes_in x
filled_set [] slot x l = absurd (not-suc-le-zero l)
filled_set (y ∷ h) zero x l = omega arith
filled_set (y ∷ h) (suc slot) x l = let e = filled_set h slot x (le_of_suc-le-suc l) in omega arith

none_there : (o : Option Pass) (b : Bool) → cond b (not (is_some o)) false ≡ true → passes_in o ≡ 0
none_there None b e = refl
none_there (Some p) true e = absurd cc
none_there (Some p) false e = absurd cc

none_filled : (h : Slots) → ((i : ℕ) → get_or h i None ≡ None) → filled_count h ≡ 0
none_filled [] none = refl
none_filled (x ∷ h) none = let a = ap passes_in (none 0) in let b = none_filled h (λ i. none (suc i)) in omega arith

-- ---- one call: passes in slots and ended ones, against those before and new ones

abbrev Weighs : Slots → Slots → Call → Bool → Type 0
Weighs h i c ok = filled_count i + if_obeyed ok (give_one c) + if_obeyed ok (write_one c) ≡ filled_count h + if_obeyed ok (take_one c)

idle_weighs : (h : Slots) (c : Call) (ok : Bool) → take_one c ≡ 0 → give_one c ≡ 0 → write_one c ≡ 0 → Weighs h h c ok
idle_weighs h c true e f g = omega arith
idle_weighs h c false e f g = omega arith

take_weighs : (h : Slots) (k slot : ℕ) (p : Pass) (f : Option SessionFault) → vacant h slot ≡ true → Weighs h (stowed (answered f p) slot h) (take_out k) (is_ok (answered f p))
take_weighs h k slot p None free =
    let a = filled_set h slot (Some p) (vacant_below h slot free) in
    let b = none_there (get_or h slot None) (ltb slot (length h)) free in
    omega arith
take_weighs h k slot p (Some f) free = omega arith

emptied_one : (h : Slots) (slot : ℕ) (p : Pass) → get_or h slot None ≡ Some p → filled_count (set h slot None) + 1 ≡ filled_count h
emptied_one h slot p there = let a = filled_set h slot None (has_slot h slot p there) in let b = ap passes_in there in omega arith

give_weighs : (h : Slots) (slot : ℕ) (p : Pass) (f : Option SessionFault) → get_or h slot None ≡ Some p → Weighs h (emptied (returned f p) slot h) (give_back p) (is_ok (returned f p))
give_weighs h slot p None there = let a = emptied_one h slot p there in omega arith
give_weighs h slot p (Some f) there = omega arith

write_weighs : (h : Slots) (slot : ℕ) (p : Pass) (f : Option SessionFault) → get_or h slot None ≡ Some p → Weighs h (emptied (returned f p) slot h) (write_off p) (is_ok (returned f p))
write_weighs h slot p None there = let a = emptied_one h slot p there in omega arith
write_weighs h slot p (Some f) there = omega arith

-- ---- turns

abbrev Counts : Bench → Bench → List Event → Type 0
Counts b c es = filled_count c.slots + tally give_one es + tally write_one es ≡ filled_count b.slots + tally take_one es

made_counts : {b c : Bench} {o : Order} {a : Answer} {es : List Event} → Made b o a c es → Counts b c es
made_counts (adds v w l m h b x y r c) = let e = idle_weighs h (cx x y) (is_ok r) refl refl refl in omega arith
made_counts (swaps v w l m h b x y r c) = let e = idle_weighs h (swap x y) (is_ok r) refl refl refl in omega arith
made_counts (locates s h b w) = omega arith
made_counts (takes_out s t h i b k slot a free c) =
    let e : Weighs h i (take_out k) (is_ok c.result) =
    subst₂ (λ (j : Slots) (r : Result Pass SessionFault). Weighs h j (take_out k) (is_ok r)) (sym (c.slots ∙ ap (λ (r : Result Pass SessionFault). stowed r slot h) c.call.answer))
    (sym c.call.answer) (take_weighs h k slot (record { session = s.session.number; coupler = k }) (take_fault s k) free) in
    omega arith
made_counts (no_slot s h b k slot z) = omega arith
made_counts (gives_back s t h i b slot a z c) =
    let e : Weighs h i (give_back c.pass) (is_ok c.result) =
    subst₂ (λ (j : Slots) (r : Result (Unit {0}) (SessionFault × Pass)). Weighs h j (give_back c.pass) (is_ok r))
    (sym (c.slots ∙ ap (λ (r : Result (Unit {0}) (SessionFault × Pass)). emptied r slot h) c.call.answer)) (sym c.call.answer)
    (give_weighs h slot c.pass (end_fault s c.pass) c.there) in
    omega arith
made_counts (none_to_give s h b slot z) = omega arith
made_counts (writes_off s t h i b slot a z c) =
    let e : Weighs h i (write_off c.pass) (is_ok c.result) =
    subst₂ (λ (j : Slots) (r : Result (Unit {0}) (SessionFault × Pass)). Weighs h j (write_off c.pass) (is_ok r))
    (sym (c.slots ∙ ap (λ (r : Result (Unit {0}) (SessionFault × Pass)). emptied r slot h) c.call.answer)) (sym c.call.answer)
    (write_weighs h slot c.pass (end_fault s c.pass) c.there) in
    omega arith
made_counts (none_to_write s h b slot z) = omega arith
made_counts (flushes s t h b c r f) = let e = idle_weighs h (flush (length b)) (is_ok r) refl refl refl in omega arith

tally_append : (kind : Call → ℕ) (es fs : List Event) → tally kind (es ++ fs) ≡ tally kind es + tally kind fs
tally_append kind [] fs = omega arith
tally_append kind (e ∷ es) fs = let h = tally_append kind es fs in omega arith

turns_count : {b c : Bench} {ts : List Turn} {es : List Event} → Turns b ts c es → Counts b c es
turns_count (over b) = omega arith
turns_count (next b c d x ts es fs m r) =
    let a = made_counts m in
    let e = turns_count r in
    omega (arith, tally_append give_one es fs, tally_append write_one es fs, tally_append take_one es fs)

pub as_many_as_out : (b c : Bench) (ts : List Turn) (es : List Event) → Sound b.state.layout → New b.state → ((i : ℕ) → get_or b.slots i None ≡ None) → Turns b ts c es
    → filled_count c.slots ≡ outs (sheet_of b.state es).lasts
as_many_as_out b c ts es so new none turns =
    let a = turns_count turns in
    let e = none_filled b.slots none in
    let w = (the_law b.state c.state es so new (turns_run turns)).balance in
    omega arith

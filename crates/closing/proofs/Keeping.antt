-- Passes in slots can be ended, whatever turn is made.
use Rattle.std.proofs.Common.{◌≡◌, ℕ, ◌+◌, ◌<◌, ◌≤◌, Bool, true, false, cond, not, eqb, ltb, ◌≢◌, ◌⊎◌, List, [], ◌∷◌, ◌++◌, length, get_or, take, set, replicate, is_some, Some, None, Ok, Option, Result, sym, refl, ap, ◌∙◌, subst, subst₂, inl, inr, arith, length-set}
use lib.ListN.{length-replicate, get_or-eq_default, get_or-append}
use Rattle.std.proofs.lemmas.List.{take_all, take-append-le, get_or-set_same, get_or-set_other, get_or-replicate}
use Rattle.std.proofs.lemmas.Bool.{cases_eq, cases_lt, ltb-true, eq-eqb, and_from}
use Rattle.chip.specs.Answers.{answered, kept}
use Rattle.chip.specs.Layout.{Layout, Sound}
use Rattle.chip.proofs.Answers.{answered_ok}
use Rattle.machine.specs.declared.fault.MachineFault.TheVariants.{NoSuchCoupler}
use Rattle.machine.specs.Meaning.{Meaning}
use Rattle.session_fault.specs.declared.SessionFault.{SessionFault}
use Rattle.session_fault.specs.declared.SessionFault.TheVariants.{SizeMismatch, CouplerNotIn, OtherSession, CouplerNotOut, Machine}
use Rattle.session.specs.declared.pass.Pass.{Pass}
use Rattle.session.specs.declared.records.CouplerRecord.{CouplerRecord}
use Rattle.session.specs.declared.records.CouplerRecord.TheVariants.{In, Out, WrittenOff}
use Rattle.session.specs.State.{View, State, beside, sized, with_block}
use Rattle.session.specs.New.{New}
use Rattle.session.specs.Calls.{pair_fault}
use Rattle.session.specs.Outages.{is_in, is_out, recorded, take_fault, end_fault, returned, TakeOut}
use Rattle.session.specs.Flushes.{Flush, other_size, short, unreachable, too_many, plays}
use Rattle.runs.specs.Runs.{Event}
use Rattle.script.specs.declared.order.Order.{Order}
use Rattle.script.specs.Answers.{Answer}
use Rattle.script.specs.declared.order.Turn.{Turn}
use Rattle.script.specs.Slots.{Slots, vacant, stowed, emptied}
use Rattle.script.specs.Turns.{Bench, Made, adds, swaps, locates, takes_out, no_slot, gives_back, none_to_give, writes_off, none_to_write, flushes, Turns, over, next, Ran}
use Rattle.closing.specs.Good.{Good, passes_in, filled_count, slot_fault, after_write_off}

-- ---- records and slots

in_not_out : In ≡ Out → ⊥
in_not_out e = absurd cc

none_not_some : {A : Type 0} (o : Option A) (a : A) → o ≡ None → o ≡ Some a → ⊥
none_not_some o a e f = absurd cc

some_same : {A : Type 0} (o : Option A) (a b : A) → o ≡ Some a → o ≡ Some b → a ≡ b
some_same o a b e f = cc

innermost : {F : Type 0} (a b c : Bool) (x y z : F) → ◌≡◌ {A = Option F} (cond a (cond b (cond c None (Some x)) (Some y)) (Some z)) None → c ≡ true
innermost true true true x y z e = refl
innermost true true false x y z e = cc
innermost true false true x y z e = refl
innermost true false false x y z e = cc
innermost false b true x y z e = refl
innermost false b false x y z e = cc

second : {F : Type 0} (a b : Bool) (o : Option F) (y z : F) → ◌≡◌ {A = Option F} (cond a (cond b o (Some y)) (Some z)) None → b ≡ true
second true true o y z e = refl
second true false o y z e = cc
second false b o y z e = cc

in_if_is_in : (r : CouplerRecord) → is_in r ≡ true → r ≡ In
in_if_is_in In e = refl
in_if_is_in Out e = cc
in_if_is_in WrittenOff e = cc

found_in : (s : State) (k : ℕ) → take_fault s k ≡ None → get_or s.session.records k WrittenOff ≡ In
found_in s k e =
    in_if_is_in (get_or s.session.records k WrittenOff)
    (innermost (sized s) (ltb k (length s.layout.couplers)) (is_in (get_or s.session.records k WrittenOff)) CouplerNotIn (Machine NoSuchCoupler) SizeMismatch e)

-- a pass that is handed out names a coupler of the chip
pub handed_out_stays : (s t : State) (k : ℕ) (p : Pass) → Sound s.layout → TakeOut s k (Ok p) t → p.coupler < 256
handed_out_stays s t k p so out =
    let few = so.at_most_256 in
    let free : take_fault s k ≡ None = answered_ok (take_fault s k) (record { session = s.session.number; coupler = k }) p (Ok p) out.answer refl in
    let inside = ltb-true k (length s.layout.couplers) (second (sized s) (ltb k (length s.layout.couplers)) _ (Machine NoSuchCoupler) SizeMismatch free) in
    let named : Ok p ≡ Ok (record { session = s.session.number; coupler = k }) = out.answer ∙ ap (λ (f : Option SessionFault). answered f (record { session = s.session.number; coupler = k })) free in
    let same : p ≡ record { session = s.session.number; coupler = k } = cc in
    let number : p.coupler ≡ k = ap (λ (q : Pass). q.coupler) same in
    omega arith

-- what is not the default is in the list
inside : {A : Type 0} (xs : List A) (i : ℕ) (d a : A) → get_or xs i d ≡ a → (d ≡ a → ⊥) → i < length xs
inside xs i d a e n = elim (cases_lt i (length xs)) [
  | inl l ↦ l
  | inr l ↦ absurd (n (sym (get_or-eq_default xs d l) ∙ e))
]

pub has_slot : (h : Slots) (i : ℕ) (p : Pass) → get_or h i None ≡ Some p → i < length h
has_slot h i p e = inside h i None (Some p) e (λ z. none_not_some None p refl z)

-- the record of another coupler
others_kept : (s : State) (k c : ℕ) (r : CouplerRecord) → get_or s.session.records c WrittenOff ≡ Out → c ≢ k → get_or (set s.session.records k r) c WrittenOff ≡ Out
others_kept s k c r e n = get_or-set_other s.session.records k c r WrittenOff n ∙ e

-- ---- a pass goes into an empty slot

pub vacant_below : (h : Slots) (slot : ℕ) → vacant h slot ≡ true → slot < length h
vacant_below h slot e = ltb-true slot (length h) (first (ltb slot (length h)) (not (is_some (get_or h slot None))) e)
  where
    first : (a b : Bool) → cond a b false ≡ true → a ≡ true
    first true b e = refl
    first false b e = e

module _ (s : State) (h : Slots) (k slot : ℕ) (service : List Bool) (was : get_or s.session.records k WrittenOff ≡ In) (below : slot < length h) (g : Good s h) where
  abbrev handed : Pass
  handed = record { session = s.session.number; coupler = k }

  abbrev after : Slots
  after = set h slot (Some handed)

  not_taken : (i : ℕ) (p : Pass) → get_or h i None ≡ Some p → p.coupler ≢ k
  not_taken i p e n = in_not_out (sym was ∙ ap (λ (c : ℕ). get_or s.session.records c WrittenOff) (sym n) ∙ (g.own i p e).1)

  -- the slot has the new pass, and the others what they had
  cases : (i : ℕ) (p : Pass) → get_or after i None ≡ Some p → ((i ≡ slot) × (p ≡ handed)) ⊎ (get_or h i None ≡ Some p)
  cases i p e = elim (cases_eq i slot) [
    | inl z ↦ inl (z, some_same (Some handed) p handed (sym (ap (λ (j : ℕ). get_or after j None) z ∙ get_or-set_same h slot (Some handed) None below) ∙ e) refl)
    | inr n ↦ inr (sym (get_or-set_other h slot i (Some handed) None n) ∙ e)
  ]

  taken_own : (i : ℕ) (p : Pass) → get_or after i None ≡ Some p
      → (p.session ≡ s.session.number) × (get_or (set s.session.records k Out) p.coupler WrittenOff ≡ Out)
  taken_own i p e = elim (cases i p e) [
    | inl z ↦ (
      ap (λ (q : Pass). q.session) z.1,
      ap (λ (q : Pass). get_or (set s.session.records k Out) q.coupler WrittenOff) z.1
          ∙ get_or-set_same s.session.records k Out WrittenOff (inside s.session.records k WrittenOff In was (λ y. absurd cc)),
    )
    | inr f ↦ ((g.own i p f).0, others_kept s k p.coupler Out (g.own i p f).1 (not_taken i p f))
  ]

  taken_apart : (i j : ℕ) (p q : Pass) → get_or after i None ≡ Some p → get_or after j None ≡ Some q → p.coupler ≡ q.coupler → i ≡ j
  taken_apart i j p q e f c = elim (cases i p e) [
    | inl y ↦ elim (cases j q f) [
      | inl z ↦ y.0 ∙ sym z.0
      | inr z ↦ absurd (not_taken j q z (sym c ∙ ap (λ (x : Pass). x.coupler) y.1))
    ]
    | inr y ↦ elim (cases j q f) [
      | inl z ↦ absurd (not_taken i p y (c ∙ ap (λ (x : Pass). x.coupler) z.1))
      | inr z ↦ g.apart i j p q y z c
    ]
  ]

  taken_good : Good (recorded s k Out service) after
  taken_good = record { size = g.size; own = taken_own; apart = taken_apart }

take_good : (s : State) (h : Slots) (k slot : ℕ) (f : Option SessionFault) (service : List Bool) → (f ≡ None → get_or s.session.records k WrittenOff ≡ In) → vacant h slot ≡ true → Good s h
    → Good (kept f (recorded s k Out service) s) (stowed (answered f (record { session = s.session.number; coupler = k })) slot h)
take_good s h k slot None service was free g = taken_good s h k slot service (was refl) (vacant_below h slot free) g
take_good s h k slot (Some f) service was free g = g

-- ---- a pass leaves its slot

emptied_at : (h : Slots) (slot : ℕ) → get_or (set h slot None) slot None ≡ None
emptied_at h slot = elim (cases_lt slot (length h)) [
  | inl l ↦ get_or-set_same h slot None None l
  | inr l ↦ get_or-eq_default (set h slot None) None (subst (λ (n : ℕ). n ≤ slot) (sym (length-set h slot None)) l)
]

-- slots that have no more than these had, and none of them the pass of slot: the record of its coupler may change
less_good : (s : State) (h i : Slots) (slot : ℕ) (p : Pass) (r : CouplerRecord) (service : List Bool) → get_or h slot None ≡ Some p
    → ((j : ℕ) (q : Pass) → get_or i j None ≡ Some q → (j ≢ slot) × (get_or h j None ≡ Some q)) → Good s h → Good (recorded s p.coupler r service) i
less_good s h i slot p r service there less g = record {
  size = g.size;
  own = λ j q e. (
    (g.own j q (less j q e).1).0,
    others_kept s p.coupler q.coupler r (g.own j q (less j q e).1).1 (λ c. (less j q e).0 (g.apart j slot q p (less j q e).1 there c)),
  );
  apart = λ j k q t e f c. g.apart j k q t (less j q e).1 (less k t f).1 c;
}

end_good : (s : State) (h : Slots) (slot : ℕ) (p : Pass) (r : CouplerRecord) (service : List Bool) (f : Option SessionFault) → get_or h slot None ≡ Some p → Good s h
    → Good (kept f (recorded s p.coupler r service) s) (emptied (returned f p) slot h)
end_good s h slot p r service None there g = less_good s h (set h slot None) slot p r service there left g
  where
    left : (j : ℕ) (q : Pass) → get_or (set h slot None) j None ≡ Some q → (j ≢ slot) × (get_or h j None ≡ Some q)
    left j q e = elim (cases_eq j slot) [
      | inl z ↦ absurd (none_not_some (get_or (set h slot None) j None) q (ap (λ (m : ℕ). get_or (set h slot None) m None) z ∙ emptied_at h slot) e)
      | inr n ↦ (n, sym (get_or-set_other h slot j None None n) ∙ e)
    ]
end_good s h slot p r service (Some f) there g = g

-- ---- the other calls

block_good : (v : View) (l : Layout) (m : Meaning) (h : Slots) (b : List ℕ) (f : Option SessionFault) → Good (beside v l m) h → Good (beside (kept f (with_block v b) v) l m) h
block_good v l m h b None g = record { size = g.size; own = g.own; apart = g.apart }
block_good v l m h b (Some f) g = g

flush_good : {s t : State} {buffer left : List ℕ} {r : Result ℕ SessionFault} (h : Slots) → Flush s buffer r t left → Good s h → Good t h
flush_good h (other_size z) g = g
flush_good h (short z l) g = g
flush_good h (unreachable z l none) g = g
flush_good h (too_many count new es z l plan a) g = g
flush_good h (plays count new es z l plan a) g = record { size = g.size; own = g.own; apart = g.apart }

-- ---- turns

made_good : {b c : Bench} {o : Order} {a : Answer} {es : List Event} → Made b o a c es → Good b.state b.slots → Good c.state c.slots
made_good (adds v w l m h b x y r c) g = subst (λ (u : View). Good (beside u l m) h) (sym c.leaves) (block_good v l m h _ (pair_fault v x y) g)
made_good (swaps v w l m h b x y r c) g = subst (λ (u : View). Good (beside u l m) h) (sym c.leaves) (block_good v l m h _ (pair_fault v x y) g)
made_good (locates s h b w) g = g
made_good (takes_out s t h i b k slot a free c) g =
    subst₂ Good (sym c.call.leaves) (sym (c.slots ∙ ap (λ (r : Result Pass SessionFault). stowed r slot h) c.call.answer))
    (take_good s h k slot (take_fault s k) (set s.machine.service k false) (found_in s k) free g)
made_good (no_slot s h b k slot z) g = g
made_good (gives_back s t h i b slot a z c) g =
    subst₂ Good (sym c.call.leaves) (sym (c.slots ∙ ap (λ (r : Result (Unit {0}) (SessionFault × Pass)). emptied r slot h) c.call.answer))
    (end_good s h slot c.pass In (set s.machine.service c.pass.coupler true) (end_fault s c.pass) c.there g)
made_good (none_to_give s h b slot z) g = g
made_good (writes_off s t h i b slot a z c) g =
    subst₂ Good (sym c.call.leaves) (sym (c.slots ∙ ap (λ (r : Result (Unit {0}) (SessionFault × Pass)). emptied r slot h) c.call.answer))
    (end_good s h slot c.pass WrittenOff s.machine.service (end_fault s c.pass) c.there g)
made_good (none_to_write s h b slot z) g = g
made_good (flushes s t h b c r f) g = flush_good h f g

pub turns_good : (b c : Bench) (ts : List Turn) (es : List Event) → Turns b ts c es → Good b.state b.slots → Good c.state c.slots
turns_good b c ts es (over d) g = g
turns_good b c ts es (next d e f x us fs hs m r) g = turns_good e f us hs r (made_good m g)

-- ---- the start

pub new_good : (s : State) (h : Slots) → New s → ((i : ℕ) → get_or h i None ≡ None) → Good s h
new_good s h new none = record {
  size = and_from _ _ (eq-eqb s.layout.places s.session.places (sym new.session_new.places))
      (eq-eqb (length s.layout.couplers) s.session.couplers (sym (new.session_new.couplers ∙ length-replicate (length s.layout.couplers) In)));
  own = λ i p e. absurd (none_not_some (get_or h i None) p (none i) e);
  apart = λ i j p q e f c. absurd (none_not_some (get_or h i None) p (none i) e);
}

none_in_empty : (n i : ℕ) → ◌≡◌ {A = Option Pass} (get_or (replicate n None) i None) None
none_in_empty n i = elim (cases_lt i n) [
  | inl l ↦ get_or-replicate n i None None l
  | inr l ↦ get_or-eq_default (replicate n None) None (subst (λ (m : ℕ). m ≤ i) (sym (length-replicate n None)) l)
]

pub started_good : (s : State) (h : Slots) (n : ℕ) → New s → h ≡ replicate n None → Good s h
started_good s h n new empty = new_good s h new (λ i. ap (λ (l : Slots). get_or l i None) empty ∙ none_in_empty n i)

-- a vector that was lent as a slice and has as many items as before
pub lent_items : (n : ℕ) (h rest : Slots) → length h ≡ n → take n (h ++ rest) ≡ h
lent_items n h rest e =
    let le : n ≤ length h = omega arith in
    let ge : length h ≤ n = omega arith in
    take-append-le n h rest le ∙ take_all n h ge

pub lent_good : (b c : Bench) (ts : List Turn) (h rest : Slots) (n : ℕ) → b.slots ≡ h → length c.slots ≡ n → Ran b ts c → Good b.state h → Good c.state (take n (c.slots ++ rest))
lent_good b c ts h rest n same long ran g =
    subst (Good c.state) (sym (lent_items n c.slots rest long)) (turns_good b c ts ran.events ran.turns (subst (Good b.state) (sym same) g))

-- ---- the last slot

within_some : {F : Type 0} (a b c : Bool) (x y z : F) → a ≡ true → b ≡ true → c ≡ true → ◌≡◌ {A = Option F} (cond a (cond b (cond c None (Some x)) (Some y)) (Some z)) None
within_some true true true x y z e f g = refl
within_some true true false x y z e f g = cc
within_some true false c x y z e f g = cc
within_some false b c x y z e f g = cc

last_slot : (h : Slots) (x : Option Pass) → get_or (h ++ x ∷ []) (length h) None ≡ x
last_slot [] x = refl
last_slot (y ∷ h) x = last_slot h x

last_can_end : (s : State) (h : Slots) (x : Option Pass) → Good s (h ++ x ∷ []) → slot_fault s x ≡ None
last_can_end s h None g = refl
last_can_end s h (Some p) g =
    let own = g.own (length h) p (last_slot h (Some p)) in
    within_some (sized s) (eqb p.session s.session.number) (is_out (get_or s.session.records p.coupler WrittenOff)) CouplerNotOut OtherSession SizeMismatch
    g.size (eq-eqb p.session s.session.number own.0) (ap is_out own.1)

before_last : (h : Slots) (x : Option Pass) (j : ℕ) (q : Pass) → get_or h j None ≡ Some q → (j ≢ length h) × (get_or (h ++ x ∷ []) j None ≡ Some q)
before_last h x j q e =
    let lt : j < length h = has_slot h j q e in
    ((λ z. omega arith), get_or-append h (x ∷ []) None j lt ∙ e)

without_last : (s : State) (h : Slots) (x : Option Pass) → Good s (h ++ x ∷ []) → Good (after_write_off s x) h
without_last s h None g = record {
  size = g.size;
  own = λ j q e. g.own j q (before_last h None j q e).1;
  apart = λ j k q t e f c. g.apart j k q t (before_last h None j q e).1 (before_last h None k t f).1 c;
}
without_last s h (Some p) g = less_good s (h ++ Some p ∷ []) h (length h) p WrittenOff s.machine.service (last_slot h (Some p)) (before_last h (Some p)) g

count_last : (h : Slots) (x : Option Pass) → filled_count (h ++ x ∷ []) ≡ filled_count h + passes_in x
count_last [] x = omega arith
count_last (y ∷ h) x = let more : filled_count (h ++ x ∷ []) ≡ filled_count h + passes_in x = count_last h x in omega arith

one_at_most : (x : Option Pass) → passes_in x ≤ 1
one_at_most None = omega arith
one_at_most (Some p) = omega arith

pub count_within : (h : Slots) → filled_count h ≤ length h
count_within [] = omega arith
count_within (x ∷ h) = let a : passes_in x ≤ 1 = one_at_most x in let b : filled_count h ≤ length h = count_within h in omega arith

-- ---- one slot after another, from the last

pub can_end : (s : State) (h i : Slots) (x : Option Pass) → h ≡ i ++ x ∷ [] → Good s h → slot_fault s x ≡ None
can_end s h i x e g = last_can_end s i x (subst (Good s) e g)

pub ended_good : (s t : State) (h i : Slots) (x : Option Pass) → h ≡ i ++ x ∷ [] → t ≡ after_write_off s x → Good s h → Good t i
ended_good s t h i x e f g = subst (λ (u : State). Good u i) (sym f) (without_last s i x (subst (Good s) e g))

-- n were counted before, and k in this slot
pub count_more : (h i : Slots) (x : Option Pass) (n k all : ℕ) → h ≡ i ++ x ∷ [] → k ≡ passes_in x → n + filled_count h ≡ all → n + k + filled_count i ≡ all
count_more h i x n k all e f c = let last : filled_count h ≡ filled_count i + passes_in x = ap filled_count e ∙ count_last i x in omega arith

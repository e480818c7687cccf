-- What each call does to the passes that a session takes.
use Rattle.std.proofs.Common.{◌≡◌, ℕ, zero, suc, Bool, true, false, cond, eqb, ltb, List, [], ◌∷◌, length, get_or, set, Some, None, Ok, Err, Option, Result, sym, refl, ap, ◌∙◌, arith, eq-eqb}
use Rattle.std.proofs.lemmas.List.{get_or-set_other}
use Rattle.chip.specs.Layout.{Layout}
use Rattle.chip.specs.Answers.{answered, kept}
use Rattle.machine.specs.Meaning.{Meaning}
use Rattle.session_fault.specs.declared.SessionFault.{SessionFault}
use Rattle.session_fault.specs.declared.SessionFault.TheVariants.{SizeMismatch, CouplerNotIn, OtherSession, CouplerNotOut, Machine}
use Rattle.machine.specs.declared.fault.MachineFault.TheVariants.{NoSuchCoupler}
use Rattle.session.specs.declared.pass.Pass.{Pass}
use Rattle.session.specs.declared.records.CouplerRecord.{CouplerRecord}
use Rattle.session.specs.declared.records.CouplerRecord.TheVariants.{In, Out, WrittenOff}
use Rattle.session.specs.State.{View, State, beside, sized, with_block}
use Rattle.session.specs.Calls.{Cx, Swap, pair_fault}
use Rattle.session.specs.Flushes.{Flush, other_size, short, unreachable, too_many, plays}
use Rattle.session.specs.Outages.{is_in, is_out, recorded, take_fault, end_fault, returned, TakeOut, GiveBack, WriteOff}
use Rattle.session_tests.specs.Passes.{Ends, Keeps, KeepsOthers}

abbrev Stays : State → State → Type 0
Stays s t = (p : Pass) → Ends s p → Ends t p

abbrev OthersStay : State → ℕ → State → Type 0
OthersStay s k t = (p : Pass) → (p.coupler ≡ k → ⊥) → Ends s p → Ends t p

-- three checks one after another, with what is said where one fails
abbrev checks : SessionFault → SessionFault → SessionFault → Bool → Bool → Bool → Option SessionFault
checks x y z a b c = cond a (cond b (cond c None (Some z)) (Some y)) (Some x)

passes_on : (x y z : SessionFault) (a b c d : Bool) → (c ≡ true → d ≡ true) → checks x y z a b c ≡ None → checks x y z a b d ≡ None
passes_on x y z true true true d f e = ap (λ (v : Bool). cond v None (Some z)) (f refl)
passes_on x y z true true false d f e = absurd cc
passes_on x y z true false c d f e = absurd cc
passes_on x y z false b c d f e = absurd cc

first_and_last : (x y z : SessionFault) (a b c : Bool) → checks x y z a b c ≡ None → (a ≡ true) × (c ≡ true)
first_and_last x y z true true true e = (refl, refl)
first_and_last x y z true true false e = absurd cc
first_and_last x y z true false c e = absurd cc
first_and_last x y z false b c e = absurd cc

all_three : (x y z : SessionFault) (a b c : Bool) → a ≡ true → b ≡ true → c ≡ true → checks x y z a b c ≡ None
all_three x y z a b c e f g =
    ap (λ (v : Bool). checks x y z v b c) e ∙ ap (λ (v : Bool). checks x y z true v c) f ∙ ap (λ (v : Bool). checks x y z true true v) g

stays_out : (rs : List CouplerRecord) (k j : ℕ) → is_out (get_or rs j WrittenOff) ≡ true → is_out (get_or (set rs k Out) j WrittenOff) ≡ true
stays_out [] k j h = h
stays_out (r ∷ rs) zero zero h = refl
stays_out (r ∷ rs) zero (suc j) h = h
stays_out (r ∷ rs) (suc k) zero h = h
stays_out (r ∷ rs) (suc k) (suc j) h = stays_out rs k j h

goes_out : (rs : List CouplerRecord) (k : ℕ) → is_in (get_or rs k WrittenOff) ≡ true → is_out (get_or (set rs k Out) k WrittenOff) ≡ true
goes_out [] k h = absurd cc
goes_out (r ∷ rs) zero h = refl
goes_out (r ∷ rs) (suc k) h = goes_out rs k h

in_or_out : (r : CouplerRecord) → is_in r ≡ true → is_out r ≡ true → ⊥
in_or_out In i o = cc
in_or_out Out i o = cc
in_or_out WrittenOff i o = cc

kept_keeps : (f : Option SessionFault) (s x t : State) → t ≡ kept f x s → Stays s x → Stays s t
kept_keeps None s x t e h p ends = ap (λ (y : State). end_fault y p) e ∙ h p ends
kept_keeps (Some f) s x t e h p ends = ap (λ (y : State). end_fault y p) e ∙ ends

block_keeps : (f : Option SessionFault) (v w : View) (b : List ℕ) (l : Layout) (m : Meaning) → w ≡ kept f (with_block v b) v → Stays (beside v l m) (beside w l m)
block_keeps None v w b l m e p ends = ap (λ (x : View). end_fault (beside x l m) p) e ∙ ends
block_keeps (Some f) v w b l m e p ends = ap (λ (x : View). end_fault (beside x l m) p) e ∙ ends

pub cx_keeps : (v w : View) (a b : ℕ) (r : Result (Unit {0}) SessionFault) (l : Layout) (m : Meaning) → Cx v a b r w → Keeps (beside v l m) (beside w l m)
cx_keeps v w a b r l m c = record { stays = block_keeps (pair_fault v a b) v w _ l m c.leaves }

pub swap_keeps : (v w : View) (a b : ℕ) (r : Result (Unit {0}) SessionFault) (l : Layout) (m : Meaning) → Swap v a b r w → Keeps (beside v l m) (beside w l m)
swap_keeps v w a b r l m c = record { stays = block_keeps (pair_fault v a b) v w _ l m c.leaves }

flush_stays : (s t : State) (b c : List ℕ) (r : Result ℕ SessionFault) → Flush s b r t c → Stays s t
flush_stays s _ b _ _ (other_size _) p ends = ends
flush_stays s _ b _ _ (short _ _) p ends = ends
flush_stays s _ b _ _ (unreachable _ _ _) p ends = ends
flush_stays s _ b _ _ (too_many _ _ _ _ _ _ _) p ends = ends
flush_stays s _ b _ _ (plays _ _ _ _ _ _ _) p ends = ends

pub flush_keeps : (s t : State) (b c : List ℕ) (r : Result ℕ SessionFault) → Flush s b r t c → Keeps s t
flush_keeps s t b c r f = record { stays = flush_stays s t b c r f }

record_keeps : (s : State) (k : ℕ) (service : List Bool) → Stays s (recorded s k Out service)
record_keeps s k service p ends =
    passes_on SizeMismatch OtherSession CouplerNotOut (sized s) (eqb p.session s.session.number) (is_out (get_or s.session.records p.coupler WrittenOff)) (is_out (get_or (set s.session.records k Out) p.coupler WrittenOff))
    (stays_out s.session.records k p.coupler) ends

pub take_keeps : (s t : State) (k : ℕ) (r : Result Pass SessionFault) → TakeOut s k r t → Keeps s t
take_keeps s t k r c =
    record { stays = kept_keeps (take_fault s k) s (recorded s k Out (set s.machine.service k false)) t c.leaves (record_keeps s k (set s.machine.service k false)) }

record_others : (s : State) (k : ℕ) (r : CouplerRecord) (service : List Bool) → OthersStay s k (recorded s k r service)
record_others s k r service p other ends =
    passes_on SizeMismatch OtherSession CouplerNotOut (sized s) (eqb p.session s.session.number) (is_out (get_or s.session.records p.coupler WrittenOff)) (is_out (get_or (set s.session.records k r) p.coupler WrittenOff))
    (λ h. ap is_out (get_or-set_other s.session.records k p.coupler r WrittenOff other) ∙ h) ends

kept_others : (f : Option SessionFault) (s x t : State) (k : ℕ) → t ≡ kept f x s → OthersStay s k x → OthersStay s k t
kept_others None s x t k e h p other ends = ap (λ (y : State). end_fault y p) e ∙ h p other ends
kept_others (Some f) s x t k e h p other ends = ap (λ (y : State). end_fault y p) e ∙ ends

pub give_keeps_others : (s t : State) (p : Pass) (r : Result (Unit {0}) (SessionFault × Pass)) → GiveBack s p r t → KeepsOthers s p.coupler t
give_keeps_others s t p r c = record { stays = kept_others (end_fault s p) s _ t p.coupler c.leaves (record_others s p.coupler In (set s.machine.service p.coupler true)) }

pub write_keeps_others : (s t : State) (p : Pass) (r : Result (Unit {0}) (SessionFault × Pass)) → WriteOff s p r t → KeepsOthers s p.coupler t
write_keeps_others s t p r c = record { stays = kept_others (end_fault s p) s _ t p.coupler c.leaves (record_others s p.coupler WrittenOff s.machine.service) }

abbrev pass_or : Result Pass SessionFault → Pass → Pass
pass_or (Ok p) d = p
pass_or (Err f) d = d

abbrev back_or : Result (Unit {0}) (SessionFault × Pass) → Pass → Pass
back_or (Ok a) d = d
back_or (Err e) d = e.1

no_fault : (f : Option SessionFault) (a b : Pass) → Ok a ≡ answered f b → (f ≡ None) × (a ≡ b)
no_fault None a b e = (refl, ap (λ (r : Result Pass SessionFault). pass_or r b) e)
no_fault (Some f) a b e = absurd cc

kept_new : (f : Option SessionFault) (s x t : State) → f ≡ None → t ≡ kept f x s → t ≡ x
kept_new None s x t n e = e
kept_new (Some f) s x t n e = absurd cc

-- a pass just handed out can be ended
pub take_ends : (s t : State) (k : ℕ) (p : Pass) → TakeOut s k (Ok p) t → Ends t p
take_ends s t k p c =
    let new : Pass = record { session = s.session.number; coupler = k } in
    let said = no_fault (take_fault s k) p new c.answer in
    let good = first_and_last SizeMismatch (Machine NoSuchCoupler) CouplerNotIn (sized s) (ltb k (length s.layout.couplers)) (is_in (get_or s.session.records k WrittenOff)) said.0 in
    let there = kept_new (take_fault s k) s (recorded s k Out (set s.machine.service k false)) t said.0 c.leaves in
    ap (λ (y : State). end_fault y p) there ∙ ap (λ (q : Pass). end_fault (recorded s k Out (set s.machine.service k false)) q) said.1
    ∙ all_three SizeMismatch OtherSession CouplerNotOut (sized s) (eqb s.session.number s.session.number) (is_out (get_or (set s.session.records k Out) k WrittenOff)) good.0
    (eq-eqb s.session.number s.session.number refl) (goes_out s.session.records k good.1)

outage_stays : (s t u v : State) (k : ℕ) (p : Pass) → TakeOut s k (Ok p) t → Keeps t u → KeepsOthers u p.coupler v → Stays s v
outage_stays s t u v k p c keeps others q ends =
    let new : Pass = record { session = s.session.number; coupler = k } in
    let said = no_fault (take_fault s k) p new c.answer in
    let good = first_and_last SizeMismatch (Machine NoSuchCoupler) CouplerNotIn (sized s) (ltb k (length s.layout.couplers)) (is_in (get_or s.session.records k WrittenOff)) said.0 in
    let out = first_and_last SizeMismatch OtherSession CouplerNotOut (sized s) (eqb q.session s.session.number) (is_out (get_or s.session.records q.coupler WrittenOff)) ends in
    others.stays q
    (λ same. in_or_out (get_or s.session.records k WrittenOff) good.1
    (sym (ap (λ (j : ℕ). is_out (get_or s.session.records j WrittenOff)) (same ∙ ap (λ (r : Pass). r.coupler) said.1)) ∙ out.1))
    (keeps.stays q ((take_keeps s t k (Ok p) c).stays q ends))

-- an outage that is over has left the other passes as they were
pub outage_keeps : (s t u v : State) (k : ℕ) (p : Pass) → TakeOut s k (Ok p) t → Keeps t u → KeepsOthers u p.coupler v → Keeps s v
outage_keeps s t u v k p c keeps others = record { stays = outage_stays s t u v k p c keeps others }

-- passes of sessions with one number, for one coupler, are alike
pub alike : (s t u v : State) (k : ℕ) (p q : Pass) → TakeOut s k (Ok p) t → TakeOut u k (Ok q) v → s.session.number ≡ u.session.number → p ≡ q
alike s t u v k p q c d same =
    let made : ℕ → Pass = λ n. record { session = n; coupler = k } in
    (no_fault (take_fault s k) p (made s.session.number) c.answer).1 ∙ ap made same ∙ sym (no_fault (take_fault u k) q (made u.session.number) d.answer).1

came_back : (f : Option SessionFault) (p q : Pass) (x : SessionFault) (s y t : State) → Err (x, q) ≡ returned f p → t ≡ kept f y s → (q ≡ p) × (t ≡ s)
came_back None p q x s y t e l = absurd cc
came_back (Some f) p q x s y t e l = (ap (λ (r : Result (Unit {0}) (SessionFault × Pass)). back_or r p) e, l)

-- a pass that is turned down comes back, and nothing is changed
pub give_down : (s t : State) (p q : Pass) (x : SessionFault) → GiveBack s p (Err (x, q)) t → (q ≡ p) × (t ≡ s)
give_down s t p q x c = came_back (end_fault s p) p q x s _ t c.answer c.leaves

pub write_down : (s t : State) (p q : Pass) (x : SessionFault) → WriteOff s p (Err (x, q)) t → (q ≡ p) × (t ≡ s)
write_down s t p q x c = came_back (end_fault s p) p q x s _ t c.answer c.leaves

ended : (f : Option SessionFault) (p : Pass) (e : SessionFault × Pass) → f ≡ None → Err e ≡ returned f p → ⊥
ended None p e n a = cc
ended (Some f) p e n a = cc

-- a pass that can be ended is not turned down
pub give_ends : (s t : State) (p : Pass) (e : SessionFault × Pass) → Ends s p → GiveBack s p (Err e) t → ⊥
give_ends s t p e ends c = ended (end_fault s p) p e ends c.answer

pub write_ends : (s t : State) (p : Pass) (e : SessionFault × Pass) → Ends s p → WriteOff s p (Err e) t → ⊥
write_ends s t p e ends c = ended (end_fault s p) p e ends c.answer

pub keeps_on : (s : State) → Keeps s s
keeps_on s = record { stays = λ p ends. ends }

pub keeps_then : (s t u : State) → Keeps s t → Keeps t u → Keeps s u
keeps_then s t u h k = record { stays = λ p ends. k.stays p (h.stays p ends) }

-- a pass that came back is as good as before, in a session that is as it was
pub moved : (v w : View) (l : Layout) (m : Meaning) (p q : Pass) → Ends (beside v l m) p → q ≡ p → w ≡ v → Ends (beside w l m) q
moved v w l m p q ends same still =
    ap (λ (x : View). end_fault (beside x l m) q) still ∙ ap (λ (r : Pass). end_fault (beside v l m) r) same ∙ ends

-- a pass turned down on one machine can still be ended on the other
pub good_elsewhere : (v w : View) (l k j : Layout) (m n o : Meaning) (p q : Pass) (x : SessionFault) → Ends (beside v l m) p → GiveBack (beside v k n) p (Err (x, q)) (beside w j o)
    → Ends (beside w l m) q
good_elsewhere v w l k j m n o p q x ends c =
    let down = give_down (beside v k n) (beside w j o) p q x c in
    moved v w l m p q ends down.0 (ap (λ (y : State). y.session) down.1)

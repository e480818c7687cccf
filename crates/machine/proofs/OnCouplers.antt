-- What `cnot` obeys.
use Rattle.std.proofs.Common.{◌≡◌, ℕ, ◌≤◌, Bool, true, false, cond, ◌&&◌, eqb, ltb, leb, ◌⊎◌, length, Some, None, Ok, Err, Option, Result, sym, refl, ap, ◌∙◌, inl, inr, arith}
use Rattle.std.proofs.lemmas.Bool.{lt-ltb, ne_eqb, le-leb, leb-true, and_from}
use Rattle.chip.specs.Layout.{Layout, Sound}
use Rattle.chip.specs.Chips.{ends_at, joining, Joins}
use Rattle.chip.proofs.Joining.{joining_joins, joins_joining}
use Rattle.parity.specs.Words.{Gate}
use Rattle.parity.specs.Gates.{TwoPlaces}
use Rattle.machine.specs.declared.fault.MachineFault.{MachineFault}
use Rattle.machine.specs.declared.fault.MachineFault.TheVariants.{PlaceOutOfRange, NotCoupled, AllowanceExceeded}
use Rattle.machine.specs.Meaning.{Meaning}
use Rattle.chip.specs.Answers.{answered}
use Rattle.machine.specs.Calls.{coupler_fault, serves_at, in_service, coupled, fits_fault, cnot_fault}
use Rattle.machine.specs.OnCoupler.{OnCoupler, ObeysExactly}

-- the two ends of a coupler are different places below n
pub ends_of : (l : Layout) (a b k : ℕ) → Sound l → Joins l a b k → TwoPlaces l.places (a, b)
ends_of l a b k so j = go j.ends
  where
    go : (ends_at l k ≡ (a, b)) ⊎ (ends_at l k ≡ (b, a)) → TwoPlaces l.places (a, b)
    go (inl e) =
        let x : (ends_at l k).0 ≡ a = ap (λ (p : ℕ × ℕ). p.0) e in
        let y : (ends_at l k).1 ≡ b = ap (λ (p : ℕ × ℕ). p.1) e in
        let u = so.left_below k j.there in
        let v = so.right_below k j.there in
        record { from = omega arith; to = omega arith; apart = λ q. so.differ k j.there (omega arith) }
    go (inr e) =
        let x : (ends_at l k).0 ≡ b = ap (λ (p : ℕ × ℕ). p.0) e in
        let y : (ends_at l k).1 ≡ a = ap (λ (p : ℕ × ℕ). p.1) e in
        let u = so.left_below k j.there in
        let v = so.right_below k j.there in
        record { from = omega arith; to = omega arith; apart = λ q. so.differ k j.there (omega arith) }

-- on a coupler in service, the allowance alone decides
pub on_coupler_obeys : (l : Layout) (s : Meaning) (g : Gate) → Sound l → OnCoupler l s.service g → cnot_fault l s g.0 g.1 ≡ fits_fault s 1
on_coupler_obeys l s g so on =
    let e = ends_of l g.0 g.1 on.coupler so on.joins in
    let inside = and_from (ltb g.0 l.places) (ltb g.1 l.places) (lt-ltb g.0 l.places e.from) (lt-ltb g.1 l.places e.to) in
    let two = ne_eqb g.0 g.1 (λ q. e.apart (sym q)) in
    let found = joins_joining l so g.0 g.1 on.coupler on.joins in
    rw (inside, two, found, on.serves) refl

some_none : {F : Type 0} (f : F) → Some f ≡ None → ⊥
some_none f h = cc

true_false : true ≡ false → ⊥
true_false h = cc

served : (l : Layout) (s : Meaning) (g : Gate) (o : Option ℕ) → joining g.0 g.1 l.couplers ≡ o → in_service s o ≡ true → OnCoupler l s.service g
served l s g None e on = absurd (true_false (sym on))
served l s g (Some k) e on = record { coupler = k; joins = joining_joins l g.0 g.1 k e; serves = on }

coupled_so : (l : Layout) (s : Meaning) (g : Gate) (b : Bool) → cond b false (in_service s (joining g.0 g.1 l.couplers)) ≡ true → OnCoupler l s.service g
coupled_so l s g true h = absurd (true_false (sym h))
coupled_so l s g false h = served l s g (joining g.0 g.1 l.couplers) refl h

-- a gate that is obeyed lies on a coupler in service
pub obeys_on_coupler : (l : Layout) (s : Meaning) (g : Gate) → cnot_fault l s g.0 g.1 ≡ None → OnCoupler l s.service g
obeys_on_coupler l s g h = go (ltb g.0 l.places && ltb g.1 l.places) (coupled l s g.0 g.1) refl h
  where
    go : (inside joined : Bool) → coupled l s g.0 g.1 ≡ joined
        → cond inside (cond joined (fits_fault s 1) (Some NotCoupled)) (Some PlaceOutOfRange) ≡ None → OnCoupler l s.service g
    go true true e n = coupled_so l s g (eqb g.0 g.1) e
    go true false e n = absurd (some_none NotCoupled n)
    go false joined e n = absurd (some_none PlaceOutOfRange n)

pub obeys_exactly : ObeysExactly
obeys_exactly l s g so h = (
  obeys_on_coupler l s g,
  λ on. on_coupler_obeys l s g so on ∙ (let e = le-leb 1 s.allowance h in rw e refl),
)

ok_err : (r : Result Bool MachineFault) (b : Bool) (f : MachineFault) → r ≡ Ok b → r ≡ Err f → ⊥
ok_err r b f p q = cc

-- `serves` does not refuse a coupler that joins two places
pub found_serves : (l : Layout) (s : Meaning) (a b k : ℕ) (r : Result Bool MachineFault) (f : MachineFault)
    → Some k ≡ joining a b l.couplers → r ≡ answered (coupler_fault l k) (serves_at s k) → r ≡ Err f → ⊥
found_serves l s a b k r f found answer bad =
    let e = lt-ltb k (length l.couplers) (joining_joins l a b k (sym found)).there in
    ok_err r (serves_at s k) f (answer ∙ (rw e refl)) bad

within : (s : Meaning) (b : Bool) → leb 1 s.allowance ≡ b → cond b None (Some (AllowanceExceeded 1 s.allowance)) ≡ None → 1 ≤ s.allowance
within s true e h = leb-true 1 s.allowance e
within s false e h = absurd (some_none (AllowanceExceeded 1 s.allowance) h)

-- what holds of a gate that is obeyed
pub record Obeyed (l : Layout) (s : Meaning) (c t : ℕ) : Type 0 where
  pub ends : TwoPlaces l.places (c, t)
  pub left : 1 ≤ s.allowance

pub obeyed : (l : Layout) (s : Meaning) (c t : ℕ) → Sound l → cnot_fault l s c t ≡ None → Obeyed l s c t
obeyed l s c t so h =
    let on = obeys_on_coupler l s (c, t) h in
    record {
      ends = ends_of l c t on.coupler so on.joins;
      left = within s (leb 1 s.allowance) refl (sym (on_coupler_obeys l s (c, t) so on) ∙ h);
    }

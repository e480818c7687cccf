-- The coupler that joins two places.
use Rattle.std.proofs.Common.{MatchOption, Option, ◌≡◌, ℕ, zero, suc, ◌+◌, ◌<◌, ◌≤◌, Bool, true, false, cond, ◌&&◌, eqb, ◌⊎◌, List, [], ◌∷◌, length, get_or, Some, None, sym, refl, ap, ◌∙◌, ap₂, inl, inr, le_of_suc-le-suc, not-suc-le-zero, arith}
use Rattle.std.proofs.lemmas.Bool.{both_ways, and_parts, and_from, or_cases, or_left, or_right, cases_Bool, eqb-true, eq-eqb}
use Rattle.chip.specs.Layout.{Layout, Sound, touches}
use Rattle.chip.specs.Chips.{ends_at, joining_from, joining, Joins, JoinsExactly}

-- ---- both ways

abbrev Same : ℕ → ℕ → ℕ × ℕ → Type 0
Same a b e = (e ≡ (a, b)) ⊎ (e ≡ (b, a))

pub pair : (e : ℕ × ℕ) (a b : ℕ) → e.0 ≡ a → e.1 ≡ b → e ≡ (a, b)
pair e a b p q = ap₂ (λ (x y : ℕ). (x, y)) p q

pub touches_true : (a b : ℕ) (e : ℕ × ℕ) → touches a b e ≡ true → Same a b e
touches_true a b e h = go (or_cases (eqb e.0 a && eqb e.1 b) (eqb e.0 b && eqb e.1 a) h)
  where
    go : (eqb e.0 a && eqb e.1 b ≡ true) ⊎ (eqb e.0 b && eqb e.1 a ≡ true) → Same a b e
    go (inl p) = let q = and_parts (eqb e.0 a) (eqb e.1 b) p in inl (pair e a b (eqb-true e.0 a q.0) (eqb-true e.1 b q.1))
    go (inr p) = let q = and_parts (eqb e.0 b) (eqb e.1 a) p in inr (pair e b a (eqb-true e.0 b q.0) (eqb-true e.1 a q.1))

pub true_touches : (a b : ℕ) (e : ℕ × ℕ) → Same a b e → touches a b e ≡ true
true_touches a b e (inl p) =
    or_left (eqb e.0 a && eqb e.1 b) (eqb e.0 b && eqb e.1 a)
    (and_from (eqb e.0 a) (eqb e.1 b) (eq-eqb e.0 a (ap (λ (x : ℕ × ℕ). x.0) p)) (eq-eqb e.1 b (ap (λ (x : ℕ × ℕ). x.1) p)))
true_touches a b e (inr p) =
    or_right (eqb e.0 a && eqb e.1 b) (eqb e.0 b && eqb e.1 a)
    (and_from (eqb e.0 b) (eqb e.1 a) (eq-eqb e.0 b (ap (λ (x : ℕ × ℕ). x.0) p)) (eq-eqb e.1 a (ap (λ (x : ℕ × ℕ). x.1) p)))

-- two pairs of ends at the same two places touch
meet : (a b : ℕ) (e f : ℕ × ℕ) → Same a b e → Same a b f → Same e.0 e.1 f
meet a b e f (inl p) (inl q) = inl (cc)
meet a b e f (inl p) (inr q) = inr (cc)
meet a b e f (inr p) (inl q) = inr (cc)
meet a b e f (inr p) (inr q) = inl (cc)

-- the coupler found is one of those looked at, and touches
found_by : (v : Bool) (a b j k : ℕ) (e : ℕ × ℕ) (es : List (ℕ × ℕ)) → touches a b e ≡ v
    → (joining_from a b (j + 1) es ≡ Some k → (i : ℕ) × (i < length es) × (k ≡ (j + 1) + i) × (touches a b (get_or es i (0, 0)) ≡ true))
    → cond v (Some j) (joining_from a b (j + 1) es) ≡ Some k
    → (i : ℕ) × (i < length (e ∷ es)) × (k ≡ j + i) × (touches a b (get_or (e ∷ es) i (0, 0)) ≡ true)
found_by true a b j k e es t rest h = let s : j ≡ k = cc in (0, omega arith, omega arith, t)
found_by false a b j k e es t rest h = let r = rest h in (suc r.0, let x = r.1 in omega arith, let x = r.2 in omega arith, r.3)

found : (a b j k : ℕ) (es : List (ℕ × ℕ)) → joining_from a b j es ≡ Some k
    → (i : ℕ) × (i < length es) × (k ≡ j + i) × (touches a b (get_or es i (0, 0)) ≡ true)
found a b j k [] h = absurd cc
found a b j k (e ∷ es) h = found_by (touches a b e) a b j k e es refl (found a b (j + 1) k es) h

-- the first that touches is found
first : (a b j k : ℕ) (es : List (ℕ × ℕ)) → k < length es → touches a b (get_or es k (0, 0)) ≡ true
    → ((i : ℕ) → i < k → touches a b (get_or es i (0, 0)) ≡ false) → joining_from a b j es ≡ Some (j + k)
first a b j k [] lt t f = absurd (not-suc-le-zero lt)
first a b j zero (e ∷ es) lt t f = rw t (ap Some (omega arith))
first a b j (suc k) (e ∷ es) lt t f =
    rw (f 0 (omega arith)) (first a b (j + 1) k es (le_of_suc-le-suc lt) t (λ i l. f (suc i) (omega arith)) ∙ ap Some (omega arith))

-- none is found where none touches
none_touches : (a b j : ℕ) (es : List (ℕ × ℕ)) → ((k : ℕ) → k < length es → touches a b (get_or es k (0, 0)) ≡ false) → joining_from a b j es ≡ None
none_touches a b j [] f = refl
none_touches a b j (e ∷ es) f = rw (f 0 (omega arith)) (none_touches a b (j + 1) es (λ k h. f (suc k) (omega arith)))

-- what a search of the couplers' numbers answers is the coupler that joins the places
pub found_joining : (l : Layout) (a b s m : ℕ) (r : Option ℕ) → s ≡ 0 → m ≡ length l.couplers
    → MatchOption r
    ((k : ℕ) → s ≤ k → k < m → k < length l.couplers → touches a b (ends_at l k) ≡ false)
    (λ k. (s ≤ k) × (k < m) × (touches a b (ends_at l k) ≡ true) × ((i : ℕ) → s ≤ i → i < k → i < length l.couplers → touches a b (ends_at l i) ≡ false))
    → r ≡ joining a b l.couplers
found_joining l a b s m None begins same none = sym (none_touches a b 0 l.couplers (λ k h. none k (omega arith) (omega arith) h))
found_joining l a b s m (Some k) begins same at =
    let below = at.1 in
    sym (first a b 0 k l.couplers (omega arith) at.2 (λ i h. at.3 i (omega arith) h (omega arith)) ∙ ap Some (omega arith))

pub joining_joins : (l : Layout) (a b k : ℕ) → joining a b l.couplers ≡ Some k → Joins l a b k
joining_joins l a b k h =
    let r = found a b 0 k l.couplers h in
    let e : r.0 ≡ k = let x = r.2 in omega arith in
    record {
      there = let x = r.1 in omega arith;
      ends = touches_true a b (ends_at l k) (ap (λ (i : ℕ). touches a b (ends_at l i)) (sym e) ∙ r.3);
    }

pub joins_joining : (l : Layout) → Sound l → (a b k : ℕ) → Joins l a b k → joining a b l.couplers ≡ Some k
joins_joining l so a b k j =
    first a b 0 k l.couplers j.there (true_touches a b (ends_at l k) j.ends) (λ i lt. none i lt (cases_Bool (touches a b (ends_at l i))))
    ∙ ap Some (omega arith)
  where
    none : (i : ℕ) → i < k → (touches a b (ends_at l i) ≡ true) ⊎ (touches a b (ends_at l i) ≡ false) → touches a b (ends_at l i) ≡ false
    none i lt (inr f) = f
    none i lt (inl t) = absurd (both_ways (touches (ends_at l i).0 (ends_at l i).1 (ends_at l k)) (so.apart i k lt j.there)
        (true_touches (ends_at l i).0 (ends_at l i).1 (ends_at l k) (meet a b (ends_at l i) (ends_at l k) (touches_true a b (ends_at l i) t) j.ends)))

pub joins_exactly : JoinsExactly
joins_exactly l so a b k = (joining_joins l a b k, joins_joining l so a b k)

-- the coupler found is below m
pub joining_below : (a b k : ℕ) (l : Layout) → joining a b l.couplers ≡ Some k → k < length l.couplers
joining_below a b k l h = (joining_joins l a b k h).there

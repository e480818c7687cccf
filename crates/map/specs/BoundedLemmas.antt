-- A test at the numbers below a bound: whether one passes, and which is the least.
use Rattle.std.specs.Prelude.{◌≡◌, ℕ, zero, suc, ◌<◌, ◌≤◌, Bool, true, false, cond, ◌||◌, ◌⊎◌, Some, None, refl}
use Rattle.std.proofs.Common.{Option, MatchOption, List, length, get_or, take, add-one, sym, ap, ap₂, ◌∙◌, inl, inr, not-suc-le-zero, arith}
use Rattle.std.specs.List.{list_any}
use Rattle.std.proofs.lemmas.List.Folds.{list_any_more}
use Rattle.std.proofs.lemmas.Bool.{cases_lt, cases_Bool, both_ways, or_cases, or_parts, or_from, or_left, or_right}
use Rattle.map.specs.Bounded.{any_below, or_else, least_below}

-- the last of the numbers below n + 1, or one of those before
last_or_before : (k n : ℕ) → k < suc n → (k ≡ n) ⊎ (k < n)
last_or_before k n h = by (cases_lt k n)
  where
    by : (k < n) ⊎ (n ≤ k) → (k ≡ n) ⊎ (k < n)
    by (inl l) = inr l
    by (inr g) = inl (omega arith)

-- ---- whether one passes

pub none_passes : (p : ℕ → Bool) (n : ℕ) → ((k : ℕ) → k < n → p k ≡ false) → any_below p n ≡ false
none_passes p zero h = refl
none_passes p (suc n) h = or_from (any_below p n) (p n) (none_passes p n (λ k l. h k (omega arith))) (h n (omega arith))

pub none_below : (p : ℕ → Bool) (n : ℕ) → any_below p n ≡ false → (k : ℕ) → k < n → p k ≡ false
none_below p zero h k l = absurd (not-suc-le-zero l)
none_below p (suc n) h k l = by (last_or_before k n l) (none_below p n (or_parts (any_below p n) (p n) h).0 k)
  where
    by : (k ≡ n) ⊎ (k < n) → (k < n → p k ≡ false) → p k ≡ false
    by (inl e) before = ap p e ∙ (or_parts (any_below p n) (p n) h).1
    by (inr b) before = before b

pub one_passes : (p : ℕ → Bool) (n k : ℕ) → k < n → p k ≡ true → any_below p n ≡ true
one_passes p zero k l h = absurd (not-suc-le-zero l)
one_passes p (suc n) k l h = by (last_or_before k n l) (λ b. one_passes p n k b h)
  where
    by : (k ≡ n) ⊎ (k < n) → (k < n → any_below p n ≡ true) → (any_below p n || p n) ≡ true
    by (inl e) before = or_right (any_below p n) (p n) (ap p (sym e) ∙ h)
    by (inr b) before = or_left (any_below p n) (p n) (before b)

pub one_below : (p : ℕ → Bool) (n : ℕ) → any_below p n ≡ true → (k : ℕ) × (k < n) × (p k ≡ true)
one_below p zero h = absurd (both_ways false refl h)
one_below p (suc n) h = by (or_cases (any_below p n) (p n) h) (one_below p n)
  where
    by : (any_below p n ≡ true) ⊎ (p n ≡ true) → (any_below p n ≡ true → (k : ℕ) × (k < n) × (p k ≡ true)) → (k : ℕ) × (k < suc n) × (p k ≡ true)
    by (inl b) before = let r = before b in (r.0, let l = r.1 in omega arith, r.2)
    by (inr e) before = (n, omega arith, e)

-- whether one of the first n elements of a list passes
pub any-take : {X : Type 0} (test : X → Bool) (xs : List X) (n : ℕ) (d : X) → n ≤ length xs → list_any test (take n xs) ≡ any_below (λ j. test (get_or xs j d)) n
any-take test xs zero d h = refl
any-take test xs (suc n) d h =
    ap (λ (i : ℕ). list_any test (take i xs)) (sym (add-one n)) ∙ list_any_more test xs n d (omega arith)
    ∙ ap (λ (b : Bool). b || test (get_or xs n d)) (any-take test xs n d (omega arith))

-- ---- the least

pub least_none : (p : ℕ → Bool) (n : ℕ) → ((k : ℕ) → k < n → p k ≡ false) → least_below p n ≡ None
least_none p zero h = refl
least_none p (suc n) h = rw (least_none p n (λ k l. h k (omega arith)), h n (omega arith)) refl

pub least_is : (p : ℕ → Bool) (n k : ℕ) → k < n → p k ≡ true → ((j : ℕ) → j < k → p j ≡ false) → least_below p n ≡ Some k
least_is p zero k l t f = absurd (not-suc-le-zero l)
least_is p (suc n) k l t f = by (last_or_before k n l) (λ b. least_is p n k b t f)
  where
    by : (k ≡ n) ⊎ (k < n) → (k < n → least_below p n ≡ Some k) → or_else (least_below p n) (cond (p n) (Some n) None) ≡ Some k
    by (inl e) earlier =
        let before = least_none p n (λ j b. f j (omega arith)) in
        let here : p n ≡ true = ap p (sym e) ∙ t in
        rw (before, here) (ap Some (sym e))
    by (inr b) earlier = rw (earlier b) refl

-- what a search of the numbers below n answers
pub least_found : (p : ℕ → Bool) (n : ℕ) (r : Option ℕ)
    → MatchOption r
    ((k : ℕ) → 0 ≤ k → k < n → p k ≡ false)
    (λ k. (0 ≤ k) × (k < n) × (p k ≡ true) × ((j : ℕ) → 0 ≤ j → j < k → p j ≡ false))
    → r ≡ least_below p n
least_found p n None none = sym (least_none p n (λ k h. none k (omega arith) h))
least_found p n (Some k) at = sym (least_is p n k at.1 at.2 (λ j h. at.3 j (omega arith) h))

-- what `least_below` answers
pub record Least (p : ℕ → Bool) (n k : ℕ) : Type 0 where
  pub below : k < n
  pub passes : p k ≡ true
  pub first : (j : ℕ) → j < k → p j ≡ false

pub least_cases : (p : ℕ → Bool) (n : ℕ) → ((least_below p n ≡ None) × (any_below p n ≡ false)) ⊎ ((k : ℕ) × (least_below p n ≡ Some k) × Least p n k)
least_cases p zero = inl (refl, refl)
least_cases p (suc n) = by (least_cases p n) (cases_Bool (p n))
  where
    by : ((least_below p n ≡ None) × (any_below p n ≡ false)) ⊎ ((k : ℕ) × (least_below p n ≡ Some k) × Least p n k) → (p n ≡ true) ⊎ (p n ≡ false)
        → ((least_below p (suc n) ≡ None) × (any_below p (suc n) ≡ false)) ⊎ ((k : ℕ) × (least_below p (suc n) ≡ Some k) × Least p (suc n) k)
    by (inl none) (inl t) = inr (n, rw (none.0, t) refl, record { below = omega arith; passes = t; first = none_below p n none.1 })
    by (inl none) (inr f) = inl (rw (none.0, f) refl, or_from (any_below p n) (p n) none.1 f)
    by (inr some) _ =
        let least = some.2 in
        inr (some.0, rw some.1 refl, record { below = omega arith; passes = least.passes; first = least.first })

pub none_least : (p : ℕ → Bool) (n : ℕ) → least_below p n ≡ None → any_below p n ≡ false
none_least p n h = by (least_cases p n)
  where
    by : ((least_below p n ≡ None) × (any_below p n ≡ false)) ⊎ ((k : ℕ) × (least_below p n ≡ Some k) × Least p n k) → any_below p n ≡ false
    by (inl none) = none.1
    by (inr some) = let e = some.1 in absurd cc

pub least_at : (p : ℕ → Bool) (n k : ℕ) → least_below p n ≡ Some k → Least p n k
least_at p n k h = by (least_cases p n)
  where
    by : ((least_below p n ≡ None) × (any_below p n ≡ false)) ⊎ ((j : ℕ) × (least_below p n ≡ Some j) × Least p n j) → Least p n k
    by (inl none) = let e = none.0 in absurd cc
    by (inr some) =
        let e = some.1 in
        let same : some.0 ≡ k = cc in
        rw same at some.2

-- ---- tests that agree below the bound

pub any_same : (p q : ℕ → Bool) (n : ℕ) → ((k : ℕ) → k < n → p k ≡ q k) → any_below p n ≡ any_below q n
any_same p q zero h = refl
any_same p q (suc n) h = ap₂ ◌||◌ (any_same p q n (λ k l. h k (omega arith))) (h n (omega arith))

pub least_same : (p q : ℕ → Bool) (n : ℕ) → ((k : ℕ) → k < n → p k ≡ q k) → least_below p n ≡ least_below q n
least_same p q zero h = refl
least_same p q (suc n) h = rw (least_same p q n (λ k l. h k (omega arith)), h n (omega arith)) refl

-- Names of islands, as couplers in service are added one by one.
use Rattle.std.proofs.Common.{◌≡◌, ℕ, zero, suc, ◌<◌, Bool, true, false, eqb, ◌⊎◌, List, take, Ok, Err, [], ◌∷◌, length, get_or, get_or-take, ◌+◌, ◌≤◌, ⊎_elim, sym, refl, ap, subst, ◌∙◌, inl, inr, arith}
use Rattle.std.proofs.lemmas.Bool.{cases_Bool, cases_lt, lt-ltb, le-ltb, eqb-true}
use Rattle.chip.specs.Layout.{Layout, Sound}
use Rattle.chip.specs.declared.fault.ChipFault.{ChipFault}
use Rattle.chip.specs.Answers.{answered}
use Rattle.chip.specs.Chips.{ends_at, coupler_fault, Joins}
use Rattle.machine.specs.OnCoupler.{OnCoupler}
use Rattle.replaying.specs.Islands.{HangTogether, here, onward, NamesIslands, renamed}

flip : (l : Layout) (s : List Bool) (a b : ℕ) → OnCoupler l s (a, b) → OnCoupler l s (b, a)
flip l s a b o = record { coupler = o.coupler; joins = record { there = o.joins.there; ends = turned o.joins.ends }; serves = o.serves }
  where
    turned : (ends_at l o.coupler ≡ (a, b)) ⊎ (ends_at l o.coupler ≡ (b, a)) → (ends_at l o.coupler ≡ (b, a)) ⊎ (ends_at l o.coupler ≡ (a, b))
    turned (inl e) = inr e
    turned (inr e) = inl e

then : (l : Layout) (s : List Bool) (p q r : ℕ) → HangTogether l s p q → HangTogether l s q r → HangTogether l s p r
then l s p q _ h here = h
then l s p q _ h (onward k o) = onward (then l s p q _ h k) o

-- couplers of s that serve, of those that there are, serve in t as well
abbrev More : Layout → List Bool → List Bool → Type 0
More l s t = (k : ℕ) → k < length l.couplers → get_or s k false ≡ true → get_or t k false ≡ true

more_on : (l : Layout) (s t : List Bool) (g : ℕ × ℕ) → More l s t → OnCoupler l s g → OnCoupler l t g
more_on l s t g more o = record { coupler = o.coupler; joins = o.joins; serves = more o.coupler o.joins.there o.serves }

more_together : (l : Layout) (s t : List Bool) (p q : ℕ) → More l s t → HangTogether l s p q → HangTogether l t p q
more_together l s t p _ more here = here
more_together l s t p _ more (onward h o) = onward (more_together l s t p _ more h) (more_on l s t _ more o)

-- the same couplers serve
pub same_names : (l : Layout) (s t : List Bool) (names : List ℕ) → More l s t → More l t s → NamesIslands l s names → NamesIslands l t names
same_names l s t names more less n =
    record {
      one_name = λ p q a b h. n.one_name p q a b (more_together l t s p q less h);
      no_other = λ p q a b e. more_together l s t p q more (n.no_other p q a b e);
    }

-- no coupler serves
pub own_names : (l : Layout) (names : List ℕ) → ((p : ℕ) → p < 64 → get_or names p 0 ≡ p) → NamesIslands l [] names
own_names l names own = record { one_name = λ p q a b h. ap (λ (x : ℕ). get_or names x 0) (alone p q h); no_other = λ p q a b e. at p q (sym (own p a) ∙ e ∙ own q b) }
  where
    alone : (p q : ℕ) → HangTogether l [] p q → p ≡ q
    alone p _ here = refl
    alone p _ (onward h o) = let no = o.serves in let k : ◌≡◌ {A = ℕ} 0 1 = cc in absurd (omega arith)

    at : (p q : ℕ) → p ≡ q → HangTogether l [] p q
    at p q e = subst (HangTogether l [] p) e here

-- coupler k, with ends a and b, is added to those that serve
pub record Adds (l : Layout) (s t : List Bool) (a b k : ℕ) : Type 0 where
  pub joins : Joins l a b k
  pub serves : get_or t k false ≡ true
  pub more : More l s t
  pub no_other : (j : ℕ) → j < length l.couplers → get_or t j false ≡ true → (j ≡ k) ⊎ (get_or s j false ≡ true)

module _ (l : Layout) (s t : List Bool) (a b k : ℕ) (names new : List ℕ) (so : Sound l) (adds : Adds l s t a b k) (n : NamesIslands l s names)
    (is : (p : ℕ) → p < 64 → get_or new p 0 ≡ renamed (get_or names a 0) (get_or names b 0) (get_or names p 0)) where
  low : (x y j : ℕ) → Joins l x y j → (x < 64) × (y < 64)
  low x y j o = by o.ends
    where
      by : (ends_at l j ≡ (x, y)) ⊎ (ends_at l j ≡ (y, x)) → (x < 64) × (y < 64)
      by (inl e) =
          let u = so.left_below j o.there in
          let v = so.right_below j o.there in
          let few = so.at_most_64 in
          let c : (ends_at l j).0 ≡ x = ap (λ (p : ℕ × ℕ). p.0) e in
          let d : (ends_at l j).1 ≡ y = ap (λ (p : ℕ × ℕ). p.1) e in
          (omega arith, omega arith)
      by (inr e) =
          let u = so.left_below j o.there in
          let v = so.right_below j o.there in
          let few = so.at_most_64 in
          let c : (ends_at l j).0 ≡ y = ap (λ (p : ℕ × ℕ). p.0) e in
          let d : (ends_at l j).1 ≡ x = ap (λ (p : ℕ × ℕ). p.1) e in
          (omega arith, omega arith)

  abbrev name : ℕ → ℕ
  name p = get_or names p 0

  -- the places of the coupler that is added have one name
  ends_named : get_or new a 0 ≡ get_or new b 0
  ends_named = let both = low a b k adds.joins in is a both.0 ∙ by (name a) (name b) ∙ sym (is b both.1)
    where
      by : (x y : ℕ) → renamed x y x ≡ renamed x y y
      by x y = grind arith

  -- what one coupler joins has one name
  step_named : (q r : ℕ) → OnCoupler l t (q, r) → get_or new q 0 ≡ get_or new r 0
  step_named q r o = by (adds.no_other o.coupler o.joins.there o.serves)
    where
      added : (x y : ℕ) → (ends_at l k ≡ (x, y)) ⊎ (ends_at l k ≡ (y, x)) → ((x ≡ a) × (y ≡ b)) ⊎ ((x ≡ b) × (y ≡ a))
      added x y h = grind arith

      named : ((q ≡ a) × (r ≡ b)) ⊎ ((q ≡ b) × (r ≡ a)) → get_or new q 0 ≡ get_or new r 0
      named (inl (u, v)) = ap (λ (x : ℕ). get_or new x 0) u ∙ ends_named ∙ ap (λ (x : ℕ). get_or new x 0) (sym v)
      named (inr (u, v)) = ap (λ (x : ℕ). get_or new x 0) u ∙ sym ends_named ∙ ap (λ (x : ℕ). get_or new x 0) (sym v)

      by : (o.coupler ≡ k) ⊎ (get_or s o.coupler false ≡ true) → get_or new q 0 ≡ get_or new r 0
      by (inl e) = named (added q r (subst (λ (j : ℕ). (ends_at l j ≡ (q, r)) ⊎ (ends_at l j ≡ (r, q))) e o.joins.ends))
      by (inr serves) =
          let both = low q r o.coupler o.joins in
          let old : OnCoupler l s (q, r) = record { coupler = o.coupler; joins = o.joins; serves = serves } in
          is q both.0 ∙ ap (renamed (name a) (name b)) (n.one_name q r both.0 both.1 (onward here old)) ∙ sym (is r both.1)

  one_named : (p q : ℕ) → HangTogether l t p q → get_or new p 0 ≡ get_or new q 0
  one_named p _ here = refl
  one_named p _ (onward {q} {r} h o) = one_named p q h ∙ step_named q r o

  over : HangTogether l t a b
  over = onward here (record { coupler = k; joins = adds.joins; serves = adds.serves })

  over_back : HangTogether l t b a
  over_back = onward here (flip l t a b (record { coupler = k; joins = adds.joins; serves = adds.serves }))

  old : (p q : ℕ) → p < 64 → q < 64 → name p ≡ name q → HangTogether l t p q
  old p q u v e = more_together l s t p q adds.more (n.no_other p q u v e)

  no_other_named : (p q : ℕ) → p < 64 → q < 64 → get_or new p 0 ≡ get_or new q 0 → HangTogether l t p q
  no_other_named p q u v e = by (cases_Bool (eqb (name p) (name b))) (cases_Bool (eqb (name q) (name b))) (sym (is p u) ∙ e ∙ is q v)
    where
      both : (a < 64) × (b < 64)
      both = low a b k adds.joins

      by : (eqb (name p) (name b) ≡ true) ⊎ (eqb (name p) (name b) ≡ false) → (eqb (name q) (name b) ≡ true) ⊎ (eqb (name q) (name b) ≡ false)
          → renamed (name a) (name b) (name p) ≡ renamed (name a) (name b) (name q) → HangTogether l t p q
      by (inl x) (inl y) same = old p q u v (eqb-true (name p) (name b) x ∙ sym (eqb-true (name q) (name b) y))
      by (inl x) (inr y) same =
          then l t p b q (old p b u both.1 (eqb-true (name p) (name b) x))
          (then l t b a q over_back (old a q both.0 v (grind arith)))
      by (inr x) (inl y) same =
          then l t p a q (old p a u both.0 (grind arith))
          (then l t a b q over (old b q both.1 v (sym (eqb-true (name q) (name b) y))))
      by (inr x) (inr y) same = old p q u v (grind arith)

  pub added_names : NamesIslands l t new
  added_names = record { one_name = λ p q u v h. one_named p q h; no_other = no_other_named }

-- ---- the first couplers of a list of marks

before_take : (s : List Bool) (k j : ℕ) → get_or (take k s) j false ≡ true → (j < k) × (get_or s j false ≡ true)
before_take [] zero j h = let no : ◌≡◌ {A = ℕ} 0 1 = cc in absurd (omega arith)
before_take [] (suc k) j h = let no : ◌≡◌ {A = ℕ} 0 1 = cc in absurd (omega arith)
before_take (x ∷ s) zero j h = let no : ◌≡◌ {A = ℕ} 0 1 = cc in absurd (omega arith)
before_take (x ∷ s) (suc k) zero h = (omega arith, h)
before_take (x ∷ s) (suc k) (suc j) h = let r = before_take s k j h in let less = r.0 in (omega arith, r.1)

take_more : (l : Layout) (s : List Bool) (k : ℕ) → More l (take k s) (take (k + 1) s)
take_more l s k j there h = let r = before_take s k j h in let less = r.0 in get_or-take (k + 1) s j false (omega arith) ∙ r.1

take_less : (s : List Bool) (k j : ℕ) → get_or (take (k + 1) s) j false ≡ true → (j ≡ k) ⊎ (get_or (take k s) j false ≡ true)
take_less s k j h = by (before_take s (k + 1) j h) (cases_lt j k)
  where
    by : (j < k + 1) × (get_or s j false ≡ true) → (j < k) ⊎ (k ≤ j) → (j ≡ k) ⊎ (get_or (take k s) j false ≡ true)
    by r (inl less) = inr (get_or-take k s j false less ∙ r.1)
    by r (inr more) = let less = r.0 in inl (omega arith)

-- coupler k does not serve, or there is no such coupler
pub passed_over : (l : Layout) (s : List Bool) (k : ℕ) (names : List ℕ) → (k < length l.couplers → get_or s k false ≡ true → ⊥)
    → NamesIslands l (take k s) names → NamesIslands l (take (k + 1) s) names
passed_over l s k names absent n = same_names l (take k s) (take (k + 1) s) names (take_more l s k) less n
  where
    less : More l (take (k + 1) s) (take k s)
    less j there h = ⊎_elim (λ e. absurd (absent (subst (λ (i : ℕ). i < length l.couplers) e there) (subst (λ (i : ℕ). get_or s i false ≡ true) e (before_take s (k + 1) j h).1))) (λ u. u) (take_less s k j h)

pub ends_there : (l : Layout) (k a b : ℕ) → Ok (a, b) ≡ answered (coupler_fault l k) (ends_at l k) → Joins l a b k
ends_there l k a b e = by (cases_lt k (length l.couplers))
  where
    by : (k < length l.couplers) ⊎ (length l.couplers ≤ k) → Joins l a b k
    by (inl less) = let t = lt-ltb k (length l.couplers) less in record { there = less; ends = inl (grind arith) }
    by (inr more) = let t = le-ltb k (length l.couplers) more in absurd (grind arith)

pub none_there : (l : Layout) (k : ℕ) (f : ChipFault) → Err f ≡ answered (coupler_fault l k) (ends_at l k) → k < length l.couplers → ⊥
none_there l k f e less = let t = lt-ltb k (length l.couplers) less in grind arith

-- coupler k serves and joins a and b
pub taken : (l : Layout) (s : List Bool) (k a b : ℕ) (names new : List ℕ) → Sound l → Joins l a b k → get_or s k false ≡ true
    → NamesIslands l (take k s) names
    → ((p : ℕ) → p < 64 → get_or new p 0 ≡ renamed (get_or names a 0) (get_or names b 0) (get_or names p 0))
    → NamesIslands l (take (k + 1) s) new
taken l s k a b names new so joins serves n is =
    added_names l (take k s) (take (k + 1) s) a b k names new so
    (record { joins = joins; serves = get_or-take (k + 1) s k false (omega arith) ∙ serves; more = take_more l s k; no_other = λ j there h. take_less s k j h }) n is

-- Bad couplers: that the test finds them, and that a layout without one is sound.
use Rattle.std.specs.Prelude.{◌≡◌, ℕ, ◌<◌, ◌≤◌, true, false, ◌||◌, ◌⊎◌, List, map, length, None, ◌==◌, ◌≢◌, nat_le, refl}
use Rattle.std.proofs.Common.{sym, ap, ◌∙◌, inl, inr, arith}
use Rattle.std.specs.List.{range_with_len}
use Rattle.std.proofs.lemmas.List.FromFn.{length-map-range_with_len, get_or-map-range_with_len, fill_by_all}
use Rattle.std.proofs.lemmas.Bool.{lt-leb, leb-true, leb-false, ne_eqb, eqb-true, eqb-false, or_cases, or_parts, or_from, both_ways}
use Rattle.chip.specs.Layout.{Layout, Sound, touches}
use Rattle.chip.specs.Chips.{ends_at}
use Rattle.chip.proofs.Joining.{touches_true, true_touches}
use Rattle.map.specs.Couplers.{layout_by, repeated, bad_coupler, any_bad, first_bad}
use Rattle.map.specs.Laws.{Bad, left_off, right_off, loops, repeats}
use Rattle.map.specs.BoundedLemmas.{none_passes, none_below, one_below, none_least, any_same, least_same}

-- ---- couplers whose ends agree are bad alike

bad_same : (n m : ℕ) (e f : ℕ → ℕ × ℕ) → ((k : ℕ) → k < m → e k ≡ f k) → (k : ℕ) → k < m → bad_coupler n e k ≡ bad_coupler n f k
bad_same n m e f same k h =
    let again : repeated e k ≡ repeated f k =
    any_same (λ j. touches (e j).0 (e j).1 (e k)) (λ j. touches (f j).0 (f j).1 (f k)) k (λ j l. rw (same j (omega arith), same k h) refl) in
    rw (again, same k h) refl

any_bad_same : (n m : ℕ) (e f : ℕ → ℕ × ℕ) → ((k : ℕ) → k < m → e k ≡ f k) → any_bad n m e ≡ any_bad n m f
any_bad_same n m e f same = any_same (bad_coupler n e) (bad_coupler n f) m (bad_same n m e f same)

pub first_same : (n m : ℕ) (e f : ℕ → ℕ × ℕ) → ((k : ℕ) → k < m → e k ≡ f k) → first_bad n m e ≡ first_bad n m f
first_same n m e f same = least_same (bad_coupler n e) (bad_coupler n f) m (bad_same n m e f same)

-- where there is no first bad coupler, none is bad
pub first_none : (n m : ℕ) (e : ℕ → ℕ × ℕ) → first_bad n m e ≡ None → any_bad n m e ≡ false
first_none n m e h = none_least (bad_coupler n e) m h

-- ---- a layout by its ends

pub length_by : (n m : ℕ) (e : ℕ → ℕ × ℕ) → length (layout_by n m e).couplers ≡ m
length_by n m e = length-map-range_with_len e 0 m

pub ends_by : (n m : ℕ) (e : ℕ → ℕ × ℕ) (k : ℕ) → k < m → ends_at (layout_by n m e) k ≡ e k
ends_by n m e k h = get_or-map-range_with_len e 0 m k k (0, 0) h (omega arith)

pub layout_same : (n m : ℕ) (e f : ℕ → ℕ × ℕ) → ((k : ℕ) → k < m → e k ≡ f k) → layout_by n m e ≡ layout_by n m f
layout_same n m e f same =
    ap (λ (es : List (ℕ × ℕ)). record { places = n; couplers = es })
    (fill_by_all f (map e (range_with_len 0 m)) m (0, 0) (length-map-range_with_len e 0 m) (λ k h. ends_by n m e k h ∙ same k h))

-- ---- no coupler is bad exactly when the layout is sound

not_bad : (n : ℕ) (e : ℕ → ℕ × ℕ) (k : ℕ) → bad_coupler n e k ≡ false → ((e k).0 < n) × ((e k).1 < n) × ((e k).0 ≢ (e k).1) × (repeated e k ≡ false)
not_bad n e k h =
    let a = or_parts (nat_le n (e k).0) (nat_le n (e k).1 || ((e k).0 == (e k).1 || repeated e k)) h in
    let b = or_parts (nat_le n (e k).1) ((e k).0 == (e k).1 || repeated e k) a.1 in
    let d = or_parts ((e k).0 == (e k).1) (repeated e k) b.1 in
    (leb-false n (e k).0 a.0, leb-false n (e k).1 b.0, eqb-false (e k).0 (e k).1 d.0, d.1)

is_good : (n : ℕ) (e : ℕ → ℕ × ℕ) (k : ℕ) → (e k).0 < n → (e k).1 < n → ((e k).0 ≢ (e k).1) → repeated e k ≡ false → bad_coupler n e k ≡ false
is_good n e k l r d once =
    or_from (nat_le n (e k).0) (nat_le n (e k).1 || ((e k).0 == (e k).1 || repeated e k)) (lt-leb n (e k).0 l)
    (or_from (nat_le n (e k).1) ((e k).0 == (e k).1 || repeated e k) (lt-leb n (e k).1 r)
    (or_from ((e k).0 == (e k).1) (repeated e k) (ne_eqb (e k).0 (e k).1 d) once))

pub none_sound : (l : Layout) → 1 ≤ l.places → l.places ≤ 64 → length l.couplers ≤ 256
    → any_bad l.places (length l.couplers) (ends_at l) ≡ false → Sound l
none_sound l some few couplers none =
    let good = λ (k : ℕ) (h : k < length l.couplers). not_bad l.places (ends_at l) k (none_below (bad_coupler l.places (ends_at l)) (length l.couplers) none k h) in
    record {
      some_place = some;
      at_most_64 = few;
      at_most_256 = couplers;
      left_below = λ k h. (good k h).0;
      right_below = λ k h. (good k h).1;
      differ = λ k h. (good k h).2;
      apart = λ j k less h. none_below (λ i. touches (ends_at l i).0 (ends_at l i).1 (ends_at l k)) k (good k h).3 j less;
    }

sound_none : (l : Layout) → Sound l → any_bad l.places (length l.couplers) (ends_at l) ≡ false
sound_none l so =
    none_passes (bad_coupler l.places (ends_at l)) (length l.couplers)
    (λ k h. is_good l.places (ends_at l) k (so.left_below k h) (so.right_below k h) (so.differ k h)
    (none_passes (λ i. touches (ends_at l i).0 (ends_at l i).1 (ends_at l k)) k (λ j less. so.apart j k less h)))

any_by : (n m : ℕ) (e : ℕ → ℕ × ℕ) → any_bad n (length (layout_by n m e).couplers) (ends_at (layout_by n m e)) ≡ any_bad n m e
any_by n m e = ap (λ (i : ℕ). any_bad n i (ends_at (layout_by n m e))) (length_by n m e) ∙ any_bad_same n m (ends_at (layout_by n m e)) e (ends_by n m e)

pub none_bad_sound : (n m : ℕ) (e : ℕ → ℕ × ℕ) → 1 ≤ n → n ≤ 64 → m ≤ 256 → any_bad n m e ≡ false → Sound (layout_by n m e)
none_bad_sound n m e some few couplers none =
    let len = length_by n m e in
    none_sound (layout_by n m e) some few (omega arith) (any_by n m e ∙ none)

pub sound_none_bad : (n m : ℕ) (e : ℕ → ℕ × ℕ) → Sound (layout_by n m e) → any_bad n m e ≡ false
sound_none_bad n m e so = sym (any_by n m e) ∙ sound_none (layout_by n m e) so

-- ---- the test finds the bad couplers

is_bad : (l : Layout) (k : ℕ) → k < length l.couplers → bad_coupler l.places (ends_at l) k ≡ true → Bad l k
is_bad l k h t = first (or_cases (nat_le l.places (ends_at l k).0) (nat_le l.places (ends_at l k).1 || ((ends_at l k).0 == (ends_at l k).1 || repeated (ends_at l) k)) t)
  where
    again : (j : ℕ) × (j < k) × (touches (ends_at l j).0 (ends_at l j).1 (ends_at l k) ≡ true) → Bad l k
    again w = repeats w.0 w.1 (record { there = let b = w.1 in omega arith; ends = same (touches_true (ends_at l w.0).0 (ends_at l w.0).1 (ends_at l k) w.2) })
      where
        same : (ends_at l k ≡ ((ends_at l w.0).0, (ends_at l w.0).1)) ⊎ (ends_at l k ≡ ((ends_at l w.0).1, (ends_at l w.0).0))
            → (ends_at l w.0 ≡ ((ends_at l k).0, (ends_at l k).1)) ⊎ (ends_at l w.0 ≡ ((ends_at l k).1, (ends_at l k).0))
        same (inl p) = inl (sym p)
        same (inr p) = inr (sym (ap (λ (x : ℕ × ℕ). (x.1, x.0)) p))

    third : (((ends_at l k).0 == (ends_at l k).1) ≡ true) ⊎ (repeated (ends_at l) k ≡ true) → Bad l k
    third (inl p) = loops (eqb-true (ends_at l k).0 (ends_at l k).1 p)
    third (inr p) = again (one_below (λ i. touches (ends_at l i).0 (ends_at l i).1 (ends_at l k)) k p)

    second : (nat_le l.places (ends_at l k).1 ≡ true) ⊎ (((ends_at l k).0 == (ends_at l k).1 || repeated (ends_at l) k) ≡ true) → Bad l k
    second (inl p) = right_off (leb-true l.places (ends_at l k).1 p)
    second (inr p) = third (or_cases ((ends_at l k).0 == (ends_at l k).1) (repeated (ends_at l) k) p)

    first : (nat_le l.places (ends_at l k).0 ≡ true) ⊎ ((nat_le l.places (ends_at l k).1 || ((ends_at l k).0 == (ends_at l k).1 || repeated (ends_at l) k)) ≡ true) → Bad l k
    first (inl p) = left_off (leb-true l.places (ends_at l k).0 p)
    first (inr p) = second (or_cases (nat_le l.places (ends_at l k).1) ((ends_at l k).0 == (ends_at l k).1 || repeated (ends_at l) k) p)

-- a coupler that passes the test is not bad
not_both : (l : Layout) (k : ℕ) → bad_coupler l.places (ends_at l) k ≡ false → Bad l k → ⊥
not_both l k f bad = by bad (not_bad l.places (ends_at l) k f)
  where
    turned : (j : ℕ) → (ends_at l j ≡ ((ends_at l k).0, (ends_at l k).1)) ⊎ (ends_at l j ≡ ((ends_at l k).1, (ends_at l k).0))
        → (ends_at l k ≡ ((ends_at l j).0, (ends_at l j).1)) ⊎ (ends_at l k ≡ ((ends_at l j).1, (ends_at l j).0))
    turned j (inl p) = inl (sym p)
    turned j (inr p) = inr (sym (ap (λ (x : ℕ × ℕ). (x.1, x.0)) p))

    by : Bad l k → ((ends_at l k).0 < l.places) × ((ends_at l k).1 < l.places) × ((ends_at l k).0 ≢ (ends_at l k).1) × (repeated (ends_at l) k ≡ false) → ⊥
    by (left_off p) good = omega arith
    by (right_off p) good = omega arith
    by (loops p) good = good.2 p
    by (repeats j less again) good =
        both_ways (touches (ends_at l j).0 (ends_at l j).1 (ends_at l k))
        (none_below (λ i. touches (ends_at l i).0 (ends_at l i).1 (ends_at l k)) k good.3 j less)
        (true_touches (ends_at l j).0 (ends_at l j).1 (ends_at l k) (turned j again.ends))

bad_by : (n m : ℕ) (e : ℕ → ℕ × ℕ) (k : ℕ) → k < m → bad_coupler n (ends_at (layout_by n m e)) k ≡ bad_coupler n e k
bad_by n m e k h = bad_same n m (ends_at (layout_by n m e)) e (ends_by n m e) k h

pub bad_found : (n m : ℕ) (e : ℕ → ℕ × ℕ) (k : ℕ) → k < m → bad_coupler n e k ≡ true → Bad (layout_by n m e) k
bad_found n m e k h t = let len = length_by n m e in is_bad (layout_by n m e) k (omega arith) (bad_by n m e k h ∙ t)

pub good_passed : (n m : ℕ) (e : ℕ → ℕ × ℕ) (k : ℕ) → k < m → bad_coupler n e k ≡ false → Bad (layout_by n m e) k → ⊥
good_passed n m e k h f = not_both (layout_by n m e) k (bad_by n m e k h ∙ f)

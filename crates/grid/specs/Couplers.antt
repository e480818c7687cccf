-- The couplers of a grid: how many there are, where each goes, and that the layout is sound.
use Rattle.std.specs.Prelude.{◌≡◌, ℕ, zero, suc, ◌+◌, ◌-◌, ◌*◌, ◌/◌, ◌%◌, ◌<◌, ◌≤◌, ◌⊎◌, length, Ok, ◌≢◌, refl}
use Rattle.std.proofs.Common.{sym, ap, ◌∙◌, inl, inr, mul-suc, suc-mul, mod-lt, div-lt_iff_lt-mul, div-add-mod', mul-le-mul_right, mul-pos, arith}
use Rattle.std.proofs.Math.Arith.{digits_div, digits_mod}
use Rattle.std.proofs.lemmas.List.FromFn.{length-map-range_with_len, get_or-map-range_with_len}
use Rattle.std.proofs.lemmas.Bool.{cases_lt, lt-ltb, le-ltb}
use Rattle.chip.specs.Answers.{answered}
use Rattle.chip.specs.Layout.{Sound}
use Rattle.chip.specs.Chips.{ends_at, coupler_fault}
use Rattle.grid.specs.Grid.{rightward, downward, grid_couplers, right_ends, down_ends, grid_ends, grid_layout, grid_coupler_fault}
use Rattle.grid.specs.Formula.{formula_sound}

-- ---- how many

-- with one coupler more to the right, each row would have C
pub rightward_more : (R C : ℕ) → 1 ≤ C → rightward R C + R ≡ R * C
rightward_more R zero h = absurd (omega arith)
rightward_more R (suc c) h = let e : suc c - 1 ≡ c = omega arith in rw e (sym (mul-suc R c))

-- with one row more, each row would have C down
pub downward_more : (R C : ℕ) → 1 ≤ R → downward R C + C ≡ R * C
downward_more zero C h = absurd (omega arith)
downward_more (suc r) C h = let e : suc r - 1 ≡ r = omega arith in rw e (sym (suc-mul r C))

pub length_couplers : (R C : ℕ) → length (grid_layout R C).couplers ≡ grid_couplers R C
length_couplers R C = length-map-range_with_len (grid_ends R C) 0 (grid_couplers R C)

-- ---- where each goes

ends_right : (R C k : ℕ) → k < rightward R C → grid_ends R C k ≡ right_ends C k
ends_right R C k h = let e = lt-ltb k (rightward R C) h in rw e refl

ends_down : (R C k : ℕ) → rightward R C ≤ k → grid_ends R C k ≡ down_ends C (k - rightward R C)
ends_down R C k h = let e = le-ltb k (rightward R C) h in rw e refl

-- what is said of coupler k by rows and columns is what the layout says
pub ends_answered : (R C k : ℕ)
    → answered (grid_coupler_fault R C k) (grid_ends R C k) ≡ answered (coupler_fault (grid_layout R C) k) (ends_at (grid_layout R C) k)
ends_answered R C k = by (cases_lt k (grid_couplers R C))
  where
    by : (k < grid_couplers R C) ⊎ (grid_couplers R C ≤ k)
        → answered (grid_coupler_fault R C k) (grid_ends R C k) ≡ answered (coupler_fault (grid_layout R C) k) (ends_at (grid_layout R C) k)
    by (inl h) =
        let at = get_or-map-range_with_len (grid_ends R C) 0 (grid_couplers R C) k k (0, 0) h (omega arith) in
        rw (length_couplers R C, lt-ltb k (grid_couplers R C) h) (ap Ok (sym at))
    by (inr h) = rw (length_couplers R C, le-ltb k (grid_couplers R C) h) refl

abbrev GoesRight : ℕ → ℕ → ℕ → Type 0
GoesRight R C k = (k < rightward R C) × ((grid_ends R C k).0 ≡ (right_ends C k).0) × ((grid_ends R C k).1 ≡ (right_ends C k).1)

abbrev GoesDown : ℕ → ℕ → ℕ → Type 0
GoesDown R C k =
    (rightward R C ≤ k) × ((grid_ends R C k).0 ≡ (down_ends C (k - rightward R C)).0) × ((grid_ends R C k).1 ≡ (down_ends C (k - rightward R C)).1)

goes : (R C k : ℕ) → GoesRight R C k ⊎ GoesDown R C k
goes R C k = by (cases_lt k (rightward R C))
  where
    by : (k < rightward R C) ⊎ (rightward R C ≤ k) → GoesRight R C k ⊎ GoesDown R C k
    by (inl h) = let e = ends_right R C k h in inl (h, ap (λ (p : ℕ × ℕ). p.0) e, ap (λ (p : ℕ × ℕ). p.1) e)
    by (inr h) = let e = ends_down R C k h in inr (h, ap (λ (p : ℕ × ℕ). p.0) e, ap (λ (p : ℕ × ℕ). p.1) e)

-- where couplers go to the right there are two columns or more
two_columns : (R C k : ℕ) → k < rightward R C → 0 < C - 1
two_columns R C k h = by (C - 1) h
  where
    by : (d : ℕ) → k < R * d → 0 < d
    by zero l = absurd (omega arith)
    by (suc d) l = omega arith

right_inside : (R C k : ℕ) → k < rightward R C → (right_ends C k).1 < R * C
right_inside R C k h =
    let some = two_columns R C k h in
    let row : k / (C - 1) < R = (div-lt_iff_lt-mul some).1 h in
    let column = mod-lt k some in
    let rows = mul-le-mul_right C row in
    let split = suc-mul (k / (C - 1)) C in
    omega arith

-- two couplers that go right from one place are one
right_once : (R C j k : ℕ) → j < rightward R C → k < rightward R C → (right_ends C k).0 ≡ (right_ends C j).0 → k ≡ j
right_once R C j k hj hk e =
    let some = two_columns R C k hk in
    let mj = mod-lt j some in
    let mk = mod-lt k some in
    let cj : j % (C - 1) < C = omega arith in
    let ck : k % (C - 1) < C = omega arith in
    let row : k / (C - 1) ≡ j / (C - 1) = sym (digits_div (k / (C - 1)) ck) ∙ ap (λ (x : ℕ). x / C) e ∙ digits_div (j / (C - 1)) cj in
    let column : k % (C - 1) ≡ j % (C - 1) = sym (digits_mod (k / (C - 1)) ck) ∙ ap (λ (x : ℕ). x % C) e ∙ digits_mod (j / (C - 1)) cj in
    sym (div-add-mod' k (C - 1))
    ∙ ap (λ (x : ℕ). x * (C - 1) + k % (C - 1)) row
    ∙ ap (λ (x : ℕ). j / (C - 1) * (C - 1) + x) column
    ∙ div-add-mod' j (C - 1)

-- ---- sound

module _ (R C : ℕ) (some_row : 1 ≤ R) (some_column : 1 ≤ C) (small : R * C ≤ 64) where
  ends_rise : (k : ℕ) → k < grid_couplers R C → (grid_ends R C k).0 < (grid_ends R C k).1
  ends_rise k h = by (goes R C k)
    where
      by : GoesRight R C k ⊎ GoesDown R C k → (grid_ends R C k).0 < (grid_ends R C k).1
      by (inl w) = omega arith
      by (inr w) = omega arith

  ends_inside : (k : ℕ) → k < grid_couplers R C → (grid_ends R C k).1 < R * C
  ends_inside k h = by (goes R C k)
    where
      by : GoesRight R C k ⊎ GoesDown R C k → (grid_ends R C k).1 < R * C
      by (inl w) = omega (arith, right_inside R C k w.0)
      by (inr w) = omega (arith, downward_more R C some_row)

  -- a step right is shorter than a step down, unless there is one column and none go right
  ends_once : (j k : ℕ) → j < k → k < grid_couplers R C → (grid_ends R C k).0 ≡ (grid_ends R C j).0 → (grid_ends R C k).1 ≢ (grid_ends R C j).1
  ends_once j k less h same_left same_right = by (goes R C j) (goes R C k)
    where
      by : GoesRight R C j ⊎ GoesDown R C j → GoesRight R C k ⊎ GoesDown R C k → ⊥
      by (inl v) (inl w) = let e = right_once R C j k v.0 w.0 (sym w.1 ∙ same_left ∙ v.1) in omega arith
      by (inl v) (inr w) = omega (arith, two_columns R C j v.0)
      by (inr v) (inl w) = omega arith
      by (inr v) (inr w) = omega arith

  pub grid_sound : Sound (grid_layout R C)
  grid_sound =
      let size = mul-pos some_row some_column in
      let right = rightward_more R C some_column in
      let down = downward_more R C some_row in
      formula_sound (R * C) (grid_couplers R C) (grid_ends R C) (omega arith) small (omega arith) ends_rise ends_inside ends_once

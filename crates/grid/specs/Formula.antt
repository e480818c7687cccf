-- A layout whose couplers are given by a formula, the lower end on the left.
use Rattle.std.specs.Prelude.{◌≡◌, ℕ, ◌<◌, ◌≤◌, false, ◌&&◌, ◌⊎◌, map, length, get_or, ◌==◌, ◌≢◌, slice_index_or}
use Rattle.std.proofs.Common.{ap, inl, inr, arith}
use Rattle.std.specs.List.{range_with_len}
use Rattle.std.proofs.lemmas.List.FromFn.{length-map-range_with_len, get_or-map-range_with_len}
use Rattle.std.proofs.lemmas.Bool.{cases_eq, ne_eqb, and_left, and_right, or_from}
use Rattle.chip.specs.Layout.{Sound, touches}

both_not : (x a y b : ℕ) → (x ≡ a → y ≢ b) → (x == a && y == b) ≡ false
both_not x a y b never = by (cases_eq x a)
  where
    by : (x ≡ a) ⊎ (x ≢ a) → (x == a && y == b) ≡ false
    by (inl e) = and_right (x == a) (y == b) (ne_eqb y b (never e))
    by (inr n) = and_left (x == a) (y == b) (ne_eqb x a n)

touches_not : (a b x y : ℕ) → (x ≡ a → y ≢ b) → (x ≡ b → y ≢ a) → touches a b (x, y) ≡ false
touches_not a b x y same turned = or_from (x == a && y == b) (x == b && y == a) (both_not x a y b same) (both_not x b y a turned)

pub formula_sound : (n m : ℕ) (f : ℕ → ℕ × ℕ) → 1 ≤ n → n ≤ 64 → m ≤ 256
    → ((k : ℕ) → k < m → (f k).0 < (f k).1) → ((k : ℕ) → k < m → (f k).1 < n)
    → ((j k : ℕ) → j < k → k < m → (f k).0 ≡ (f j).0 → (f k).1 ≢ (f j).1)
    → Sound (record { places = n; couplers = map f (range_with_len 0 m) })
formula_sound n m f some few couplers up inside once =
    let len = length-map-range_with_len f 0 m in
    let at : (k : ℕ) → k < m → slice_index_or (map f (range_with_len 0 m)) k (0, 0) ≡ f k = λ k h. get_or-map-range_with_len f 0 m k k (0, 0) h (omega arith) in
    let lt : (k : ℕ) → k < length (map f (range_with_len 0 m)) → k < m = λ k h. omega arith in
    let left : (k : ℕ) → k < m → (get_or (map f (range_with_len 0 m)) k (0, 0)).0 ≡ (f k).0 = λ k h. ap (λ (p : ℕ × ℕ). p.0) (at k h) in
    let right : (k : ℕ) → k < m → (get_or (map f (range_with_len 0 m)) k (0, 0)).1 ≡ (f k).1 = λ k h. ap (λ (p : ℕ × ℕ). p.1) (at k h) in
    record {
      some_place = some;
      at_most_64 = few;
      at_most_256 = omega arith;
      left_below = λ k h. omega (arith, left k (lt k h), up k (lt k h), inside k (lt k h));
      right_below = λ k h. omega (arith, right k (lt k h), inside k (lt k h));
      differ = λ k h same. omega (arith, left k (lt k h), right k (lt k h), up k (lt k h));
      apart = λ j k less h.
          let hk = lt k h in
          let hj : j < m = omega arith in
          let uj = up j hj in
          let uk = up k hk in
          rw (at j hj, at k hk) (touches_not (f j).0 (f j).1 (f k).0 (f k).1 (once j k less hk) (λ p q. omega arith));
    }

-- Words as sets: what is in `x | y`, `x & y` and `x & !y`, and the lowest place.
use Rattle.std.proofs.Common.{◌≡◌, ℕ, zero, suc, ◌+◌, ◌-◌, ◌/◌, ◌%◌, ◌^◌, ◌<◌, true, false, eqb, ◌≢◌, ◌⊎◌, sym, refl, ap, ◌∙◌, subst, ap₂, inl, inr, le_of_suc-le-suc, not-suc-le-zero, mod-lt, zero-lt-suc, pow-suc, arith}
use lib.Arith.{lt-one}
use lib.Bits.{bit_xor, bit_and, bit_or, and_zero_r, xor_disjoint, xor_self, xor_zero_r}
use lib.Count.{count_trailing_zeros, under}
use Rattle.std.proofs.lemmas.Bool.{cases_eq, eqb-true, eqb-false}
use Rattle.parity.specs.Sets.{bit}
use Rattle.parity.proofs.Bits.{two_pos, zero_one, half_below, bit_lt, bit_zero, bit_suc, bit_none, bit-xor, bit-and, bit-or, digit_cases, bit_cases, bit_pow_other, place_below, bits_tell_words_apart}

-- ---- `|`

digit_or : (d e : ℕ) → d < 2 → e < 2 → bit_or d e ≡ 1 → (d ≡ 1) ⊎ (e ≡ 1)
digit_or d e hd he o = go (digit_cases d hd)
  where
    go : (d ≡ 0) ⊎ (d ≡ 1) → (d ≡ 1) ⊎ (e ≡ 1)
    go (inr p) = inl p
    go (inl p) = inr (ap (λ (k : ℕ). bit_or k e) (sym p) ∙ o)

pub or_cases : (x y q : ℕ) → bit (bit_or x y) q ≡ 1 → (bit x q ≡ 1) ⊎ (bit y q ≡ 1)
or_cases x y q o = digit_or (bit x q) (bit y q) (bit_lt x q) (bit_lt y q) (sym (bit-or x y q) ∙ o)

digit_or_l : (d e : ℕ) → d ≡ 1 → e < 2 → bit_or d e ≡ 1
digit_or_l d e p h = go (digit_cases e h)
  where
    go : (e ≡ 0) ⊎ (e ≡ 1) → bit_or d e ≡ 1
    go (inl k) = rw (p, k)
    go (inr k) = rw (p, k)

digit_or_r : (d e : ℕ) → e ≡ 1 → d < 2 → bit_or d e ≡ 1
digit_or_r d e p h = go (digit_cases d h)
  where
    go : (d ≡ 0) ⊎ (d ≡ 1) → bit_or d e ≡ 1
    go (inl k) = rw (p, k)
    go (inr k) = rw (p, k)

pub or_in_l : (x y q : ℕ) → bit x q ≡ 1 → bit (bit_or x y) q ≡ 1
or_in_l x y q h = bit-or x y q ∙ digit_or_l (bit x q) (bit y q) h (bit_lt y q)

pub or_in_r : (x y q : ℕ) → bit y q ≡ 1 → bit (bit_or x y) q ≡ 1
or_in_r x y q h = bit-or x y q ∙ digit_or_r (bit x q) (bit y q) h (bit_lt x q)

-- ---- `&`

digit_and : (d e : ℕ) → d < 2 → e < 2 → bit_and d e ≡ 1 → (d ≡ 1) × (e ≡ 1)
digit_and d e hd he o = go (digit_cases d hd) (digit_cases e he)
  where
    go : (d ≡ 0) ⊎ (d ≡ 1) → (e ≡ 0) ⊎ (e ≡ 1) → (d ≡ 1) × (e ≡ 1)
    go (inl p) k = zero_one (bit_and d e) (ap (λ (m : ℕ). bit_and m e) p) o
    go (inr p) (inl k) = zero_one (bit_and d e) (ap (bit_and d) k ∙ and_zero_r d) o
    go (inr p) (inr k) = (p, k)

pub and_in : (x y q : ℕ) → bit x q ≡ 1 → bit y q ≡ 1 → bit (bit_and x y) q ≡ 1
and_in x y q h k = bit-and x y q ∙ ap₂ bit_and h k

pub and_parts : (x y q : ℕ) → bit (bit_and x y) q ≡ 1 → (bit x q ≡ 1) × (bit y q ≡ 1)
and_parts x y q o = digit_and (bit x q) (bit y q) (bit_lt x q) (bit_lt y q) (sym (bit-and x y q) ∙ o)

pub and_same : (x y q : ℕ) → bit y q ≡ 1 → bit x q ≡ bit (bit_and x y) q
and_same x y q o = go (bit_cases x q)
  where
    go : (bit x q ≡ 0) ⊎ (bit x q ≡ 1) → bit x q ≡ bit (bit_and x y) q
    go (inl z) = z ∙ sym (bit-and x y q ∙ ap (λ (d : ℕ). bit_and d (bit y q)) z)
    go (inr i) = i ∙ sym (bit-and x y q ∙ ap₂ bit_and i o)

digit_dist : (d e f : ℕ) → d < 2 → e < 2 → bit_and (bit_xor d e) f ≡ bit_xor (bit_and d f) (bit_and e f)
digit_dist d e f hd he = go d e (digit_cases d hd) (digit_cases e he)
  where
    go : (d e : ℕ) → (d ≡ 0) ⊎ (d ≡ 1) → (e ≡ 0) ⊎ (e ≡ 1) → bit_and (bit_xor d e) f ≡ bit_xor (bit_and d f) (bit_and e f)
    go d e (inl p) q = rw p
    go d e (inr p) (inl q) = rw (p, q) (sym (xor_zero_r (bit_and 1 f)))
    go d e (inr p) (inr q) = rw (p, q) (sym (xor_self (bit_and 1 f)))

pub and_xor : (x z y : ℕ) → bit_and (bit_xor x z) y ≡ bit_xor (bit_and x y) (bit_and z y)
and_xor x z y =
    bits_tell_words_apart (bit_xor (bit_and x y) (bit_and z y)) (bit_and (bit_xor x z) y)
    (λ q. bit-and (bit_xor x z) y q
    ∙ ap (λ (k : ℕ). bit_and k (bit y q)) (bit-xor x z q)
    ∙ digit_dist (bit x q) (bit z q) (bit y q) (bit_lt x q) (bit_lt z q)
    ∙ ap₂ bit_xor (sym (bit-and x y q)) (sym (bit-and z y q))
    ∙ sym (bit-xor (bit_and x y) (bit_and z y) q))

-- ---- `x & !y`

-- the complement in n digits
pub bit_not : (n x q : ℕ) → x < 2 ^ n → q < n → bit (2 ^ n - 1 - x) q ≡ 1 - bit x q
bit_not zero x q h b = absurd (not-suc-le-zero b)
bit_not (suc n) x zero h b =
    bit_zero (2 ^ suc n - 1 - x) ∙ (let p = pow-suc 2 n in let e : (2 ^ suc n - 1 - x) % 2 ≡ 1 - x % 2 = omega arith in e) ∙ ap (λ (d : ℕ). 1 - d) (sym (bit_zero x))
bit_not (suc n) x (suc q) h b =
    bit_suc (2 ^ suc n - 1 - x) q
    ∙ ap (λ (y : ℕ). bit y q) (let p = pow-suc 2 n in let e : (2 ^ suc n - 1 - x) / 2 ≡ 2 ^ n - 1 - x / 2 = omega arith in e)
    ∙ bit_not n (x / 2) q (half_below n x h) (le_of_suc-le-suc b)
    ∙ ap (λ (d : ℕ). 1 - d) (sym (bit_suc x q))

-- what is in the complement is not in the set
pub others_only : (n y q : ℕ) → y < 2 ^ n → bit (2 ^ n - 1 - y) q ≡ 1 → bit y q ≡ 0
others_only n y q h o =
    let small : 2 ^ n - 1 - y < 2 ^ n = omega arith in
    let e : bit (2 ^ n - 1 - y) q ≡ 1 - bit y q = bit_not n y q h (place_below n (2 ^ n - 1 - y) q small o) in
    omega arith

-- ---- the lowest place

under_even : (d t q : ℕ) → q < under d t → (d ≡ 0) × (q < suc t)
under_even zero t q h = (refl, h)
under_even (suc d) t q h = absurd (not-suc-le-zero h)

pub lowest_in : (k n : ℕ) → n < 2 ^ k → n ≢ 0 → (count_trailing_zeros k n < k) × (bit n (count_trailing_zeros k n) ≡ 1)
unfolding count_trailing_zeros
lowest_in zero n h ne = absurd (ne (lt-one h))
lowest_in (suc k) n h ne = go (λ half. lowest_in k (n / 2) (half_below k n h) half) (digit_cases (n % 2) (mod-lt n two_pos))
  where
    low : (t : ℕ) → n % 2 ≡ 1 → under (n % 2) t ≡ 0
    low t e = ap (λ (d : ℕ). under d t) e

    high : (t : ℕ) → n % 2 ≡ 0 → under (n % 2) t ≡ suc t
    high t e = ap (λ (d : ℕ). under d t) e

    go : (n / 2 ≢ 0 → (count_trailing_zeros k (n / 2) < k) × (bit (n / 2) (count_trailing_zeros k (n / 2)) ≡ 1)) → (n % 2 ≡ 0) ⊎ (n % 2 ≡ 1) → (under (n % 2) (count_trailing_zeros k (n / 2)) < suc k) × (bit n (under (n % 2) (count_trailing_zeros k (n / 2))) ≡ 1)
    go rest (inr e) = subst (λ (t : ℕ). (t < suc k) × (bit n t ≡ 1)) (sym (low (count_trailing_zeros k (n / 2)) e)) (zero-lt-suc k, bit_zero n ∙ e)
    go rest (inl e) =
        let half : n / 2 ≢ 0 = λ z. ne (omega arith) in
        let ih = rest half in
        subst (λ (t : ℕ). (t < suc k) × (bit n t ≡ 1)) (sym (high (count_trailing_zeros k (n / 2)) e))
        (omega (arith, ih.0), bit_suc n (count_trailing_zeros k (n / 2)) ∙ ih.1)

-- no place below it
pub lowest_least : (k n q : ℕ) → q < count_trailing_zeros k n → bit n q ≡ 0
unfolding count_trailing_zeros
lowest_least zero n q h = absurd (not-suc-le-zero h)
lowest_least (suc k) n zero h = bit_zero n ∙ (under_even (n % 2) (count_trailing_zeros k (n / 2)) zero h).0
lowest_least (suc k) n (suc q) h =
    bit_suc n q ∙ lowest_least k (n / 2) q (le_of_suc-le-suc (under_even (n % 2) (count_trailing_zeros k (n / 2)) (suc q) h).1)

-- ---- a place added
pub flip_up : (x q : ℕ) → bit x q ≡ 0 → bit_xor x (2 ^ q) ≡ x + 2 ^ q
flip_up x q z =
    xor_disjoint x (2 ^ q) (bits_tell_words_apart 0 (bit_and x (2 ^ q)) (λ r. none r (bit_cases (bit_and x (2 ^ q)) r)))
  where
    none : (r : ℕ) → (bit (bit_and x (2 ^ q)) r ≡ 0) ⊎ (bit (bit_and x (2 ^ q)) r ≡ 1) → bit (bit_and x (2 ^ q)) r ≡ bit 0 r
    none r (inl e) = e ∙ sym (bit_none r)
    none r (inr o) =
        let p = and_parts x (2 ^ q) r o in
        elim (cases_eq r q) [
          | inl e ↦ zero_one (bit x r) (ap (bit x) e ∙ z) p.0
          | inr n ↦ zero_one (bit (2 ^ q) r) (bit_pow_other q r n) p.1
        ]

-- ---- the code's test of a bit

pub set_from : (x q : ℕ) → true ≡ eqb (bit x q) 1 → bit x q ≡ 1
set_from x q e = eqb-true (bit x q) 1 (sym e)

pub clear_from : (x q : ℕ) → false ≡ eqb (bit x q) 1 → bit x q ≡ 0
clear_from x q e = go (bit_cases x q)
  where
    go : (bit x q ≡ 0) ⊎ (bit x q ≡ 1) → bit x q ≡ 0
    go (inl z) = z
    go (inr o) = absurd (eqb-false (bit x q) 1 (sym e) o)

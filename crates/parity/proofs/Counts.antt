-- How many places a set has.
use Rattle.std.proofs.Common.{◌≡◌, ℕ, zero, suc, ◌+◌, ◌/◌, ◌%◌, ◌^◌, ◌<◌, ◌≤◌, ◌≢◌, sym, refl, ap, ◌∙◌, subst, ap₂, inl, inr, zero-le, add_assoc, mod-lt, div-lt_iff_lt-mul, one-mul, pow-suc, arith, pow_pos, shr-shr}
use lib.Arith.{lt-one}
use lib.Bits.{bit_xor, xor_mod, xor_shr, xor_zero_r}
use lib.Count.{ones, ones_step, count_trailing_zeros}
use Rattle.std.proofs.lemmas.Bool.{cases_eq}
use Rattle.parity.specs.Sets.{bit}
use Rattle.parity.proofs.Bits.{two_pos, half_below, bit_zero, bit_suc, bit_none, digit_cases, pow_even, pow_half, flip_off, xor_cancel_r}
use Rattle.parity.proofs.Masks.{lowest_in}

pub ones_none : ones 0 ≡ 0
unfolding ones
ones_none = refl

-- one place more is one more
pub ones_flip : (q x : ℕ) → bit x q ≡ 0 → ones (bit_xor x (2 ^ q)) ≡ ones x + 1
ones_flip zero x z =
    let e : x % 2 ≡ 0 = sym (bit_zero x) ∙ z in
    let lo : bit_xor x 1 % 2 ≡ 1 = xor_mod x 1 1 ∙ ap (λ (d : ℕ). bit_xor d 1) e in
    let hi : bit_xor x 1 / 2 ≡ x / 2 = xor_shr x 1 1 ∙ xor_zero_r (x / 2) in
    ones_step (bit_xor x 1) ∙ ap₂ (λ (d r : ℕ). d + ones r) lo hi
    ∙ (let s : ones x ≡ x % 2 + ones (x / 2) = ones_step x in let g : 1 + ones (x / 2) ≡ ones x + 1 = omega arith in g)
ones_flip (suc q) x z =
    let lo : bit_xor x (2 ^ suc q) % 2 ≡ x % 2 = xor_mod x (2 ^ suc q) 1 ∙ ap (bit_xor (x % 2)) (pow_even q) ∙ xor_zero_r (x % 2) in
    let hi : bit_xor x (2 ^ suc q) / 2 ≡ bit_xor (x / 2) (2 ^ q) = xor_shr x (2 ^ suc q) 1 ∙ ap (bit_xor (x / 2)) (pow_half q) in
    ones_step (bit_xor x (2 ^ suc q)) ∙ ap₂ (λ (d r : ℕ). d + ones r) lo hi
    ∙ ap (λ (m : ℕ). x % 2 + m) (ones_flip q (x / 2) (sym (bit_suc x q) ∙ z))
    ∙ sym (add_assoc (x % 2) (ones (x / 2)) 1) ∙ ap (λ (m : ℕ). m + 1) (sym (ones_step x))

pub ones_pow : (q : ℕ) → ones (2 ^ q) ≡ 1
ones_pow q = ones_flip q 0 (bit_none q) ∙ ap (λ (m : ℕ). m + 1) ones_none

-- one place less
pub ones_less : (x q : ℕ) → bit x q ≡ 1 → ones x ≡ ones (bit_xor x (2 ^ q)) + 1
ones_less x q o = ap ones (sym (xor_cancel_r (2 ^ q) x)) ∙ ones_flip q (bit_xor x (2 ^ q)) (flip_off x q o)

-- a set inside another has no more places
pub ones_within : (n x y : ℕ) → x < 2 ^ n → ((q : ℕ) → bit x q ≡ 1 → bit y q ≡ 1) → ones x ≤ ones y
ones_within zero x y h all = let z : x ≡ 0 = lt-one h in subst (λ (m : ℕ). m ≤ ones y) (sym (ap ones z ∙ ones_none)) zero-le
ones_within (suc n) x y h all =
    let half : x / 2 < 2 ^ n = half_below n x h in
    let rest : ones (x / 2) ≤ ones (y / 2) = ones_within n (x / 2) (y / 2) half (λ q o. sym (bit_suc y q) ∙ all (suc q) (bit_suc x q ∙ o)) in
    let sx : ones x ≡ x % 2 + ones (x / 2) = ones_step x in
    let sy : ones y ≡ y % 2 + ones (y / 2) = ones_step y in
    elim (digit_cases (x % 2) (mod-lt x two_pos)) [
      | inl e ↦ omega arith
      | inr e ↦ let f : y % 2 ≡ 1 = sym (bit_zero y) ∙ all 0 (bit_zero x ∙ e) in omega arith
    ]

-- ---- some place

below_power : (n : ℕ) → n < 2 ^ n
below_power zero = omega arith
below_power (suc n) = let h = below_power n in let p = pow-suc 2 n in omega arith

-- a set that is not empty has a place
pub some_place : (x : ℕ) → x ≢ 0 → (p : ℕ) × (bit x p ≡ 1)
some_place x h = (count_trailing_zeros x x, (lowest_in x x (below_power x) h).1)

pub ones_nothing : (x : ℕ) → ones x ≡ 0 → x ≡ 0
ones_nothing x h = elim (cases_eq x 0) [
  | inl e ↦ e
  | inr n ↦ let p = some_place x n in let l = ones_less x p.0 p.1 in absurd (omega arith)
]

-- a set of one place
pub single_place : (x : ℕ) → ones x ≡ 1 → (p : ℕ) × (x ≡ 2 ^ p)
single_place x h =
    let ne : x ≢ 0 = λ z. (let w : ◌≡◌ {A = ℕ} 0 1 = sym ones_none ∙ ap ones (sym z) ∙ h in omega arith) in
    let p = some_place x ne in
    let l : ones x ≡ ones (bit_xor x (2 ^ p.0)) + 1 = ones_less x p.0 p.1 in
    let z : bit_xor x (2 ^ p.0) ≡ 0 = ones_nothing (bit_xor x (2 ^ p.0)) (omega arith) in
    (p.0, sym (xor_cancel_r (2 ^ p.0) x) ∙ ap (λ (y : ℕ). bit_xor y (2 ^ p.0)) z)

bit_over : (x n q : ℕ) → bit (x / 2 ^ n) q ≡ bit x (n + q)
unfolding bit
bit_over x n q = ap (λ (y : ℕ). y % 2) (shr-shr x n q)

-- a set with places below n only
pub below_all : (n x : ℕ) → ((q : ℕ) → bit x q ≡ 1 → q < n) → x < 2 ^ n
below_all n x h = elim (cases_eq (x / 2 ^ n) 0) [
  | inl z ↦ let o : x / 2 ^ n < 1 = omega arith in subst (λ (y : ℕ). x < y) (one-mul (2 ^ n)) ((div-lt_iff_lt-mul (pow_pos n)).0 o)
  | inr ne ↦ let p = some_place (x / 2 ^ n) ne in let k : n + p.0 < n = h (n + p.0) (sym (bit_over x n p.0) ∙ p.1) in absurd (omega arith)
]

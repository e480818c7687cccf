-- The bits of words.
use Rattle.std.proofs.Common.{◌≡◌, ℕ, zero, suc, ◌/◌, ◌%◌, ◌^◌, ◌<◌, ◌≤◌, ◌≢◌, ◌⊎◌, sym, refl, ap, ◌∙◌, subst, inl, inr, lt_of_lt_of_le, le_of_suc-le-suc, not-suc-le-zero, mod-lt, zero-lt-suc, div-lt_iff_lt-mul, pow-suc, div-one, mul-div_cancel, one-add, arith, pow_mono, shr-shr}
use native.Mathlib.Nat.{mul-mod_left, div-eq_of_lt}
use lib.Arith.{bin_ind}
use lib.Bits.{bit_xor, bit_and, bit_or, xor_shr, xor_mod, and_shr, and_mod, or_shr, or_mod, xor_comm, xor_assoc, xor_self, xor_zero_r}
use Rattle.std.proofs.lemmas.Bool.{cases_lt, cases_eq}
use Rattle.parity.specs.Sets.{bit, when}
use Rattle.parity.specs.Laws.{BitsTellWordsApart}

pub two_pos : zero < 2
two_pos = zero-lt-suc 1

-- 0 is not 1
pub zero_one : {A : Type 0} (d : ℕ) → d ≡ 0 → d ≡ 1 → A
zero_one d p q = absurd (omega arith)

pub half_below : (n x : ℕ) → x < 2 ^ suc n → x / 2 < 2 ^ n
half_below n x h = (div-lt_iff_lt-mul two_pos).1 (subst (λ (y : ℕ). x < y) (pow-suc 2 n) h)

-- ---- one bit

pub bit_lt : (x q : ℕ) → bit x q < 2
unfolding bit
bit_lt x q = mod-lt (x / 2 ^ q) (zero-lt-suc 1)

pub bit_zero : (x : ℕ) → bit x 0 ≡ x % 2
unfolding bit
bit_zero x = ap (λ (n : ℕ). n % 2) (div-one x)

pub bit_suc : (x q : ℕ) → bit x (suc q) ≡ bit (x / 2) q
unfolding bit
bit_suc x q = ap (λ (n : ℕ). x / 2 ^ n % 2) (sym (one-add q)) ∙ ap (λ (n : ℕ). n % 2) (sym (shr-shr x 1 q))

pub bit_none : (q : ℕ) → bit 0 q ≡ 0
bit_none zero = bit_zero 0
bit_none (suc q) = bit_suc 0 q ∙ bit_none q

pub bit-xor : (x y q : ℕ) → bit (bit_xor x y) q ≡ bit_xor (bit x q) (bit y q)
unfolding bit
bit-xor x y q = ap (λ (n : ℕ). n % 2) (xor_shr x y q) ∙ xor_mod (x / 2 ^ q) (y / 2 ^ q) 1

pub bit-and : (x y q : ℕ) → bit (bit_and x y) q ≡ bit_and (bit x q) (bit y q)
unfolding bit
bit-and x y q = ap (λ (n : ℕ). n % 2) (and_shr x y q) ∙ and_mod (x / 2 ^ q) (y / 2 ^ q) 1

pub bit-or : (x y q : ℕ) → bit (bit_or x y) q ≡ bit_or (bit x q) (bit y q)
unfolding bit
bit-or x y q = ap (λ (n : ℕ). n % 2) (or_shr x y q) ∙ or_mod (x / 2 ^ q) (y / 2 ^ q) 1

-- a digit is 0 or 1
pub digit_cases : (d : ℕ) → d < 2 → (d ≡ 0) ⊎ (d ≡ 1)
digit_cases zero h = inl refl
digit_cases (suc zero) h = inr refl
digit_cases (suc (suc d)) h = absurd (not-suc-le-zero (le_of_suc-le-suc (le_of_suc-le-suc h)))

pub bit_cases : (x q : ℕ) → (bit x q ≡ 0) ⊎ (bit x q ≡ 1)
bit_cases x q = digit_cases (bit x q) (bit_lt x q)

-- a word with a digit set is not 0
pub bit_some : (x q : ℕ) → bit x q ≡ 1 → x ≢ 0
bit_some x q e z = let w : ◌≡◌ {A = ℕ} 0 1 = sym (bit_none q) ∙ ap (λ (k : ℕ). bit k q) (sym z) ∙ e in omega arith

-- what is not clear is set
pub set_unless : (x q : ℕ) → (bit x q ≡ 0 → ⊥) → bit x q ≡ 1
set_unless x q h = elim (bit_cases x q) [ inl e ↦ absurd (h e) | inr e ↦ e ]

-- ---- single places

pub pow_even : (p : ℕ) → 2 ^ suc p % 2 ≡ 0
pow_even p = ap (λ (n : ℕ). n % 2) (pow-suc 2 p) ∙ mul-mod_left (2 ^ p) 2

pub pow_half : (p : ℕ) → 2 ^ suc p / 2 ≡ 2 ^ p
pow_half p = ap (λ (n : ℕ). n / 2) (pow-suc 2 p) ∙ mul-div_cancel (2 ^ p) (zero-lt-suc 1)

pub bit_pow_same : (q : ℕ) → bit (2 ^ q) q ≡ 1
bit_pow_same zero = bit_zero 1
bit_pow_same (suc q) = bit_suc (2 ^ suc q) q ∙ ap (λ (n : ℕ). bit n q) (pow_half q) ∙ bit_pow_same q

pub bit_pow_other : (p q : ℕ) → q ≢ p → bit (2 ^ p) q ≡ 0
bit_pow_other zero zero h = absurd (h refl)
bit_pow_other zero (suc q) h = bit_suc 1 q ∙ bit_none q
bit_pow_other (suc p) zero h = bit_zero (2 ^ suc p) ∙ pow_even p
bit_pow_other (suc p) (suc q) h =
    bit_suc (2 ^ suc p) q ∙ ap (λ (n : ℕ). bit n q) (pow_half p) ∙ bit_pow_other p q (λ e. h (ap suc e))

-- the one place of 2 ^ s
pub place_is : (s q : ℕ) → bit (2 ^ s) q ≡ 1 → s ≡ q
place_is s q o = elim (cases_eq q s) [ inl e ↦ sym e | inr n ↦ zero_one (bit (2 ^ s) q) (bit_pow_other s q n) o ]

-- ---- all bits

-- above its length a word has no digit
pub bit_high : (x q : ℕ) → x < 2 ^ q → bit x q ≡ 0
unfolding bit
bit_high x q h = ap (λ (n : ℕ). n % 2) (div-eq_of_lt h)

-- a place of a word below 2 ^ n is below n
pub place_below : (n x q : ℕ) → x < 2 ^ n → bit x q ≡ 1 → q < n
place_below n x q h o = go (cases_lt q n)
  where
    go : (q < n) ⊎ (n ≤ q) → q < n
    go (inl l) = l
    go (inr g) = zero_one (bit x q) (bit_high x q (lt_of_lt_of_le h (pow_mono g))) o

pub by_digits : (a b : ℕ) → a / 2 ≡ b / 2 → a % 2 ≡ b % 2 → a ≡ b
by_digits a b hi lo = omega (arith, hi, lo)

pub bits_tell_words_apart : BitsTellWordsApart
bits_tell_words_apart =
    bin_ind (λ (y : ℕ). (x : ℕ) → ((q : ℕ) → bit x q ≡ bit y q) → x ≡ y)
    (bin_ind (λ (x : ℕ). ((q : ℕ) → bit x q ≡ bit 0 q) → x ≡ 0) (λ h. refl)
    (λ x ih h. by_digits x 0 (ih (λ q. sym (bit_suc x q) ∙ h (suc q) ∙ bit_suc 0 q)) (sym (bit_zero x) ∙ h 0 ∙ bit_zero 0)))
    (λ y ih x h. by_digits x y (ih (x / 2) (λ q. sym (bit_suc x q) ∙ h (suc q) ∙ bit_suc y q)) (sym (bit_zero x) ∙ h 0 ∙ bit_zero y))

-- a word that is not 0, and has no place but r
pub only_place : (x r : ℕ) → x ≢ 0 → ((q : ℕ) → bit x q ≡ 1 → r ≡ q) → x ≡ 2 ^ r
only_place x r h all = bits_tell_words_apart (2 ^ r) x (λ q. at q (bit_cases x q))
  where
    here : (bit x r ≡ 0) ⊎ (bit x r ≡ 1) → bit x r ≡ 1
    here (inr e) = e
    here (inl e) = absurd (h (bits_tell_words_apart 0 x (λ q. none q (bit_cases x q) ∙ sym (bit_none q))))
      where
        none : (q : ℕ) → (bit x q ≡ 0) ⊎ (bit x q ≡ 1) → bit x q ≡ 0
        none q (inl z) = z
        none q (inr o) = ap (bit x) (sym (all q o)) ∙ e

    at : (q : ℕ) → (bit x q ≡ 0) ⊎ (bit x q ≡ 1) → bit x q ≡ bit (2 ^ r) q
    at q (inr o) = o ∙ sym (bit_pow_same r) ∙ ap (bit (2 ^ r)) (all q o)
    at q (inl z) = z ∙ sym (bit_pow_other r q (λ e. let w : ◌≡◌ {A = ℕ} 0 1 = sym z ∙ ap (bit x) e ∙ here (bit_cases x r) in omega arith))

-- ---- exclusive or

-- exclusive or: a word met twice goes
pub xor_cancel : (a b : ℕ) → bit_xor a (bit_xor b a) ≡ b
xor_cancel a b = ap (bit_xor a) (xor_comm b a) ∙ sym (xor_assoc a a b) ∙ ap (λ (n : ℕ). bit_xor n b) (xor_self a)

pub xor_cancel_r : (a b : ℕ) → bit_xor (bit_xor b a) a ≡ b
xor_cancel_r a b = xor_assoc b a a ∙ ap (bit_xor b) (xor_self a) ∙ xor_zero_r b

pub xor_left_comm : (a b c : ℕ) → bit_xor a (bit_xor b c) ≡ bit_xor b (bit_xor a c)
xor_left_comm a b c = sym (xor_assoc a b c) ∙ ap (λ (n : ℕ). bit_xor n c) (xor_comm a b) ∙ xor_assoc b a c

pub xor_swap : (a b c d : ℕ) → bit_xor (bit_xor a b) (bit_xor c d) ≡ bit_xor (bit_xor a c) (bit_xor b d)
xor_swap a b c d = xor_assoc a b (bit_xor c d) ∙ ap (bit_xor a) (xor_left_comm b c d) ∙ sym (xor_assoc a c (bit_xor b d))

-- ---- one place flipped

pub flip_same : (x q : ℕ) → bit (bit_xor x (2 ^ q)) q ≡ bit_xor (bit x q) 1
flip_same x q = bit-xor x (2 ^ q) q ∙ ap (bit_xor (bit x q)) (bit_pow_same q)

pub flip_other : (x p q : ℕ) → q ≢ p → bit (bit_xor x (2 ^ p)) q ≡ bit x q
flip_other x p q h = bit-xor x (2 ^ p) q ∙ ap (bit_xor (bit x q)) (bit_pow_other p q h) ∙ xor_zero_r (bit x q)

pub flip_off : (x q : ℕ) → bit x q ≡ 1 → bit (bit_xor x (2 ^ q)) q ≡ 0
flip_off x q h = flip_same x q ∙ ap (λ (d : ℕ). bit_xor d 1) h

pub flip_on : (x q : ℕ) → bit x q ≡ 0 → bit (bit_xor x (2 ^ q)) q ≡ 1
flip_on x q h = flip_same x q ∙ ap (λ (d : ℕ). bit_xor d 1) h

-- a place of done with q flipped
pub flip_cases : (x q r : ℕ) → bit (bit_xor x (2 ^ q)) r ≡ 1 → (r ≡ q) ⊎ (bit x r ≡ 1)
flip_cases x q r o =
    elim (cases_eq r q) [
      | inl e ↦ inl e
      | inr n ↦ inr (sym (bit-xor x (2 ^ q) r ∙ ap (bit_xor (bit x r)) (bit_pow_other q r n) ∙ xor_zero_r (bit x r)) ∙ o)
    ]

-- ---- `when`

-- `when` is linear in both
pub when_xor : (d e s : ℕ) → d < 2 → e < 2 → when (bit_xor d e) s ≡ bit_xor (when d s) (when e s)
when_xor d e s hd he = go d e (digit_cases d hd) (digit_cases e he)
  where
    go : (d e : ℕ) → (d ≡ 0) ⊎ (d ≡ 1) → (e ≡ 0) ⊎ (e ≡ 1) → when (bit_xor d e) s ≡ bit_xor (when d s) (when e s)
    go d e (inl p) q = rw p
    go d e (inr p) (inl q) = rw (p, q) (sym (xor_zero_r s))
    go d e (inr p) (inr q) = rw (p, q) (sym (xor_self s))

pub when_word : (d a b : ℕ) → when d (bit_xor a b) ≡ bit_xor (when d a) (when d b)
when_word zero a b = refl
when_word (suc d) a b = refl

pub bit_when : (d y q : ℕ) → bit (when d y) q ≡ when d (bit y q)
bit_when zero y q = bit_none q
bit_when (suc d) y q = refl

pub when_zero : (d : ℕ) → when d 0 ≡ 0
when_zero zero = refl
when_zero (suc d) = refl

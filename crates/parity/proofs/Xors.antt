-- The exclusive or of words over a set.
use Rattle.std.proofs.Common.{◌≡◌, ℕ, zero, suc, ◌+◌, ◌*◌, ◌/◌, ◌%◌, ◌^◌, ◌<◌, ◌⊎◌, List, [], ◌∷◌, map, length, get_or, set, sym, refl, ap, ◌∙◌, ap₂, inl, inr, le_of_suc-le-suc, not-suc-le-zero, mod-lt, mul_assoc, mul_comm, add-mul, one-mul, pow-suc, mul-one, add-one, arith, pow_pos}
use lib.Arith.{lt-one}
use lib.Bits.{bit_xor, xor_shr, xor_mod, xor_comm, xor_assoc, xor_zero_r, xor_shifted, xor_lt}
use Rattle.std.specs.List.{range_with_len}
use Rattle.std.proofs.lemmas.List.{ext_get_or, length-map, map-set}
use Rattle.parity.specs.Words.{fresh, Gate, cnot}
use Rattle.parity.specs.Sets.{bit, when, xor_over}
use Rattle.parity.specs.Laws.{FreshXorsAreSets}
use Rattle.parity.proofs.Words.{Below, length_fresh, get_d_fresh}
use Rattle.parity.proofs.Bits.{two_pos, half_below, bit_zero, bit_suc, pow_even, pow_half, xor_left_comm, xor_swap, when_xor, when_word, digit_cases}

pub xor_over_none : (S : List ℕ) → xor_over S 0 ≡ 0
xor_over_none [] = refl
xor_over_none (s ∷ S) = xor_over_none S

pub xor_over_xor : (S : List ℕ) (x y : ℕ) → xor_over S (bit_xor x y) ≡ bit_xor (xor_over S x) (xor_over S y)
xor_over_xor [] x y = refl
xor_over_xor (s ∷ S) x y =
    ap₂ (λ (d r : ℕ). bit_xor (when d s) (xor_over S r)) (xor_mod x y 1) (xor_shr x y 1)
    ∙ ap₂ bit_xor (when_xor (x % 2) (y % 2) s (mod-lt x two_pos) (mod-lt y two_pos)) (xor_over_xor S (x / 2) (y / 2))
    ∙ xor_swap (when (x % 2) s) (when (y % 2) s) (xor_over S (x / 2)) (xor_over S (y / 2))

pub xor_over_one : (S : List ℕ) (q : ℕ) → xor_over S (2 ^ q) ≡ get_or S q 0
xor_over_one [] q = refl
xor_over_one (s ∷ S) zero = ap (bit_xor s) (xor_over_none S) ∙ xor_zero_r s
xor_over_one (s ∷ S) (suc q) =
    ap₂ (λ (d r : ℕ). bit_xor (when d s) (xor_over S r)) (pow_even q) (pow_half q) ∙ xor_over_one S q

pub xor_over_when : (S : List ℕ) (d y : ℕ) → xor_over S (when d y) ≡ when d (xor_over S y)
xor_over_when S zero y = xor_over_none S
xor_over_when S (suc d) y = refl

-- a word that takes the exclusive or with v brings v into each xor-over that has its place
pub xor_over_set : (S : List ℕ) (t v x : ℕ) → t < length S
    → xor_over (set S t (bit_xor v (get_or S t 0))) x ≡ bit_xor (when (bit x t) v) (xor_over S x)
xor_over_set [] t v x h = absurd (not-suc-le-zero h)
xor_over_set (s ∷ S) zero v x h =
    ap (λ (n : ℕ). bit_xor n (xor_over S (x / 2))) (when_word (x % 2) v s)
    ∙ xor_assoc (when (x % 2) v) (when (x % 2) s) (xor_over S (x / 2))
    ∙ ap (λ (d : ℕ). bit_xor (when d v) (xor_over (s ∷ S) x)) (sym (bit_zero x))
xor_over_set (s ∷ S) (suc t) v x h =
    ap (bit_xor (when (x % 2) s)) (xor_over_set S t v (x / 2) (le_of_suc-le-suc h))
    ∙ xor_left_comm (when (x % 2) s) (when (bit (x / 2) t) v) (xor_over S (x / 2))
    ∙ ap (λ (d : ℕ). bit_xor (when d v) (xor_over (s ∷ S) x)) (sym (bit_suc x t))

-- words below 2 ^ n have an exclusive or below 2 ^ n
pub xor_over_below : (n : ℕ) (ws : List ℕ) (x : ℕ) → Below n ws → xor_over ws x < 2 ^ n
xor_over_below n [] x b = pow_pos n
xor_over_below n (w ∷ ws) x b =
    xor_lt n (when (x % 2) w) (xor_over ws (x / 2)) (low (x % 2)) (xor_over_below n ws (x / 2) (λ q. b (suc q)))
  where
    low : (d : ℕ) → when d w < 2 ^ n
    low zero = pow_pos n
    low (suc d) = b 0

-- ---- fresh words

when_mul : (d s : ℕ) → d < 2 → when d s ≡ d * s
when_mul d s h = go d (digit_cases d h)
  where
    go : (d : ℕ) → (d ≡ 0) ⊎ (d ≡ 1) → when d s ≡ d * s
    go d (inl e) = rw e (omega arith)
    go d (inr e) = rw e (sym (one-mul s))

when_lt : (d k : ℕ) → when d (2 ^ k) < 2 ^ suc k
when_lt zero k = pow_pos (suc k)
when_lt (suc d) k = omega (arith, pow-suc 2 k, pow_pos k)

powers : ℕ → ℕ → List ℕ
powers k n = map (λ (q : ℕ). 2 ^ q) (range_with_len k n)

xor_over_powers : (n k x : ℕ) → x < 2 ^ n → xor_over (powers k n) x ≡ x * 2 ^ k
unfolding powers
xor_over_powers zero k x h = rw (lt-one h) (omega arith)
xor_over_powers (suc n) k x h =
    ap (bit_xor (when (x % 2) (2 ^ k))) (xor_over_powers n (k + 1) (x / 2) (half_below n x h) ∙ ap (λ (j : ℕ). x / 2 * 2 ^ j) (add-one k))
    ∙ xor_comm (when (x % 2) (2 ^ k)) (x / 2 * 2 ^ suc k)
    ∙ xor_shifted (x / 2) (suc k) (when (x % 2) (2 ^ k)) (when_lt (x % 2) k)
    ∙ ap₂ ◌+◌ (ap (λ (m : ℕ). x / 2 * m) (pow-suc 2 k ∙ mul_comm (2 ^ k) 2) ∙ sym (mul_assoc (x / 2) 2 (2 ^ k))) (when_mul (x % 2) (2 ^ k) (mod-lt x two_pos))
    ∙ sym (add-mul (x / 2 * 2) (x % 2) (2 ^ k))
    ∙ ap (λ (m : ℕ). m * 2 ^ k) (omega arith)

pub fresh_xors_are_sets : FreshXorsAreSets
unfolding fresh powers
fresh_xors_are_sets n x h = xor_over_powers n 0 x h ∙ mul-one x

-- ---- a list mapped by an exclusive or

-- what takes 0 to 0 goes by place
pub get_d_map_zero : (f : ℕ → ℕ) → f 0 ≡ 0 → (xs : List ℕ) (v : ℕ) → get_or (map f xs) v 0 ≡ f (get_or xs v 0)
get_d_map_zero f z [] v = sym z
get_d_map_zero f z (x ∷ xs) zero = refl
get_d_map_zero f z (x ∷ xs) (suc v) = get_d_map_zero f z xs v

-- over fresh words the exclusive ors are the words themselves
pub map_fresh : (n : ℕ) (ws : List ℕ) → length ws ≡ n → ws ≡ map (xor_over ws) (fresh n)
map_fresh n ws e =
    let len : length (map (xor_over ws) (fresh n)) ≡ n = length-map (fresh n) (xor_over ws) ∙ length_fresh n in
    ext_get_or 0 ws (map (xor_over ws) (fresh n)) (e ∙ sym len)
    (λ q lt. sym (xor_over_one ws q) ∙ ap (xor_over ws) (sym (get_d_fresh n q (omega arith))) ∙ sym (get_d_map_zero (xor_over ws) (xor_over_none ws) (fresh n) q))

pub map_cnot : (ws : List ℕ) (g : Gate) (vs : List ℕ) → map (xor_over ws) (cnot g vs) ≡ cnot g (map (xor_over ws) vs)
map_cnot ws g vs =
    map-set (xor_over ws) vs g.1 (bit_xor (get_or vs g.0 0) (get_or vs g.1 0))
    ∙ ap (λ (v : ℕ). set (map (xor_over ws) vs) g.1 v)
    (xor_over_xor ws (get_or vs g.0 0) (get_or vs g.1 0) ∙ ap₂ bit_xor (sym (at g.0)) (sym (at g.1)))
  where
    at : (q : ℕ) → get_or (map (xor_over ws) vs) q 0 ≡ xor_over ws (get_or vs q 0)
    at = get_d_map_zero (xor_over ws) (xor_over_none ws) vs

-- two words exchanged
pub map_exchanged : (ws : List ℕ) (a b : ℕ) (vs : List ℕ)
    → map (xor_over ws) (set (set vs a (get_or vs b 0)) b (get_or vs a 0)) ≡ set (set (map (xor_over ws) vs) a (get_or (map (xor_over ws) vs) b 0)) b (get_or (map (xor_over ws) vs) a 0)
map_exchanged ws a b vs =
    map-set (xor_over ws) (set vs a (get_or vs b 0)) b (get_or vs a 0)
    ∙ ap₂ (λ (l : List ℕ) (v : ℕ). set l b v) (map-set (xor_over ws) vs a (get_or vs b 0) ∙ ap (λ (v : ℕ). set (map (xor_over ws) vs) a v) (sym (at b))) (sym (at a))
  where
    at : (q : ℕ) → get_or (map (xor_over ws) vs) q 0 ≡ xor_over ws (get_or vs q 0)
    at = get_d_map_zero (xor_over ws) (xor_over_none ws) vs

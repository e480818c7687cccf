-- The pairing of sets.
use Rattle.std.proofs.Common.{◌≡◌, ℕ, zero, suc, ◌+◌, ◌/◌, ◌%◌, ◌^◌, ◌<◌, ◌≢◌, ◌⊎◌, List, [], ◌∷◌, ◌++◌, sym, refl, ap, ◌∙◌, ap₂, inl, inr, mod-lt, arith}
use native.Mathlib.Nat.{mod-mod}
use lib.Arith.{bin_ind}
use lib.Bits.{bit_xor, bit_and, xor_shr, xor_mod, and_shr, and_mod, and_comm, and_mask, xor_zero_r}
use lib.Count.{ones, ones_step}
use Rattle.parity.specs.Words.{Gate}
use Rattle.parity.specs.Sets.{bit, when}
use Rattle.parity.specs.Gates.{act, acts, Each, Spares}
use Rattle.parity.specs.Pairing.{dot, turned, PairingSurvivesGate, PairingSurvivesGates}
use Rattle.parity.proofs.Bits.{two_pos, bit_lt, bit_zero, bit_suc, bit-and, bit_cases, bits_tell_words_apart, bit_pow_other, pow_even, pow_half, xor_cancel_r, xor_swap, digit_cases}
use Rattle.parity.proofs.Masks.{and_xor}
use Rattle.parity.proofs.Counts.{ones_none}
use Rattle.parity.proofs.Each.{each_turned}
use Rattle.parity.proofs.Gates.{act_other, acts_still}

-- ---- odd or even

parity : ℕ → ℕ
parity n = ones n % 2

digit_add : (d m : ℕ) → d < 2 → (d + m) % 2 ≡ bit_xor d (m % 2)
digit_add d m h = go d (digit_cases d h) (digit_cases (m % 2) (mod-lt m two_pos))
  where
    go : (d : ℕ) → (d ≡ 0) ⊎ (d ≡ 1) → (m % 2 ≡ 0) ⊎ (m % 2 ≡ 1) → (d + m) % 2 ≡ bit_xor d (m % 2)
    go d (inl e) k = rw e (omega arith)
    go d (inr e) (inl k) = rw (e, k) (omega arith)
    go d (inr e) (inr k) = rw (e, k) (omega arith)

parity_step : (n : ℕ) → parity n ≡ bit_xor (n % 2) (parity (n / 2))
unfolding parity
parity_step n = ap (λ (k : ℕ). k % 2) (ones_step n) ∙ digit_add (n % 2) (ones (n / 2)) (mod-lt n two_pos)

parity_none : parity 0 ≡ 0
unfolding parity
parity_none = ap (λ (k : ℕ). k % 2) ones_none

parity_xor : (a b : ℕ) → parity (bit_xor a b) ≡ bit_xor (parity a) (parity b)
parity_xor =
    bin_ind (λ (a : ℕ). (b : ℕ) → parity (bit_xor a b) ≡ bit_xor (parity a) (parity b))
    (λ b. ap (λ (k : ℕ). bit_xor k (parity b)) (sym parity_none))
    (λ a ih b. parity_step (bit_xor a b)
    ∙ ap₂ bit_xor (xor_mod a b 1) (ap parity (xor_shr a b 1) ∙ ih (b / 2))
    ∙ xor_swap (a % 2) (b % 2) (parity (a / 2)) (parity (b / 2))
    ∙ ap₂ bit_xor (sym (parity_step a)) (sym (parity_step b)))

-- ---- the pairing is linear

pub dot_xor : (x z y : ℕ) → dot (bit_xor x z) y ≡ bit_xor (dot x y) (dot z y)
unfolding parity
dot_xor x z y = ap parity (and_xor x z y) ∙ parity_xor (bit_and x y) (bit_and z y)

pub dot_comm : (x y : ℕ) → dot x y ≡ dot y x
dot_comm x y = ap (λ (k : ℕ). ones k % 2) (and_comm x y)

pub dot_pow : (c y : ℕ) → dot (2 ^ c) y ≡ bit y c
unfolding parity
dot_pow zero y =
    ap parity (and_comm 1 y ∙ and_mask y 1) ∙ parity_step (y % 2)
    ∙ ap₂ bit_xor (mod-mod y 2) (ap parity (omega arith) ∙ parity_none) ∙ xor_zero_r (y % 2) ∙ sym (bit_zero y)
dot_pow (suc c) y =
    parity_step (bit_and (2 ^ suc c) y)
    ∙ ap₂ bit_xor (and_mod (2 ^ suc c) y 1 ∙ ap (λ (k : ℕ). bit_and k (y % 2)) (pow_even c))
    (ap parity (and_shr (2 ^ suc c) y 1 ∙ ap (λ (k : ℕ). bit_and k (y / 2)) (pow_half c)))
    ∙ dot_pow c (y / 2) ∙ sym (bit_suc y c)

dot_when : (d c y : ℕ) → dot (when d (2 ^ c)) y ≡ when d (bit y c)
dot_when zero c y = ap (λ (k : ℕ). k % 2) ones_none
dot_when (suc d) c y = dot_pow c y

pub dot_none : (y : ℕ) → dot 0 y ≡ 0
dot_none y = ap (λ (k : ℕ). k % 2) ones_none

pub dot_some : (x y : ℕ) → dot x y ≡ 1 → x ≢ 0
dot_some x y h z = let w : ◌≡◌ {A = ℕ} 0 1 = sym (dot_none y) ∙ ap (λ (k : ℕ). dot k y) (sym z) ∙ h in omega arith

-- where y has on x no place but r
pub dot_on : (x y r : ℕ) → ((q : ℕ) → bit x q ≡ 1 → bit y q ≡ bit (2 ^ r) q) → dot x y ≡ bit x r
dot_on x y r h =
    ap (λ (k : ℕ). ones k % 2) (bits_tell_words_apart (bit_and x (2 ^ r)) (bit_and x y)
    (λ q. bit-and x y q ∙ at q (bit_cases x q) ∙ sym (bit-and x (2 ^ r) q)))
    ∙ dot_comm x (2 ^ r) ∙ dot_pow r x
  where
    at : (q : ℕ) → (bit x q ≡ 0) ⊎ (bit x q ≡ 1) → bit_and (bit x q) (bit y q) ≡ bit_and (bit x q) (bit (2 ^ r) q)
    at q (inl z) = rw z
    at q (inr o) = ap (bit_and (bit x q)) (h q o)

-- ---- gates

when_comm : (d e : ℕ) → d < 2 → e < 2 → when d e ≡ when e d
when_comm d e hd he = go d e (digit_cases d hd) (digit_cases e he)
  where
    go : (d e : ℕ) → (d ≡ 0) ⊎ (d ≡ 1) → (e ≡ 0) ⊎ (e ≡ 1) → when d e ≡ when e d
    go d e (inl p) (inl q) = rw (p, q)
    go d e (inl p) (inr q) = rw (p, q)
    go d e (inr p) (inl q) = rw (p, q)
    go d e (inr p) (inr q) = rw (p, q)

pub pairing_survives_gate : PairingSurvivesGate
pairing_survives_gate c t x y h =
    let d = bit x t in
    let e = bit y c in
    let Y = act (t, c) y in
    dot_xor x (when d (2 ^ c)) Y
    ∙ ap₂ bit_xor
    (dot_comm x Y ∙ dot_xor y (when e (2 ^ t)) x ∙ ap₂ bit_xor (dot_comm y x) (dot_when e t x))
    (dot_when d c Y ∙ ap (when d) (act_other (t, c) y c h) ∙ when_comm d e (bit_lt x t) (bit_lt y c))
    ∙ xor_cancel_r (when e d) (dot x y)

pub pairing_survives_gates : PairingSurvivesGates
pairing_survives_gates n [] x y h = refl
pairing_survives_gates n (g ∷ gs) x y h =
    pairing_survives_gates n gs (act g x) (act (g.1, g.0) y) h.1 ∙ pairing_survives_gate g.0 g.1 x y (λ e. h.0.apart (sym e))

pub turned_append : (gs hs : List Gate) → turned (gs ++ hs) ≡ turned gs ++ turned hs
turned_append [] hs = refl
turned_append (g ∷ gs) hs = ap (λ (ks : List Gate). (g.1, g.0) ∷ ks) (turned_append gs hs)

pub turned_twice : (gs : List Gate) → turned (turned gs) ≡ gs
turned_twice [] = refl
turned_twice (g ∷ gs) = ap (λ (ks : List Gate). g ∷ ks) (turned_twice gs)

-- gates that do not flip r, the other way round, leave the set of r alone
pub turned_still : (gs : List Gate) (r : ℕ) → Each (Spares r) gs → acts (turned gs) (2 ^ r) ≡ 2 ^ r
turned_still gs r h = acts_still (turned gs) (2 ^ r) (each_turned (Spares r) (λ g. bit (2 ^ r) g.1 ≡ 0) (λ g n. bit_pow_other r g.0 n) gs h)

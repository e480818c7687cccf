-- What rounds cost, and the places below n.
use Rattle.std.proofs.Common.{◌≡◌, ℕ, zero, suc, ◌+◌, ◌-◌, ◌*◌, ◌^◌, ◌<◌, ◌≤◌, sym, refl, ap, ◌∙◌, ap₂, mul_comm, add-mul, arith, pow_pos}
use lib.Bits.{bit_xor}
use Rattle.parity.specs.Sets.{bit}
use Rattle.parity.proofs.Bits.{bit_none, xor_cancel_r, flip_off}
use Rattle.parity.proofs.Masks.{flip_up, bit_not}

-- a word falls when a place of it is flipped
pub flip_less : (x q : ℕ) → bit x q ≡ 1 → bit_xor x (2 ^ q) < x
flip_less x q o =
    let e : x ≡ bit_xor x (2 ^ q) + 2 ^ q = sym (xor_cancel_r (2 ^ q) x) ∙ flip_up (bit_xor x (2 ^ q)) q (flip_off x q o) in
    let p = pow_pos q in omega arith

-- what k places cost, and what is left after the first
pub cost_less : (k : ℕ) → 2 * ((k + 1) * (k + 1 - 1)) ≡ 4 * k + 2 * (k * (k - 1))
cost_less zero = refl
cost_less (suc m) =
    let a : (m + 2) * (m + 1) ≡ m * (m + 1) + 2 * (m + 1) = add-mul m 2 (m + 1) in
    let b : m * (m + 1) ≡ (m + 1) * m = mul_comm m (m + 1) in
    let e1 : (suc m + 1) * (suc m + 1 - 1) ≡ (m + 2) * (m + 1) = ap₂ ◌*◌ (omega arith) (omega arith) in
    let e2 : suc m * (suc m - 1) ≡ (m + 1) * m = ap₂ ◌*◌ (omega arith) (omega arith) in
    omega arith

-- a round is paid
pub cost_round : (at k m bound : ℕ) → at + 2 * (k * (k - 1)) ≤ bound → k ≡ m + 1 → at + 4 * (k - 1) ≤ bound
cost_round at k m bound h e =
    let c = cost_less m in
    let f : k * (k - 1) ≡ (m + 1) * (m + 1 - 1) = ap (λ (j : ℕ). j * (j - 1)) e in
    omega arith

pub cost_paid : (at end k m bound : ℕ) → at + 2 * (k * (k - 1)) ≤ bound → k ≡ m + 1 → end ≤ at + 4 * (k - 1) → end + 2 * (m * (m - 1)) ≤ bound
cost_paid at end k m bound h e t =
    let c = cost_less m in
    let f : k * (k - 1) ≡ (m + 1) * (m + 1 - 1) = ap (λ (j : ℕ). j * (j - 1)) e in
    omega arith

-- all places below n
pub all_below_has : (n q : ℕ) → q < n → bit (2 ^ n - 1) q ≡ 1
all_below_has n q h =
    let e : 2 ^ n - 1 - 0 ≡ 2 ^ n - 1 = omega arith in
    ap (λ (x : ℕ). bit x q) (sym e) ∙ bit_not n 0 q (pow_pos n) h ∙ ap (λ (d : ℕ). 1 - d) (bit_none q)

pub all_below_low : (n : ℕ) → 2 ^ n - 1 < 2 ^ n
all_below_low n = let p = pow_pos n in omega arith

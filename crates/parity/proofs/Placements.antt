-- Sets of wires as sets of places.
use Rattle.std.proofs.Common.{◌≡◌, ℕ, zero, suc, ◌/◌, ◌%◌, ◌^◌, ◌<◌, ◌≢◌, ◌⊎◌, List, [], ◌∷◌, map, length, get_or, sym, ap, ◌∙◌, subst, ap₂, inl, inr, le_of_suc-le-suc, not-suc-le-zero, mod-lt, arith, pow_pos}
use lib.Pow.{pow-lt}
use lib.Bits.{bit_xor, xor_zero_r}
use Rattle.std.proofs.lemmas.Bool.{cases_eq}
use Rattle.parity.specs.Sets.{bit, when, xor_over}
use Rattle.parity.specs.Placements.{wires_to_places, PlaceOf, PlacesExactly}
use Rattle.parity.proofs.Words.{Below}
use Rattle.parity.proofs.Bits.{two_pos, bit_zero, bit_suc, bit_none, bit-xor, bit_pow_same, bit_pow_other, digit_cases, bit_when, when_zero}
use Rattle.parity.proofs.Xors.{xor_over_none, xor_over_xor, xor_over_one, xor_over_when, xor_over_below}

-- the exclusive or over the places of the wires in x is that over x of the words at the wires' places
pub xor_over_places : (ws at : List ℕ) (x : ℕ) → xor_over ws (wires_to_places at x) ≡ xor_over (map (λ (p : ℕ). get_or ws p 0) at) x
xor_over_places ws [] x = xor_over_none ws
xor_over_places ws (p ∷ ps) x =
    xor_over_xor ws (when (x % 2) (2 ^ p)) (wires_to_places ps (x / 2))
    ∙ ap₂ bit_xor (xor_over_when ws (x % 2) (2 ^ p) ∙ ap (when (x % 2)) (xor_over_one ws p)) (xor_over_places ws ps (x / 2))

below_powers : (n : ℕ) (at : List ℕ) → ((w : ℕ) → w < length at → get_or at w 0 < n) → Below n (map (λ (p : ℕ). 2 ^ p) at)
below_powers n [] h q = pow_pos n
below_powers n (p ∷ ps) h zero = pow-lt (h 0 (omega arith))
below_powers n (p ∷ ps) h (suc q) = below_powers n ps (λ w lt. h (suc w) (omega arith)) q

pub places_below : (n : ℕ) (at : List ℕ) (x : ℕ) → ((w : ℕ) → w < length at → get_or at w 0 < n) → wires_to_places at x < 2 ^ n
places_below n at x h = xor_over_below n (map (λ (p : ℕ). 2 ^ p) at) x (below_powers n at h)

-- ---- the places one by one

Misses : List ℕ → ℕ → Type 0
Misses at q = (v : ℕ) → v < length at → get_or at v 0 ≢ q

abbrev Apart : List ℕ → Type 0
Apart at = (v w : ℕ) → v < length at → w < length at → get_or at v 0 ≡ get_or at w 0 → v ≡ w

when_one : (d : ℕ) → d < 2 → when d 1 ≡ d
when_one d h = go d (digit_cases d h)
  where
    go : (d : ℕ) → (d ≡ 0) ⊎ (d ≡ 1) → when d 1 ≡ d
    go d (inl e) = rw e
    go d (inr e) = rw e

front : (p : ℕ) (ps : List ℕ) (x q : ℕ) → bit (wires_to_places (p ∷ ps) x) q ≡ bit_xor (when (x % 2) (bit (2 ^ p) q)) (bit (wires_to_places ps (x / 2)) q)
front p ps x q = bit-xor (when (x % 2) (2 ^ p)) (wires_to_places ps (x / 2)) q ∙ ap (λ (d : ℕ). bit_xor d (bit (wires_to_places ps (x / 2)) q)) (bit_when (x % 2) (2 ^ p) q)

front_other : (p : ℕ) (ps : List ℕ) (x q : ℕ) → q ≢ p → bit (wires_to_places (p ∷ ps) x) q ≡ bit (wires_to_places ps (x / 2)) q
front_other p ps x q h =
    front p ps x q
    ∙ ap (λ (d : ℕ). bit_xor d (bit (wires_to_places ps (x / 2)) q)) (ap (when (x % 2)) (bit_pow_other p q h) ∙ when_zero (x % 2))

miss : (at : List ℕ) (x q : ℕ) → Misses at q → bit (wires_to_places at x) q ≡ 0
unfolding Misses
miss [] x q m = bit_none q
miss (p ∷ ps) x q m =
    front_other p ps x q (λ e. m 0 (omega arith) (sym e)) ∙ miss ps (x / 2) q (λ v lt. m (suc v) (omega arith))

hit : (at : List ℕ) (x v : ℕ) → Apart at → v < length at → bit (wires_to_places at x) (get_or at v 0) ≡ bit x v
unfolding Misses
hit [] x v ap' lt = absurd (not-suc-le-zero lt)
hit (p ∷ ps) x zero ap' lt =
    front p ps x p
    ∙ ap₂ bit_xor (ap (when (x % 2)) (bit_pow_same p) ∙ when_one (x % 2) (mod-lt x two_pos))
    (miss ps (x / 2) p (λ v l e. let k = ap' (suc v) 0 (omega arith) (omega arith) e in omega arith))
    ∙ xor_zero_r (x % 2) ∙ sym (bit_zero x)
hit (p ∷ ps) x (suc v) ap' lt =
    front_other p ps x (get_or ps v 0) (λ e. let k = ap' (suc v) 0 lt (omega arith) e in omega arith)
    ∙ hit ps (x / 2) v (λ i j hi hj e. let k = ap' (suc i) (suc j) (omega arith) (omega arith) e in omega arith) (le_of_suc-le-suc lt)
    ∙ sym (bit_suc x v)

record Found (at : List ℕ) (q : ℕ) : Type 0 where
  wire : ℕ
  below : wire < length at
  place : get_or at wire 0 ≡ q

find : (at : List ℕ) (q : ℕ) → Found at q ⊎ Misses at q
unfolding Misses
find [] q = inr (λ v lt. absurd (not-suc-le-zero lt))
find (p ∷ ps) q = go (cases_eq p q) (find ps q)
  where
    go : (p ≡ q) ⊎ (p ≢ q) → Found ps q ⊎ Misses ps q → Found (p ∷ ps) q ⊎ Misses (p ∷ ps) q
    go (inl e) r = inl (record { wire = 0; below = omega arith; place = e })
    go (inr n) (inl f) = inl (record { wire = suc f.wire; below = let k = f.below in omega arith; place = f.place })
    go (inr n) (inr m) = inr miss_all
      where
        miss_all : (v : ℕ) → v < length (p ∷ ps) → get_or (p ∷ ps) v 0 ≢ q
        miss_all zero lt = n
        miss_all (suc v) lt = m v (le_of_suc-le-suc lt)

pub places_exactly : PlacesExactly
places_exactly n at x q pl = (there (find at q), back)
  where
    within : (v : ℕ) → v < length at → v < n
    within v lt = subst (λ (k : ℕ). v < k) pl.one_each lt

    aparted : Apart at
    aparted v w hv hw e = pl.apart v w (within v hv) (within w hw) e

    there : Found at q ⊎ Misses at q → bit (wires_to_places at x) q ≡ 1 → PlaceOf n at x q
    there (inl f) b = record {
      wire = f.wire;
      below = within f.wire f.below;
      in_word = sym (hit at x f.wire aparted f.below) ∙ ap (bit (wires_to_places at x)) f.place ∙ b;
      place = f.place;
    }
    there (inr m) b = let z : ◌≡◌ {A = ℕ} 0 1 = sym (miss at x q m) ∙ b in absurd (omega arith)

    back : PlaceOf n at x q → bit (wires_to_places at x) q ≡ 1
    back r = ap (bit (wires_to_places at x)) (sym r.place) ∙ hit at x r.wire aparted (subst (λ (k : ℕ). r.wire < k) (sym pl.one_each) r.below) ∙ r.in_word

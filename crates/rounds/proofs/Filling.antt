-- Each place is taken at the end, and so the duals are the sets.
use Rattle.std.proofs.Common.{◌≡◌, ℕ, zero, suc, ◌+◌, ◌^◌, ◌<◌, ◌≤◌, ◌≢◌, ◌⊎◌, List, length, get_or, sym, ap, ◌∙◌, subst, inl, inr, arith, pow_pos}
use lib.Bits.{bit_xor, xor_lt}
use lib.Count.{ones, ones-le}
use lib.Pow.{pow-lt}
use Rattle.std.proofs.lemmas.Bool.{cases_eq, cases_lt}
use Rattle.std.proofs.lemmas.List.{ext_get_or}
use Rattle.parity.specs.Sets.{bit}
use Rattle.parity.specs.Pairing.{dot}
use Rattle.parity.proofs.Bits.{zero_one, bit_none, bits_tell_words_apart, bit_cases, bit_high, bit_pow_same, bit_pow_other, flip_cases}
use Rattle.parity.proofs.Counts.{ones_none, ones_flip}
use Rattle.parity.proofs.Pairing.{dot_pow}
use Rattle.rounds.specs.Duals.{Paired}
use Rattle.rounds.specs.Plans.{OwnPlaces}

-- x has the places of the first k sets
record Union (n : ℕ) (xs : List ℕ) (k x : ℕ) : Type 0 where
  below : x < 2 ^ n
  counted : ones x ≡ k
  from : (q : ℕ) → bit x q ≡ 1 → (w : ℕ) × (w < k) × (get_or xs w 0 ≡ 2 ^ q)

union : (n : ℕ) (xs : List ℕ) → OwnPlaces n xs → (k : ℕ) → k ≤ n → (x : ℕ) × Union n xs k x
union n xs p zero h = (0, record { below = pow_pos n; counted = ones_none; from = λ q o. zero_one (bit 0 q) (bit_none q) o })
union n xs p (suc k) h =
    let u = union n xs p k (omega arith) in
    let s = p.single k (omega arith) in
    let new : bit u.0 s.0 ≡ 0 = elim (bit_cases u.0 s.0) [
      | inl z ↦ z
      | inr o ↦ let f = u.1.from s.0 o in
          let lt : f.0 < k = f.1 in
          let e : f.0 ≡ k = p.apart f.0 k (omega arith) (omega arith) (f.2 ∙ sym s.2) in absurd (omega arith)
    ] in (
      bit_xor u.0 (2 ^ s.0),
      record {
        below = xor_lt n u.0 (2 ^ s.0) u.1.below (pow-lt s.1);
        counted = ones_flip s.0 u.0 new ∙ (let c : ones u.0 ≡ k = u.1.counted in let g : ones u.0 + 1 ≡ suc k = omega arith in g);
        from = λ q o. elim (flip_cases u.0 s.0 q o) [
          | inl e ↦ (k, omega arith, s.2 ∙ ap (λ (m : ℕ). 2 ^ m) (sym e))
          | inr b ↦ let f = u.1.from q b in let lt : f.0 < k = f.1 in (f.0, omega arith, f.2)
        ];
      },
    )

-- n sets at places of their own take all n places
pub all_taken : (n : ℕ) (xs : List ℕ) → OwnPlaces n xs → (q : ℕ) → q < n → (w : ℕ) × (w < n) × (get_or xs w 0 ≡ 2 ^ q)
all_taken n xs p q h =
    let u = union n xs p n (omega arith) in
    elim (bit_cases u.0 q) [
      | inr o ↦ u.1.from q o
      | inl z ↦
          let c : ones u.0 ≡ n = u.1.counted in
          let m : ones (bit_xor u.0 (2 ^ q)) ≡ ones u.0 + 1 = ones_flip q u.0 z in
          let b : ones (bit_xor u.0 (2 ^ q)) ≤ n = ones-le n (bit_xor u.0 (2 ^ q)) (xor_lt n u.0 (2 ^ q) u.1.below (pow-lt h)) in
          absurd (omega arith)
    ]

-- so a dual has just the place of its set
pub dual_same : (n : ℕ) (xs ys : List ℕ) → OwnPlaces n xs → Paired n xs ys → (v : ℕ) → v < n → get_or ys v 0 < 2 ^ n → get_or ys v 0 ≡ get_or xs v 0
dual_same n xs ys p a v hv low = bits_tell_words_apart (get_or xs v 0) (get_or ys v 0) (λ q. at q (cases_lt q n))
  where
    s : (r : ℕ) × (r < n) × (get_or xs v 0 ≡ 2 ^ r)
    s = p.single v hv

    has : (q w : ℕ) → get_or xs w 0 ≡ 2 ^ q → bit (get_or ys v 0) q ≡ dot (get_or xs w 0) (get_or ys v 0)
    has q w e = sym (dot_pow q (get_or ys v 0)) ∙ ap (λ (x : ℕ). dot x (get_or ys v 0)) (sym e)

    at : (q : ℕ) → (q < n) ⊎ (n ≤ q) → bit (get_or ys v 0) q ≡ bit (get_or xs v 0) q
    at q (inr g) =
        let low2 : 2 ^ n ≤ 2 ^ q = lib.Pow.pow_mono g in
        let lowx : get_or xs v 0 < 2 ^ n = subst (λ (x : ℕ). x < 2 ^ n) (sym s.2) (pow-lt s.1) in
        bit_high (get_or ys v 0) q (omega arith) ∙ sym (bit_high (get_or xs v 0) q (omega arith))
    at q (inl l) =
        let o = all_taken n xs p q l in
        elim (cases_eq o.0 v) [
          | inl e ↦
              let f : get_or xs v 0 ≡ 2 ^ q = ap (λ (m : ℕ). get_or xs m 0) (sym e) ∙ o.2 in
              has q v f ∙ a.own v hv ∙ sym (ap (λ (x : ℕ). bit x q) f ∙ bit_pow_same q)
          | inr ne ↦
              let r = s.0 in
              let d : q ≢ s.0 = λ e. ne (p.apart o.0 v o.1 hv (o.2 ∙ ap (λ (m : ℕ). 2 ^ m) e ∙ sym s.2)) in
              has q o.0 o.2 ∙ a.other o.0 v o.1 hv ne ∙ sym (ap (λ (x : ℕ). bit x q) s.2 ∙ bit_pow_other s.0 q d)
        ]

pub duals_same : (n : ℕ) (xs ys : List ℕ) → length xs ≡ n → length ys ≡ n → OwnPlaces n xs → Paired n xs ys → ((w : ℕ) → get_or ys w 0 < 2 ^ n) → ys ≡ xs
duals_same n xs ys lx ly p a low =
    ext_get_or 0 ys xs (ly ∙ sym lx) (λ i h. dual_same n xs ys p a i (subst (λ (m : ℕ). i < m) ly h) (low i))

-- A search among the couplers of a machine.
use Rattle.std.proofs.Common.{◌≡◌, ◌<◌, ◌≤◌, ℕ, Bool, List, length, get_or, map, take, drop, drop-cons, refl, [], ◌∷◌, zero, suc, subst, ap, ◌∙◌, ◌+◌, MatchOption, None, Some, Option, arith, add-one}
use Rattle.std.specs.List.{AllWithin, HoldsAt, enumerate_from}
use Rattle.std.proofs.lemmas.List.FromFn.{length-enumerate_from, get_or-enumerate_from}
use Rattle.chip.specs.Layout.{Layout}
use Rattle.machine.specs.OnCoupler.{OnCoupler, OnCouplers}
use Rattle.parity.specs.Words.{cnot, gate_of, replay}
use Rattle.replaying.specs.Gates.{ServesBetween}

-- the first coupler that lets the gate through, of them all, is one that does, and where there is none the gate is on no coupler
pub first_between : (l : Layout) (service : List Bool) (a b m : ℕ) (r : Option ℕ) → m ≡ length l.couplers
    → MatchOption r ((k : ℕ) → 0 ≤ k → k < m → ServesBetween l service a b k → ⊥)
    (λ i. (0 ≤ i) × (i < m) × ServesBetween l service a b i × ((k : ℕ) → 0 ≤ k → k < i → ServesBetween l service a b k → ⊥))
    → MatchOption r (OnCoupler l service (a, b) → ⊥) (λ k. ServesBetween l service a b k)
first_between l service a b m None e none = λ o.
    let there = o.joins.there in
    none o.coupler (omega arith) (omega arith) (record { joins = o.joins; serves = o.serves })
first_between l service a b m (Some k) e (low, high, there, none) = there

-- one gate more on a coupler
pub one_more : (l : Layout) (service : List Bool) (es : List ℕ) (i : ℕ) → i < length es → OnCouplers l service (map gate_of (take i es))
    → OnCoupler l service (gate_of (get_or es i 0)) → OnCouplers l service (map gate_of (take (i + 1) es))
one_more l service es i h on o = rw add-one (by es i h on o)
  where
    by : (es : List ℕ) (i : ℕ) → i < length es → OnCouplers l service (map gate_of (take i es))
        → OnCoupler l service (gate_of (get_or es i 0)) → OnCouplers l service (map gate_of (take (suc i) es))
    by [] i h on o = absurd (omega arith)
    by (e ∷ es) zero h on o = (o, tt)
    by (e ∷ es) (suc i) h on o = (on.0, by es i (omega arith) on.1 o)

-- one gate replayed
pub one_replayed : (es ws : List ℕ) (i : ℕ) → i < length es
    → replay (map gate_of (drop i es)) ws ≡ replay (map gate_of (drop (i + 1) es)) (cnot (gate_of (get_or es i 0)) ws)
one_replayed es ws i h = rw (add-one, drop-cons es i 0) refl

numbered : (ws : List ℕ) (q : ℕ) → q < length ws → get_or (enumerate_from 0 ws) q (0, 0) ≡ (q, get_or ws q 0)
numbered ws q h = let e : 0 + q ≡ q = omega arith in get_or-enumerate_from 0 ws q (0, 0) h ∙ ap (λ (n : ℕ). (n, get_or ws q 0)) e

-- of numbered items, the first that is not as asked, told by its number
pub first_numbered : (ws : List ℕ) (r : Option ℕ) (P : ℕ → ℕ → Type 0)
    → MatchOption r (AllWithin (λ (e : ℕ × ℕ). P e.0 e.1) (enumerate_from 0 ws) 0 (length (enumerate_from 0 ws)))
    (λ i. (i < length (enumerate_from 0 ws)) × HoldsAt (λ (e : ℕ × ℕ). P e.0 e.1 → ⊥) (enumerate_from 0 ws) i × AllWithin (λ (e : ℕ × ℕ). P e.0 e.1) (enumerate_from 0 ws) 0 i)
    → MatchOption r ((q : ℕ) → q < length ws → P q (get_or ws q 0)) (λ q. (q < length ws) × (P q (get_or ws q 0) → ⊥) × ((p : ℕ) → p < q → P p (get_or ws p 0)))
first_numbered ws None P all = λ q h.
    let len = length-enumerate_from 0 ws in
    subst (λ (e : ℕ × ℕ). P e.0 e.1) (numbered ws q h) (all q (0, 0) (omega arith) (omega arith))
first_numbered ws (Some q) P (low, holds, before) =
    let len = length-enumerate_from 0 ws in
    let h : q < length ws = omega arith in (
      h,
      subst (λ (e : ℕ × ℕ). P e.0 e.1 → ⊥) (numbered ws q h) (holds (0, 0)),
      λ p less.
          let there : p < length ws = omega arith in
          subst (λ (e : ℕ × ℕ). P e.0 e.1) (numbered ws p there) (before p (0, 0) (omega arith) less),
    )

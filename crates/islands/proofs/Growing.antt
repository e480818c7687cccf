-- A tree order while it grows: n places are listed, and the neighbours of the first `head` of them are all seen.
use Rattle.std.proofs.Common.{◌≡◌, ℕ, zero, suc, ◌+◌, ◌^◌, ◌<◌, ◌≤◌, ◌≢◌, ◌⊎◌, List, [], ◌∷◌, ◌++◌, length, get_or, set, refl, sym, ap, ◌∙◌, subst, inl, inr, not-suc-le-zero, zero-lt-suc, arith}
use lib.Bits.{bit_and, bit_xor, xor_lt}
use lib.Pow.{pow-lt}
use lib.Count.{ones, ones-le}
use lib.ListN.{get_or-append}
use lib.Seq.{get_or-append_seam}
use Rattle.std.proofs.lemmas.List.{get_or-set_same, get_or-set_other}
use Rattle.std.proofs.lemmas.Bool.{cases_lt}
use Rattle.parity.specs.Sets.{bit}
use Rattle.parity.proofs.Bits.{zero_one, bit_pow_same, place_is, place_below, flip_other, flip_on, flip_cases}
use Rattle.parity.proofs.Masks.{and_parts}
use Rattle.parity.proofs.Counts.{ones_flip, ones_pow, ones_within}
use Rattle.islands.specs.Trees.{Child, TreeOrder, Within}
use Rattle.islands.proofs.Reached.{reach_closed}

pub record Growing (adj : List ℕ) (live root : ℕ) (order parent : List ℕ) (seen n head : ℕ) : Type 0 where
  pub some : 0 < n
  pub first : get_or order 0 0 ≡ root
  pub counted : ones seen ≡ n
  pub low : seen < 2 ^ length adj
  pub listed : (i : ℕ) → i < n → bit seen (get_or order i 0) ≡ 1
  pub within : Within order n seen
  pub children : (i : ℕ) → 0 < i → i < n → Child adj live order parent i (get_or order i 0)
  pub once : (i j : ℕ) → i < n → j < n → get_or order i 0 ≡ get_or order j 0 → i ≡ j
  pub closed : (i r : ℕ) → i < head → bit (get_or adj (get_or order i 0) 0) r ≡ 1 → bit live r ≡ 1 → bit seen r ≡ 1

pub growing_below : {adj : List ℕ} {live root : ℕ} {order parent : List ℕ} {seen n head : ℕ} → Growing adj live root order parent seen n head
    → (i : ℕ) → i < n → get_or order i 0 < length adj
growing_below {adj} {order = order} {seen = seen} g i l = place_below (length adj) seen (get_or order i 0) g.low (g.listed i l)

-- ---- the start

one_low : (n : ℕ) → n < 1 → n ≡ 0
one_low n h = omega arith

pub growing_start : (adj : List ℕ) (live root : ℕ) (parent : List ℕ) (seen : ℕ) → seen ≡ 2 ^ root → root < length adj
    → Growing adj live root (root ∷ []) parent seen 1 0
growing_start adj live root parent seen e lt =
    record {
      some = omega arith;
      first = refl;
      counted = ap ones e ∙ ones_pow root;
      low = subst (λ (x : ℕ). x < 2 ^ length adj) (sym e) (pow-lt lt);
      listed = λ i h. ap (λ (m : ℕ). bit seen (get_or (root ∷ []) m 0)) (one_low i h) ∙ ap (λ (x : ℕ). bit x root) e ∙ bit_pow_same root;
      within = λ q o. (0, omega arith, place_is root q (ap (λ (x : ℕ). bit x q) (sym e) ∙ o));
      children = λ i i0 h. absurd (omega arith);
      once = λ i j hi hj _. one_low i hi ∙ sym (one_low j hj);
      closed = λ i r h. absurd (not-suc-le-zero h);
    }

-- ---- a place whose neighbours are all seen

pub growing_skip : {adj : List ℕ} {live root : ℕ} {order parent : List ℕ} {seen n head : ℕ} → Growing adj live root order parent seen n head
    → ((r : ℕ) → bit (get_or adj (get_or order head 0) 0) r ≡ 1 → bit live r ≡ 1 → bit seen r ≡ 1)
    → Growing adj live root order parent seen n (head + 1)
growing_skip {adj} {live} {root} {order} {parent} {seen} {n} {head} g all =
    record {
      some = g.some;
      first = g.first;
      counted = g.counted;
      low = g.low;
      listed = g.listed;
      within = g.within;
      children = g.children;
      once = g.once;
      closed = λ i r h. elim (cases_lt i head) [
        | inl l ↦ g.closed i r l
        | inr k ↦ let e : i ≡ head = omega arith in
            subst (λ (m : ℕ). bit (get_or adj (get_or order m 0) 0) r ≡ 1 → bit live r ≡ 1 → bit seen r ≡ 1) (sym e) (all r)
      ];
    }

-- ---- one place more

-- r is a live neighbour of u that is not seen
pub record Next (adj : List ℕ) (live seen u r : ℕ) : Type 0 where
  pub edge : bit (get_or adj u 0) r ≡ 1
  pub alive : bit live r ≡ 1
  pub unseen : bit seen r ≡ 0
  pub below : r < length adj

pub next_place : (adj : List ℕ) (live seen u r : ℕ) → live < 2 ^ length adj
    → (bit (bit_and (get_or adj u 0) live) r ≡ 1) × (bit seen r ≡ 0) → Next adj live seen u r
next_place adj live seen u r low got =
    let two = and_parts (get_or adj u 0) live r got.0 in
    record { edge = two.0; alive = two.1; unseen = got.1; below = place_below (length adj) live r low two.1 }

-- there is room for it
pub growing_room : {adj : List ℕ} {live root : ℕ} {order parent : List ℕ} {seen n head : ℕ} → Growing adj live root order parent seen n head
    → {u r : ℕ} → Next adj live seen u r → n < length adj
growing_room {adj} {seen = seen} {n = n} g {r = r} next =
    let f : ones (bit_xor seen (2 ^ r)) ≡ ones seen + 1 = ones_flip r seen next.unseen in
    let b : ones (bit_xor seen (2 ^ r)) ≤ length adj = ones-le (length adj) (bit_xor seen (2 ^ r)) (xor_lt (length adj) seen (2 ^ r) g.low (pow-lt next.below)) in
    let c : ones seen ≡ n = g.counted in
    omega arith

module _ {adj : List ℕ} {live root : ℕ} {order parent : List ℕ} {seen n head : ℕ} (g : Growing adj live root order parent seen n head)
    {r : ℕ} (next : Next adj live seen (get_or order head 0) r) (hn : head < n) (ho : length order ≡ n) (hp : r < length parent) where
  old : (i : ℕ) → i < n → get_or (order ++ r ∷ []) i 0 ≡ get_or order i 0
  old i h = get_or-append order (r ∷ []) 0 i (omega arith)

  new : get_or (order ++ r ∷ []) n 0 ≡ r
  new = ap (λ (m : ℕ). get_or (order ++ r ∷ []) m 0) (sym ho) ∙ get_or-append_seam order r [] 0

  other : (i : ℕ) → i < n → get_or order i 0 ≢ r
  other i h e = zero_one (bit seen r) next.unseen (ap (bit seen) (sym e) ∙ g.listed i h)

  kept : (q : ℕ) → bit seen q ≡ 1 → bit (bit_xor seen (2 ^ r)) q ≡ 1
  kept q o = flip_other seen r q (λ e. zero_one (bit seen r) next.unseen (ap (bit seen) (sym e) ∙ o)) ∙ o

  up_same : (u : ℕ) → u ≢ r → get_or (set parent r (get_or order head 0)) u 0 ≡ get_or parent u 0
  up_same u ne = get_or-set_other parent r u (get_or order head 0) 0 ne

  up_new : get_or (set parent r (get_or order head 0)) r 0 ≡ get_or order head 0
  up_new = get_or-set_same parent r (get_or order head 0) 0 hp

  split : (i : ℕ) → i < n + 1 → (i < n) ⊎ (i ≡ n)
  split i h = elim (cases_lt i n) [ inl l ↦ inl l | inr k ↦ inr (omega arith) ]

  child_old : (i : ℕ) → i < n → (u : ℕ) → u ≢ r → Child adj live order parent i u
      → Child adj live (order ++ r ∷ []) (set parent r (get_or order head 0)) i u
  child_old i h u ne c =
      record {
        up = (c.up.0, c.up.1, (let l : c.up.0 < n = (let k : c.up.0 < i = c.up.1 in omega arith) in old c.up.0 l) ∙ c.up.2 ∙ sym (up_same u ne));
        edge = ap (λ (p : ℕ). bit (get_or adj p 0) u) (up_same u ne) ∙ c.edge;
        alive = c.alive;
      }

  child_new : Child adj live (order ++ r ∷ []) (set parent r (get_or order head 0)) n r
  child_new =
      record {
        up = (head, hn, old head hn ∙ sym up_new);
        edge = ap (λ (p : ℕ). bit (get_or adj p 0) r) up_new ∙ next.edge;
        alive = next.alive;
      }

  pub growing_add : Growing adj live root (order ++ r ∷ []) (set parent r (get_or order head 0)) (bit_xor seen (2 ^ r)) (n + 1) head
  growing_add =
      record {
        some = omega arith;
        first = old 0 g.some ∙ g.first;
        counted = ones_flip r seen next.unseen ∙ ap (λ (m : ℕ). m + 1) g.counted;
        low = xor_lt (length adj) seen (2 ^ r) g.low (pow-lt next.below);
        listed = λ i h. elim (split i h) [
          | inl l ↦ ap (bit (bit_xor seen (2 ^ r))) (old i l) ∙ kept (get_or order i 0) (g.listed i l)
          | inr e ↦ ap (λ (m : ℕ). bit (bit_xor seen (2 ^ r)) (get_or (order ++ r ∷ []) m 0)) e ∙ ap (bit (bit_xor seen (2 ^ r))) new ∙ flip_on seen r next.unseen
        ];
        within = λ q o. elim (flip_cases seen r q o) [
          | inl e ↦ (n, omega arith, new ∙ sym e)
          | inr k ↦ let w = g.within q k in
              let l : w.0 < n = w.1 in (w.0, omega arith, old w.0 l ∙ w.2)
        ];
        children = λ i i0 h. elim (split i h) [
          | inl l ↦ subst (Child adj live (order ++ r ∷ []) (set parent r (get_or order head 0)) i) (sym (old i l))
              (child_old i l (get_or order i 0) (other i l) (g.children i i0 l))
          | inr e ↦ subst (λ (m : ℕ). Child adj live (order ++ r ∷ []) (set parent r (get_or order head 0)) m (get_or (order ++ r ∷ []) m 0)) (sym e)
              (subst (Child adj live (order ++ r ∷ []) (set parent r (get_or order head 0)) n) (sym new) child_new)
        ];
        once = λ i j hi hj e. both i j (split i hi) (split j hj) e;
        closed = λ i q h a b.
            let l : i < n = omega arith in
            kept q (g.closed i q h (ap (λ (p : ℕ). bit (get_or adj p 0) q) (sym (old i l)) ∙ a) b);
      }
    where
      both : (i j : ℕ) → (i < n) ⊎ (i ≡ n) → (j < n) ⊎ (j ≡ n) → get_or (order ++ r ∷ []) i 0 ≡ get_or (order ++ r ∷ []) j 0 → i ≡ j
      both i j (inl a) (inl b) e = g.once i j a b (sym (old i a) ∙ e ∙ old j b)
      both i j (inl a) (inr b) e = absurd (other i a (sym (old i a) ∙ e ∙ ap (λ (m : ℕ). get_or (order ++ r ∷ []) m 0) b ∙ new))
      both i j (inr a) (inl b) e = absurd (other j b (sym (old j b) ∙ sym e ∙ ap (λ (m : ℕ). get_or (order ++ r ∷ []) m 0) a ∙ new))
      both i j (inr a) (inr b) e = a ∙ sym b

-- ---- the end

pub growing_done : {adj : List ℕ} {live root : ℕ} {order parent : List ℕ} {seen n head : ℕ} → Growing adj live root order parent seen n head
    → n ≤ head → TreeOrder adj live root order parent n
growing_done {adj} {live} {root} {order} {parent} {seen} {n} {head} g h =
    record {
      some = g.some;
      first = g.first;
      children = g.children;
      once = g.once;
      below = growing_below g;
      complete = λ q p. g.within q
          (reach_closed adj live root seen
          (ap (bit seen) (sym g.first) ∙ g.listed 0 g.some)
          (λ a b o x y. let w = g.within a o in
          let l : w.0 < head = (let k : w.0 < n = w.1 in omega arith) in
          g.closed w.0 b l (ap (λ (m : ℕ). bit (get_or adj m 0) b) w.2 ∙ x) y)
          p);
    }

-- with a live root all listed places are live
pub growing_few : {adj : List ℕ} {live root : ℕ} {order parent : List ℕ} {seen n head : ℕ} → Growing adj live root order parent seen n head
    → bit live root ≡ 1 → n ≤ ones live
growing_few {adj} {live} {root} {order} {parent} {seen} {n} {head} g lr =
    subst (λ (m : ℕ). m ≤ ones live) g.counted
    (ones_within (length adj) seen live g.low (λ q o. let w = g.within q o in ap (bit live) (sym w.2) ∙ at w.0 w.1))
  where
    at : (i : ℕ) → i < n → bit live (get_or order i 0) ≡ 1
    at zero h = ap (bit live) g.first ∙ lr
    at (suc i) h = (g.children (suc i) (zero-lt-suc i) h).alive

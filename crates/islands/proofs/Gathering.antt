-- A set gathered along a tree, from the last place of the order up.
use Rattle.std.proofs.Common.{◌≡◌, ℕ, ◌+◌, ◌-◌, ◌*◌, ◌^◌, ◌<◌, ◌≤◌, ◌≢◌, ◌⊎◌, List, [], ◌∷◌, ◌++◌, length, get_or, take, drop, set, sym, refl, ap, ◌∙◌, subst, inl, inr, arith}
use lib.Bits.{bit_xor}
use Rattle.std.proofs.Math.Seq.{take-append_seam, get_or-append_seam}
use Rattle.std.proofs.lemmas.Grind.{get_or_after_one}
use Rattle.std.proofs.lemmas.List.{take-set, take-set-le, take-take, drop-set-lt, get_or-take}
use Rattle.std.proofs.lemmas.Bool.{cases_eq}
use Rattle.parity.specs.Words.{Gate, entry}
use Rattle.parity.specs.Sets.{bit}
use Rattle.parity.specs.Gates.{act, acts, TwoPlaces, Each, Spares}
use Rattle.parity.specs.Entries.{gates_in}
use Rattle.parity.proofs.Bits.{zero_one, bit_some, only_place, flip_other, flip_off, flip_on}
use Rattle.parity.proofs.Each.{each_map}
use Rattle.parity.proofs.Gates.{act_set, acts_spare}
use Rattle.parity.proofs.Entries.{gates_in_none, gates_in_set, gates_in_two, front_kept, back_kept, acts_more, each_more}
use Rattle.islands.specs.Trees.{ParentsFirst, PlacesBelow, Within}
use Rattle.islands.specs.Moves.{Between, AlongTree, Settled}

-- ---- one place cleared through its neighbour

module _ (u p x k : ℕ) (out : List ℕ) where
  -- u is not in the set: no gate
  pub settled_none : bit x u ≡ 0 → Settled u p x x out out k k
  settled_none z =
      let none = gates_in_none out k in
      record {
        wrote = record { forward = omega arith; few = omega arith; front = refl; back = refl };
        acted = ap (λ (gs : List Gate). acts gs x) none;
        between = subst (Each (Between u p)) (sym none) tt;
        spares_the_others = λ q _ _. subst (Each (Spares q)) (sym none) tt;
        cleared = z;
        others_unchanged = λ q _ _. refl;
        not_emptied = λ h. h;
      }

  -- both are in the set: u is flipped by p
  pub settled_one : u ≢ p → p < 64 → k < length out → bit x u ≡ 1 → bit x p ≡ 1
      → Settled u p x (bit_xor x (2 ^ u)) out (set out k (entry (u, p))) k (k + 1)
  settled_one ne bp l hu hp =
      let e = entry (u, p) in
      let one : gates_in (set out k e) k (k + 1) ≡ (u, p) ∷ [] = gates_in_set out k e (u, p) l bp refl in
      record {
        wrote = record {
          forward = omega arith;
          few = omega arith;
          front = take-set out k e;
          back = drop-set-lt (k + 1) out k e (omega arith);
        };
        acted = ap (λ (gs : List Gate). acts gs x) one ∙ act_set u p x hp;
        between = subst (Each (Between u p)) (sym one) (inl refl, tt);
        spares_the_others = λ q a _. subst (Each (Spares q)) (sym one) ((λ s. a (sym s)), tt);
        cleared = flip_off x u hu;
        others_unchanged = λ q a _. flip_other x u q a;
        not_emptied = λ _. bit_some (bit_xor x (2 ^ u)) p (flip_other x u p (λ s. ne (sym s)) ∙ hp);
      }

  -- u alone is in the set: p is flipped by u first
  pub settled_two : u ≢ p → u < 64 → p < 64 → k + 1 < length out → bit x u ≡ 1 → bit x p ≡ 0
      → Settled u p x (bit_xor (bit_xor x (2 ^ p)) (2 ^ u)) out (set (set out k (entry (p, u))) (k + 1) (entry (u, p))) k (k + 2)
  settled_two ne bu bp l hu hp =
      let e = entry (p, u) in
      let f = entry (u, p) in
      let y = bit_xor x (2 ^ p) in
      let yp : bit y p ≡ 1 = flip_on x p hp in
      let yu : bit y u ≡ 1 = flip_other x p u ne ∙ hu in
      let two : gates_in (set (set out k e) (k + 1) f) k (k + 2) ≡ (p, u) ∷ (u, p) ∷ [] =
      gates_in_two out k e f (p, u) (u, p) l bu bp refl refl in
      record {
        wrote = record {
          forward = omega arith;
          few = omega arith;
          front = take-set-le k (set out k e) (k + 1) f (omega arith) ∙ take-set out k e;
          back = drop-set-lt (k + 2) (set out k e) (k + 1) f (omega arith) ∙ drop-set-lt (k + 2) out k e (omega arith);
        };
        acted = ap (λ (gs : List Gate). acts gs x) two ∙ ap (act (u, p)) (act_set p u x hu) ∙ act_set u p y yp;
        between = subst (Each (Between u p)) (sym two) (inr refl, (inl refl, tt));
        spares_the_others = λ q a b. subst (Each (Spares q)) (sym two) ((λ s. zero_one (bit x p) hp (ap (bit x) s ∙ b)), ((λ s. a (sym s)), tt));
        cleared = flip_off y u yu;
        others_unchanged = λ q a b. flip_other y u q a ∙ flip_other x p q b;
        not_emptied = λ _. bit_some (bit_xor y (2 ^ u)) p (flip_other y u p (λ s. ne (sym s)) ∙ yp);
      }

-- ---- gates along a tree

-- the last place is cleared through one before it
pub within_less : (order : List ℕ) (i j u p x y : ℕ) → 0 < i → get_or order i 0 ≡ u → j < i → get_or order j 0 ≡ p
    → bit y u ≡ 0 → ((q : ℕ) → q ≢ u → q ≢ p → bit y q ≡ bit x q)
    → Within order (i + 1) x → Within order (i - 1 + 1) y
within_less order i j u p x y i0 iu ji jp gone others w q o = go (cases_eq q u) (cases_eq q p)
  where
    go : (q ≡ u) ⊎ (q ≡ u → ⊥) → (q ≡ p) ⊎ (q ≡ p → ⊥) → (m : ℕ) × (m < i - 1 + 1) × (get_or order m 0 ≡ q)
    go (inl e) k = zero_one (bit y q) (ap (bit y) e ∙ gone) o
    go (inr n) (inl e) = (j, omega arith, jp ∙ sym e)
    go (inr n) (inr m) =
        let was = w q (sym (others q n m) ∙ o) in
        let ne : was.0 ≢ i = λ e. n (sym was.2 ∙ ap (λ (a : ℕ). get_or order a 0) e ∙ iu) in
        let lt : was.0 < i + 1 = was.1 in
        (was.0, omega arith, was.2)

-- a parent is a place
pub parent_below : (order parent : List ℕ) (n i : ℕ) → ParentsFirst order parent → PlacesBelow order n → 0 < i → i < length order
    → get_or parent (get_or order i 0) 0 < n
parent_below order parent n i tree below i0 h =
    let up = (tree i i0 h).1 in
    let lt : up.0 < i = up.1 in
    subst (λ (m : ℕ). m < n) up.2 (below up.0 (omega arith))

-- gates along the tree are between two places
pub along_tree_two_places : (order parent : List ℕ) (n : ℕ) → ParentsFirst order parent → PlacesBelow order n
    → (g : Gate) → AlongTree order parent g → TwoPlaces n g
along_tree_two_places order parent n tree below g l = go l.3
  where
    child : get_or order l.0 0 < n
    child = below l.0 l.2

    its_parent : get_or parent (get_or order l.0 0) 0 < n
    its_parent = parent_below order parent n l.0 tree below l.1 l.2

    go : Between (get_or order l.0 0) (get_or parent (get_or order l.0 0) 0) g → TwoPlaces n g
    go (inl e) = subst (TwoPlaces n) (sym e) (record { apart = λ x. (tree l.0 l.1 l.2).0 (sym x); from = child; to = its_parent })
    go (inr e) = subst (TwoPlaces n) (sym e) (record { apart = (tree l.0 l.1 l.2).0; from = its_parent; to = child })

-- ---- the loop: k gates are written, and x is left, with places among the first i + 1 of the order

-- q is in no place of the order but the first
abbrev pub AtMostRoot : List ℕ → ℕ → Type 0
AtMostRoot order q = (i : ℕ) → 0 < i → i < length order → get_or order i 0 ≢ q

pub record Gathering (order parent : List ℕ) (word : ℕ) (before out : List ℕ) (at k i x : ℕ) : Type 0 where
  pub inside : i < length order
  pub forward : at ≤ k
  pub few : k + 2 * i ≤ at + 2 * (length order - 1)
  pub front : take at out ≡ take at before
  pub back : drop k out ≡ drop k before
  pub acted : acts (gates_in out at k) word ≡ x
  pub some : x ≢ 0
  pub within : Within order (i + 1) x
  pub along_tree : Each (AlongTree order parent) (gates_in out at k)
  pub spares : (q : ℕ) → AtMostRoot order q → bit word q ≡ 1 → Each (Spares q) (gates_in out at k)

pub gathering_start : (order parent : List ℕ) (word : ℕ) (out : List ℕ) (at : ℕ) → 0 < length order → word ≢ 0
    → Within order (length order) word → Gathering order parent word out out at at (length order - 1) word
gathering_start order parent word out at some ne w =
    let n : length order - 1 + 1 ≡ length order = omega arith in
    let none = gates_in_none out at in
    record {
      inside = omega arith;
      forward = omega arith;
      few = omega arith;
      front = refl;
      back = refl;
      acted = ap (λ (gs : List Gate). acts gs word) none;
      some = ne;
      within = subst (λ (m : ℕ). Within order m word) (sym n) w;
      along_tree = subst (Each (AlongTree order parent)) (sym none) tt;
      spares = λ q _ _. subst (Each (Spares q)) (sym none) tt;
    }

-- one place cleared through its parent
pub gathering_step : {order parent : List ℕ} {word : ℕ} {before out : List ℕ} {at k i x : ℕ} → Gathering order parent word before out at k i x
    → (out' : List ℕ) (j y : ℕ) → 0 < i → k ≤ length out → ParentsFirst order parent
    → Settled (get_or order i 0) (get_or parent (get_or order i 0) 0) x y out out' k j
    → Gathering order parent word before out' at j (i - 1) y
gathering_step {order} {parent} {word} {before} {out} {at} {k} {i} {x} g out' j y i0 kl tree s =
    let u = get_or order i 0 in
    let p = get_or parent u 0 in
    let up = (tree i i0 g.inside).1 in
    let kj : k ≤ j = s.wrote.forward in
    let jf : j ≤ k + 2 = s.wrote.few in
    let ak : at ≤ k = g.forward in
    let gf : k + 2 * i ≤ at + 2 * (length order - 1) = g.few in
    let gi : i < length order = g.inside in
    record {
      inside = omega arith;
      forward = omega arith;
      few = omega arith;
      front = front_kept out out' at k ak s.wrote.front ∙ g.front;
      back = s.wrote.back ∙ back_kept before out k j kj g.back;
      acted = acts_more out out' at k j word x y ak kj kl s.wrote.front g.acted s.acted;
      some = s.not_emptied g.some;
      within = within_less order i up.0 u p x y i0 refl up.1 up.2 s.cleared s.others_unchanged g.within;
      along_tree = each_more (AlongTree order parent) out out' at k j ak kj kl s.wrote.front g.along_tree
          (each_map (Between u p) (AlongTree order parent) (λ b l. (i, i0, g.inside, l)) (gates_in out' k j) s.between);
      spares = λ q off b.
          let was = g.spares q off b in
          each_more (Spares q) out out' at k j ak kj kl s.wrote.front was
          (s.spares_the_others q (λ e. off i i0 g.inside (sym e))
          (ap (λ (z : ℕ). bit z q) (sym g.acted) ∙ acts_spare q (gates_in out at k) word was ∙ b));
    }

-- the last of the places that are still to be cleared, and those before it
pub last_left : (order front : List ℕ) (u : ℕ) → front ++ u ∷ [] ≡ take (length front + 1) (drop 1 order)
    → (front ≡ take (length front) (drop 1 order)) × (get_or order (length front + 1) 0 ≡ u)
last_left order front u e =
    let k = length front in
    let rest = drop 1 order in (
      sym (take-append_seam front (u ∷ [])) ∙ ap (take k) e ∙ take-take k (k + 1) rest (omega arith),
      ap (λ (m : ℕ). get_or order m 0) (omega arith) ∙ sym (get_or_after_one order k 0) ∙ sym (get_or-take (k + 1) rest k 0 (omega arith))
          ∙ ap (λ l. get_or l k 0) (sym e) ∙ get_or-append_seam front u [] 0,
    )

-- at the root
pub gathering_done : {order parent : List ℕ} {word : ℕ} {before out : List ℕ} {at k i x : ℕ} → Gathering order parent word before out at k i x
    → i ≡ 0 → acts (gates_in out at k) word ≡ 2 ^ get_or order 0 0
gathering_done {order} {i = i} {x = x} g z =
    g.acted ∙ only_place x (get_or order 0 0) g.some
    (λ q b. let w = g.within q b in
    let lt : w.0 < i + 1 = w.1 in
    let first : w.0 ≡ 0 = omega arith in
    ap (λ (m : ℕ). get_or order m 0) (sym first) ∙ w.2)

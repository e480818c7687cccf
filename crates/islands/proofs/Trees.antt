-- What a tree order gives.
use Rattle.std.proofs.Common.{◌≡◌, ℕ, zero, suc, ◌-◌, ◌^◌, ◌<◌, ◌≤◌, ◌≢◌, List, length, get_or, sym, ap, ◌∙◌, subst, inl, inr, le_refl, not-suc-le-zero, zero-lt-suc, arith}
use lib.Bits.{bit_xor}
use Rattle.parity.specs.Words.{Gate}
use Rattle.parity.specs.Sets.{bit}
use Rattle.parity.proofs.Bits.{flip_other}
use Rattle.islands.specs.Graphs.{Reach, here, there, OnEdge, OnIsland}
use Rattle.islands.specs.Trees.{TreeOrder, ParentsFirst, PlacesBelow, Within}
use Rattle.islands.specs.Moves.{Between, AlongTree}
use Rattle.islands.specs.Laws.{LastPlaceCanGo}

module _ {adj : List ℕ} {live root : ℕ} {order parent : List ℕ} {n : ℕ} (t : TreeOrder adj live root order parent n) where
  -- ---- what is reached

  -- the first m places are reached from the root inside any set that has them
  front_reached : (m keep : ℕ) → m ≤ n → ((i : ℕ) → i < m → bit keep (get_or order i 0) ≡ 1)
      → (fuel i : ℕ) → i < fuel → i < m → Reach adj keep root (get_or order i 0)
  front_reached m keep h all zero i f l = absurd (not-suc-le-zero f)
  front_reached m keep h all (suc fuel) zero f l = subst (Reach adj keep root) (sym t.first) here
  front_reached m keep h all (suc fuel) (suc i) f l =
      let c = t.children (suc i) (zero-lt-suc i) (omega arith) in
      let lt : c.up.0 < suc i = c.up.1 in
      let p = subst (Reach adj keep root) c.up.2 (front_reached m keep h all fuel c.up.0 (omega arith) (omega arith)) in
      there p c.edge (all (suc i) l)

  all_live : bit live root ≡ 1 → (i : ℕ) → i < n → bit live (get_or order i 0) ≡ 1
  all_live lr zero h = ap (bit live) t.first ∙ lr
  all_live lr (suc i) h = (t.children (suc i) (zero-lt-suc i) h).alive

  pub tree_reached : bit live root ≡ 1 → (i : ℕ) → i < n → Reach adj live root (get_or order i 0)
  tree_reached lr i h = front_reached n live (le_refl n) (all_live lr) (suc i) i (omega arith) h

  pub last_can_go : bit live root ≡ 1 → (q : ℕ) → q ≢ get_or order (n - 1) 0 → Reach adj live root q
      → Reach adj (bit_xor live (2 ^ get_or order (n - 1) 0)) root q
  last_can_go lr q ne p =
      let w = t.complete q p in
      let lt : w.0 < n = w.1 in
      let nl : w.0 ≢ n - 1 = λ e. ne (sym w.2 ∙ ap (λ (m : ℕ). get_or order m 0) e) in
      let i : w.0 < n - 1 = omega arith in
      subst (Reach adj (bit_xor live (2 ^ get_or order (n - 1) 0)) root) w.2
      (front_reached (n - 1) (bit_xor live (2 ^ get_or order (n - 1) 0)) (omega arith)
      (λ k h. flip_other live (get_or order (n - 1) 0) (get_or order k 0)
      (λ e. (let j : k ≡ n - 1 = t.once k (n - 1) (omega arith) (omega arith) e in omega arith))
      ∙ all_live lr k (omega arith))
      n w.0 lt i)

  -- ---- the whole order

  module _ (h : length order ≡ n) where
    listed : (i : ℕ) → i < length order → i < n
    listed i l = subst (λ (m : ℕ). i < m) h l

    pub order_below : PlacesBelow order (length adj)
    order_below i l = t.below i (listed i l)

    pub order_within : (word : ℕ) → ((q : ℕ) → bit word q ≡ 1 → Reach adj live root q) → Within order (length order) word
    order_within word all q o = let w = t.complete q (all q o) in (w.0, subst (λ (m : ℕ). w.0 < m) (sym h) w.1, w.2)

    pub order_once : (i : ℕ) → 0 < i → i < length order → get_or order i 0 ≢ root
    order_once i i0 l z = let b : i ≡ 0 = t.once i 0 (listed i l) t.some (z ∙ sym t.first) in omega arith

    pub parents_first : ParentsFirst order parent
    parents_first i i0 l =
        let c = t.children i i0 (listed i l) in
        let ju : c.up.0 < i = c.up.1 in
        let lt : i < n = listed i l in (
          λ k. (let j : c.up.0 ≡ i = t.once c.up.0 i (omega arith) lt (c.up.2 ∙ sym k) in omega arith),
          (c.up.0, ju, c.up.2),
        )

    -- ---- gates along the tree

    pub along_tree_on_edge : (g : Gate) → AlongTree order parent g → OnEdge adj g
    along_tree_on_edge g l = go l.3
      where
        along : bit (get_or adj (get_or parent (get_or order l.0 0) 0) 0) (get_or order l.0 0) ≡ 1
        along = (t.children l.0 l.1 (listed l.0 l.2)).edge

        go : Between (get_or order l.0 0) (get_or parent (get_or order l.0 0) 0) g → OnEdge adj g
        go (inl e) = subst (OnEdge adj) (sym e) (inr along)
        go (inr e) = subst (OnEdge adj) (sym e) (inl along)

    pub along_tree_on_island : bit live root ≡ 1 → (g : Gate) → AlongTree order parent g → OnIsland adj live root g
    along_tree_on_island lr g l = go l.3
      where
        child : Reach adj live root (get_or order l.0 0)
        child = tree_reached lr l.0 (listed l.0 l.2)

        its_parent : Reach adj live root (get_or parent (get_or order l.0 0) 0)
        its_parent =
            let c = t.children l.0 l.1 (listed l.0 l.2) in
            let j : c.up.0 < l.0 = c.up.1 in
            let b : l.0 < n = listed l.0 l.2 in
            subst (Reach adj live root) c.up.2 (tree_reached lr c.up.0 (omega arith))

        go : Between (get_or order l.0 0) (get_or parent (get_or order l.0 0) 0) g → OnIsland adj live root g
        go (inl e) = subst (OnIsland adj live root) (sym e) (child, its_parent)
        go (inr e) = subst (OnIsland adj live root) (sym e) (its_parent, child)

pub last_place_can_go : LastPlaceCanGo
last_place_can_go adj live root order parent n t = last_can_go t

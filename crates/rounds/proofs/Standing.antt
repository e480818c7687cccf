-- What the rounds keep, and that a wire and its place can be done with.
use Rattle.std.proofs.Common.{◌≡◌, ℕ, ◌-◌, ◌^◌, ◌<◌, ◌≢◌, ◌⊎◌, List, length, get_or, sym, ap, ◌∙◌, subst, inl, inr, arith}
use lib.Bits.{bit_xor}
use lib.Count.{ones}
use Rattle.std.proofs.lemmas.Bool.{cases_eq}
use Rattle.parity.specs.Words.{Gate}
use Rattle.parity.specs.Sets.{bit}
use Rattle.parity.specs.Gates.{acts, TwoPlaces, Each}
use Rattle.parity.specs.Pairing.{dot, turned}
use Rattle.parity.proofs.Bits.{zero_one, bit_cases, bit_pow_other, place_below, place_is, flip_other, flip_off}
use Rattle.parity.proofs.Counts.{some_place, single_place}
use Rattle.parity.proofs.Each.{each_map}
use Rattle.parity.proofs.Gates.{acts_still, acts_in}
use Rattle.parity.proofs.Pairing.{dot_some, dot_on}
use Rattle.islands.specs.Graphs.{Reach, here, OnIsland}
use Rattle.islands.specs.Trees.{TreeOrder}
use Rattle.islands.proofs.Trees.{tree_reached, last_can_go}
use Rattle.rounds.specs.Ways.{Graph}
use Rattle.rounds.specs.Duals.{Moved, Paired}
use Rattle.rounds.specs.Rounds.{CanGo, Told}
use Rattle.rounds.specs.Plans.{Busy}
use Rattle.rounds.proofs.Moving.{paired_moved}
use Rattle.rounds.proofs.Ways.{reach_trans, reach_live, reach_back, reach_past}

clear_unless : (x q : ℕ) → (bit x q ≡ 1 → ⊥) → bit x q ≡ 0
clear_unless x q h = elim (bit_cases x q) [ inl e ↦ e | inr e ↦ absurd (h e) ]

-- the sets of the waiting wires lie on live places, each on one island; the others are single places that are not live
pub record Standing (adj : List ℕ) (live waiting : ℕ) (A B : List ℕ) : Type 0 where
  pub paired : Paired (length adj) A B
  pub alive : (v : ℕ) → bit waiting v ≡ 1 → (p : ℕ) → bit (get_or A v 0) p ≡ 1 → bit live p ≡ 1
  pub on_island : (v : ℕ) → bit waiting v ≡ 1 → (p q : ℕ) → bit (get_or A v 0) p ≡ 1 → bit (get_or A v 0) q ≡ 1 → Reach adj live p q
  pub done : (v : ℕ) → v < length adj → bit waiting v ≡ 0 → (p : ℕ) × (p < length adj) × (bit live p ≡ 0) × (get_or A v 0 ≡ 2 ^ p)

-- each waiting set is as it was, or on the island of one that was no single place
abbrev pub Touched : List ℕ → List ℕ → List ℕ → ℕ → Type 0
Touched adj xs A waiting = (v : ℕ) → bit waiting v ≡ 1 → (get_or A v 0 ≡ get_or xs v 0) ⊎ ((q : ℕ) → bit (get_or A v 0) q ≡ 1 → Busy adj xs q)

-- a wire that waits after w was served is another, and waited before
still_waiting : (waiting w v : ℕ) → bit waiting w ≡ 1 → bit (bit_xor waiting (2 ^ w)) v ≡ 1 → (v ≢ w) × (bit waiting v ≡ 1)
still_waiting waiting w v hw o = elim (cases_eq v w) [
  | inl e ↦ zero_one (bit (bit_xor waiting (2 ^ w)) v) (ap (bit (bit_xor waiting (2 ^ w))) e ∙ flip_off waiting w hw) o
  | inr n ↦ (n, sym (flip_other waiting w v n) ∙ o)
]

-- a wire w that a round gave the place r
module _ (adj A B A' B' : List ℕ) (live waiting w r : ℕ) (gs : List Gate) (g : Graph adj) (s : Standing adj live waiting A B)
    (below : waiting < 2 ^ length adj) (hw : bit waiting w ≡ 1) (lr : bit live r ≡ 1) (rn : r < length adj) (can_go : CanGo adj live r)
    (two : Each (TwoPlaces (length adj)) gs) (on_isl : Each (OnIsland adj live r) gs)
    (moved : Moved gs A A') (duals_moved : Moved (turned gs) B B') (brought : get_or A' w 0 ≡ 2 ^ r)
    (alone : (q : ℕ) → Reach adj live r q → bit (get_or B' w 0) q ≡ bit (2 ^ r) q)
    (told : Told adj live r) where
  wire : (v : ℕ) → bit waiting v ≡ 1 → v < length adj
  wire v o = place_below (length adj) waiting v below o

  paired' : Paired (length adj) A' B'
  paired' = paired_moved (length adj) gs A B A' B' two moved duals_moved s.paired

  was : (v q : ℕ) → bit (get_or A' v 0) q ≡ 1 → bit (acts gs (get_or A v 0)) q ≡ 1
  was v q b = ap (λ (x : ℕ). bit x q) (sym (moved v)) ∙ b

  -- a set with a place on r's island stays on it
  stays_on : (v : ℕ) → bit waiting v ≡ 1 → (p : ℕ) → bit (get_or A v 0) p ≡ 1 → Reach adj live r p → (q : ℕ) → bit (get_or A' v 0) q ≡ 1 → Reach adj live r q
  stays_on v o p a i q b =
      acts_in (Reach adj live r) gs (get_or A v 0) (each_map (OnIsland adj live r) (λ h. Reach adj live r h.0) (λ h f. f.0) gs on_isl)
      (λ t c. reach_trans i (s.on_island v o p t a c)) q (was v q b)

  -- a set with a place flip-off it stays as it is
  stays_off : (v : ℕ) → bit waiting v ≡ 1 → (p : ℕ) → bit (get_or A v 0) p ≡ 1 → (Reach adj live r p → ⊥) → get_or A' v 0 ≡ get_or A v 0
  stays_off v o p a nay =
      moved v ∙ acts_still gs (get_or A v 0)
      (each_map (OnIsland adj live r) (λ h. bit (get_or A v 0) h.1 ≡ 0)
      (λ h f. clear_unless (get_or A v 0) h.1 (λ b. nay (reach_trans f.1 (s.on_island v o h.1 p b a)))) gs on_isl)

  place : (v : ℕ) → bit waiting v ≡ 1 → (p : ℕ) × (bit (get_or A v 0) p ≡ 1)
  place v o = some_place (get_or A v 0) (dot_some (get_or A v 0) (get_or B v 0) (s.paired.own v (wire v o)))

  -- no other set has r
  free : (v : ℕ) → v ≢ w → bit waiting v ≡ 1 → bit (get_or A' v 0) r ≡ 1 → ⊥
  free v ne o b = elim (told (place v o).0) [
    | inl i ↦ zero_one (bit (get_or A' v 0) r)
        (sym (dot_on (get_or A' v 0) (get_or B' w 0) r (λ q t. alone q (stays_on v o (place v o).0 (place v o).1 i q t)))
        ∙ paired'.other v w (wire v o) (wire w hw) ne) b
    | inr nay ↦ nay (s.on_island v o r (place v o).0
        (ap (λ (x : ℕ). bit x r) (sym (stays_off v o (place v o).0 (place v o).1 nay)) ∙ b) (place v o).1)
  ]

  other : (v : ℕ) → v ≢ w → bit waiting v ≡ 1 → (p : ℕ) → bit (get_or A' v 0) p ≡ 1 → p ≢ r
  other v ne o p b e = free v ne o (ap (bit (get_or A' v 0)) (sym e) ∙ b)

  on_island' : (v : ℕ) → v ≢ w → bit waiting v ≡ 1 → (p q : ℕ) → bit (get_or A' v 0) p ≡ 1 → bit (get_or A' v 0) q ≡ 1 → Reach adj (bit_xor live (2 ^ r)) p q
  on_island' v ne o p q a b = elim (told (place v o).0) [
    | inl i ↦ can_go p q (other v ne o p a) (other v ne o q b)
        (stays_on v o (place v o).0 (place v o).1 i p a) (stays_on v o (place v o).0 (place v o).1 i q b)
    | inr nay ↦
        let same = stays_off v o (place v o).0 (place v o).1 nay in
        let ap0 : bit (get_or A v 0) p ≡ 1 = ap (λ (x : ℕ). bit x p) (sym same) ∙ a in
        let bq0 : bit (get_or A v 0) q ≡ 1 = ap (λ (x : ℕ). bit x q) (sym same) ∙ b in
        reach_past r g (s.alive v o p ap0) (λ t. nay (reach_trans t (s.on_island v o p (place v o).0 ap0 (place v o).1))) (s.on_island v o p q ap0 bq0)
  ]

  done' : (v : ℕ) → v < length adj → bit (bit_xor waiting (2 ^ w)) v ≡ 0
      → (p : ℕ) × (p < length adj) × (bit (bit_xor live (2 ^ r)) p ≡ 0) × (get_or A' v 0 ≡ 2 ^ p)
  done' v h z = elim (cases_eq v w) [
    | inl e ↦ (r, rn, flip_off live r lr, ap (λ (m : ℕ). get_or A' m 0) e ∙ brought)
    | inr n ↦
        let d = s.done v h (sym (flip_other waiting w v n) ∙ z) in (
          d.0,
          d.1,
          flip_other live r d.0 (λ e. zero_one (bit live d.0) d.2 (ap (bit live) e ∙ lr)) ∙ d.2,
          moved v ∙ ap (acts gs) d.3 ∙ acts_still gs (2 ^ d.0)
              (each_map (OnIsland adj live r) (λ k. bit (2 ^ d.0) k.1 ≡ 0)
              (λ k f. bit_pow_other d.0 k.1 (λ e. zero_one (bit live d.0) d.2 (ap (bit live) (sym e) ∙ reach_live lr f.1))) gs on_isl),
        )
  ]

  pub touch : (xs : List ℕ) → ((q : ℕ) → Reach adj live r q → Busy adj xs q) → Touched adj xs A waiting → Touched adj xs A' (bit_xor waiting (2 ^ w))
  touch xs busy t v o =
      let k = still_waiting waiting w v hw o in
      let p = place v k.1 in
      elim (told p.0) [
        | inl i ↦ inr (λ q b. busy q (stays_on v k.1 p.0 p.1 i q b))
        | inr nay ↦
            let same = stays_off v k.1 p.0 p.1 nay in
            elim (t v k.1) [
              | inl e ↦ inl (same ∙ e)
              | inr f ↦ inr (λ q b. f q (ap (λ (x : ℕ). bit x q) (sym same) ∙ b))
            ]
      ]

  pub retire : Standing adj (bit_xor live (2 ^ r)) (bit_xor waiting (2 ^ w)) A' B'
  retire = record {
    paired = paired';
    alive = λ v o p b. let k = still_waiting waiting w v hw o in
        flip_other live r p (other v k.0 k.1 p b)
        ∙ acts_in (λ q. bit live q ≡ 1) gs (get_or A v 0)
        (each_map (OnIsland adj live r) (λ h. bit live h.0 ≡ 1) (λ h f. reach_live lr f.0) gs on_isl) (s.alive v k.1) p (was v p b);
    on_island = λ v o. let k = still_waiting waiting w v hw o in on_island' v k.0 k.1;
    done = done';
  }

-- paired words differ
pub paired_apart : (n : ℕ) (xs ys : List ℕ) → Paired n xs ys → (w v : ℕ) → w < n → v < n → get_or xs w 0 ≡ get_or xs v 0 → w ≡ v
paired_apart n xs ys p w v hw hv e = elim (cases_eq w v) [
  | inl k ↦ k
  | inr ne ↦ zero_one (dot (get_or xs w 0) (get_or ys w 0)) (ap (λ (x : ℕ). dot x (get_or ys w 0)) e ∙ p.other v w hv hw (λ k. ne (sym k))) (p.own w hw)
]

-- a wire whose island is at rest: each set there is a single place
module _ (adj A B : List ℕ) (live waiting w r : ℕ) (g : Graph adj) (s : Standing adj live waiting A B) (len : length A ≡ length adj)
    (below : waiting < 2 ^ length adj) (hw : bit waiting w ≡ 1) (lr : bit live r ≡ 1) (rn : r < length adj)
    (single : get_or A w 0 ≡ 2 ^ r)
    (others : (v : ℕ) → v < length A → (q : ℕ) → bit (get_or A v 0) q ≡ 1 → Reach adj live r q → ones (get_or A v 0) ≡ 1)
    (told : Told adj live r) where
  -- a set on the island has one place
  rest_one : (v : ℕ) → bit waiting v ≡ 1 → (p q : ℕ) → bit (get_or A v 0) p ≡ 1 → Reach adj live r p → bit (get_or A v 0) q ≡ 1 → p ≡ q
  rest_one v o p q a i b =
      let h : v < length A = subst (λ (m : ℕ). v < m) (sym len) (place_below (length adj) waiting v below o) in
      let e = single_place (get_or A v 0) (others v h p a i) in
      sym (place_is e.0 p (ap (λ (x : ℕ). bit x p) (sym e.1) ∙ a)) ∙ place_is e.0 q (ap (λ (x : ℕ). bit x q) (sym e.1) ∙ b)

  rest_other : (v : ℕ) → v ≢ w → bit waiting v ≡ 1 → (p : ℕ) → bit (get_or A v 0) p ≡ 1 → p ≢ r
  rest_other v ne o p b e =
      let a : bit (get_or A v 0) r ≡ 1 = ap (bit (get_or A v 0)) (sym e) ∙ b in
      let h = place_below (length adj) waiting v below o in
      let x = single_place (get_or A v 0) (others v (subst (λ (m : ℕ). v < m) (sym len) h) r a here) in
      let y : x.0 ≡ r = place_is x.0 r (ap (λ (z : ℕ). bit z r) (sym x.1) ∙ a) in
      ne (paired_apart (length adj) A B s.paired v w h (place_below (length adj) waiting w below hw) (x.1 ∙ ap (λ (m : ℕ). 2 ^ m) y ∙ sym single))

  pub rest_touch : (xs : List ℕ) → Touched adj xs A waiting → Touched adj xs A (bit_xor waiting (2 ^ w))
  rest_touch xs t v o = t v (still_waiting waiting w v hw o).1

  pub rest : Standing adj (bit_xor live (2 ^ r)) (bit_xor waiting (2 ^ w)) A B
  rest = record {
    paired = s.paired;
    alive = λ v o p b. let k = still_waiting waiting w v hw o in flip_other live r p (rest_other v k.0 k.1 p b) ∙ s.alive v k.1 p b;
    on_island = λ v o p q a b. let k = still_waiting waiting w v hw o in
        elim (told p) [
          | inl i ↦ subst (Reach adj (bit_xor live (2 ^ r)) p) (rest_one v k.1 p q a i b) here
          | inr nay ↦ reach_past r g (s.alive v k.1 p a) nay (s.on_island v k.1 p q a b)
        ];
    done = λ v h z. elim (cases_eq v w) [
      | inl e ↦ (r, rn, flip_off live r lr, ap (λ (m : ℕ). get_or A m 0) e ∙ single)
      | inr n ↦
          let d = s.done v h (sym (flip_other waiting w v n) ∙ z) in
          (d.0, d.1, flip_other live r d.0 (λ e. zero_one (bit live d.0) d.2 (ap (bit live) e ∙ lr)) ∙ d.2, d.3)
    ];
  }

-- the last place of a tree order can go
pub last_place_can_go : (adj : List ℕ) (live start : ℕ) (order parent : List ℕ) (n : ℕ) → Graph adj → TreeOrder adj live start order parent n → bit live start ≡ 1
    → CanGo adj live (get_or order (n - 1) 0)
last_place_can_go adj live start order parent n g s ls x y nx ny px py =
    reach_trans (reach_back g alive (after x nx px)) (after y ny py)
  where
    from : Reach adj live start (get_or order (n - 1) 0)
    from = tree_reached s ls (n - 1) (let h : 0 < n = s.some in omega arith)

    after : (z : ℕ) → z ≢ get_or order (n - 1) 0 → Reach adj live (get_or order (n - 1) 0) z → Reach adj (bit_xor live (2 ^ get_or order (n - 1) 0)) start z
    after z nz p = last_can_go s ls z nz (reach_trans from p)

    -- the start is not the last: there is x besides
    differs : start ≢ get_or order (n - 1) 0
    differs e =
        let h : 0 < n = s.some in
        let i : 0 ≡ n - 1 = s.once 0 (n - 1) h (omega arith) (s.first ∙ e) in
        let k = s.complete x (reach_trans from px) in
        let l : k.0 < n = k.1 in
        let j : k.0 ≡ n - 1 = omega arith in
        nx (sym k.2 ∙ ap (λ (m : ℕ). get_or order m 0) j)

    alive : bit (bit_xor live (2 ^ get_or order (n - 1) 0)) start ≡ 1
    alive = flip_other live (get_or order (n - 1) 0) start differs ∙ ls

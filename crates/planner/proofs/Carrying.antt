-- Carrying words of wires over to places.
use Rattle.std.proofs.Common.{◌≡◌, ℕ, zero, suc, ◌+◌, ◌/◌, ◌%◌, ◌^◌, ◌<◌, ◌≢◌, List, [], ◌∷◌, ◌++◌, map, length, get_or, take, sym, refl, ap, ◌∙◌, ap₂, inl, inr, arith}
use lib.Bits.{bit_xor, xor_assoc, xor_zero_r}
use lib.Count.{ones}
use Rattle.std.proofs.lemmas.List.{take_more, map-append, length-map, length-take, get_or-map}
use Rattle.parity.specs.Sets.{bit, when, xor_over}
use Rattle.parity.specs.Pairing.{dot}
use Rattle.parity.specs.Placements.{Placement, wires_to_places}
use Rattle.parity.proofs.Bits.{bit_zero, bit_suc, bit_cases, bit_pow_same, zero_one, xor_cancel_r, place_below, place_is, flip_off, flip_cases, only_place}
use Rattle.parity.proofs.Counts.{below_all, ones_none, ones_pow, single_place, some_place}
use Rattle.parity.proofs.Xors.{xor_over_none, xor_over_xor, xor_over_one}
use Rattle.parity.proofs.Pairing.{dot_xor, dot_pow, dot_none}
use Rattle.parity.proofs.Placements.{places_exactly}

-- a list with one word more
xor_over_more : (ws : List ℕ) (w x : ℕ) → xor_over (ws ++ w ∷ []) x ≡ bit_xor (xor_over ws x) (when (bit x (length ws)) w)
xor_over_more [] w x = xor_zero_r (when (x % 2) w) ∙ sym (ap (λ (d : ℕ). when d w) (bit_zero x))
xor_over_more (v ∷ ws) w x =
    ap (bit_xor (when (x % 2) v)) (xor_over_more ws w (x / 2))
    ∙ sym (xor_assoc (when (x % 2) v) (xor_over ws (x / 2)) (when (bit (x / 2) (length ws)) w))
    ∙ ap (λ (d : ℕ). bit_xor (bit_xor (when (x % 2) v) (xor_over ws (x / 2))) (when d w)) (sym (bit_suc x (length ws)))

-- one wire more
places_more : (at : List ℕ) (i x : ℕ) → i < length at → wires_to_places (take (i + 1) at) x ≡ bit_xor (wires_to_places (take i at) x) (when (bit x i) (2 ^ get_or at i 0))
places_more at i x h =
    let len : length (map (λ (p : ℕ). 2 ^ p) (take i at)) ≡ i = length-map (take i at) (λ (p : ℕ). 2 ^ p) ∙ (let e = length-take i at in let f : length (take i at) ≡ i = omega arith in f) in
    ap (λ (l : List ℕ). xor_over l x) (ap (map (λ (p : ℕ). 2 ^ p)) (take_more at i 0 h) ∙ map-append (λ (p : ℕ). 2 ^ p) (take i at) (get_or at i 0 ∷ []))
    ∙ xor_over_more (map (λ (p : ℕ). 2 ^ p) (take i at)) (2 ^ get_or at i 0) x
    ∙ ap (λ (j : ℕ). bit_xor (wires_to_places (take i at) x) (when (bit x j) (2 ^ get_or at i 0))) len

pub places_more_on : (at : List ℕ) (i x : ℕ) → i < length at → bit x i ≡ 1 → wires_to_places (take (i + 1) at) x ≡ bit_xor (wires_to_places (take i at) x) (2 ^ get_or at i 0)
places_more_on at i x h o = places_more at i x h ∙ ap (λ (d : ℕ). bit_xor (wires_to_places (take i at) x) (when d (2 ^ get_or at i 0))) o

pub places_more_off : (at : List ℕ) (i x : ℕ) → i < length at → bit x i ≡ 0 → wires_to_places (take (i + 1) at) x ≡ wires_to_places (take i at) x
places_more_off at i x h z =
    places_more at i x h ∙ ap (λ (d : ℕ). bit_xor (wires_to_places (take i at) x) (when d (2 ^ get_or at i 0))) z ∙ xor_zero_r (wires_to_places (take i at) x)

narrow : (n y q : ℕ) → y < 2 ^ suc n → bit y q ≡ 1 → q ≢ n → q < n
narrow n y q b o ne = let l = place_below (suc n) y q b o in omega arith

-- two maps that go along with the exclusive or are the same where they are on single wires
agree : (f g : ℕ → ℕ) → f 0 ≡ g 0 → ((x y : ℕ) → f (bit_xor x y) ≡ bit_xor (f x) (f y)) → ((x y : ℕ) → g (bit_xor x y) ≡ bit_xor (g x) (g y))
    → (n : ℕ) → ((w : ℕ) → w < n → f (2 ^ w) ≡ g (2 ^ w)) → (x : ℕ) → x < 2 ^ n → f x ≡ g x
agree f g z lf lg zero one x h = let e : x ≡ 0 = omega arith in ap f e ∙ z ∙ ap g (sym e)
agree f g z lf lg (suc n) one x h =
    let below : (y : ℕ) → ((q : ℕ) → bit y q ≡ 1 → q < n) → f y ≡ g y = λ y low. agree f g z lf lg n (λ w l. one w (omega arith)) y (below_all n y low) in
    elim (bit_cases x n) [
      | inl off ↦ below x (λ q o. narrow n x q h o (λ e. zero_one (bit x n) off (ap (bit x) (sym e) ∙ o)))
      | inr on ↦
          let less : f (bit_xor x (2 ^ n)) ≡ g (bit_xor x (2 ^ n)) = below (bit_xor x (2 ^ n)) (λ q o. elim (flip_cases x n q o) [
            | inl e ↦ zero_one (bit (bit_xor x (2 ^ n)) q) (ap (bit (bit_xor x (2 ^ n))) e ∙ flip_off x n on) o
            | inr b ↦ narrow n x q h b (λ e. zero_one (bit (bit_xor x (2 ^ n)) q) (ap (bit (bit_xor x (2 ^ n))) e ∙ flip_off x n on) o)
          ]) in
          ap f (sym (xor_cancel_r (2 ^ n) x)) ∙ lf (bit_xor x (2 ^ n)) (2 ^ n) ∙ ap₂ bit_xor less (one n (omega arith)) ∙ sym (lg (bit_xor x (2 ^ n)) (2 ^ n)) ∙ ap g (xor_cancel_r (2 ^ n) x)
    ]

module _ (n : ℕ) (at : List ℕ) (p : Placement n at) where
  -- the place of one wire
  one_wire : (w : ℕ) → w < n → wires_to_places at (2 ^ w) ≡ 2 ^ get_or at w 0
  one_wire w h = xor_over_one (map (λ (q : ℕ). 2 ^ q) at) w ∙ get_or-map (λ (q : ℕ). 2 ^ q) at w 0 0 (omega (arith, p.one_each))

  -- a wire is in a word where its place is in the word's places
  pub at_place : (x w : ℕ) → w < n → bit (wires_to_places at x) (get_or at w 0) ≡ bit x w
  at_place x w h = elim (bit_cases x w) [
    | inr o ↦ (places_exactly n at x (get_or at w 0) p).1 (record { wire = w; below = h; in_word = o; place = refl }) ∙ sym o
    | inl z ↦ elim (bit_cases (wires_to_places at x) (get_or at w 0)) [
      | inl y ↦ y ∙ sym z
      | inr o ↦
          let k = (places_exactly n at x (get_or at w 0) p).0 o in
          zero_one (bit x w) z (ap (bit x) (sym (p.apart k.wire w k.below h k.place)) ∙ k.in_word)
    ]
  ]

  -- the pairing goes along
  pub pairing_carried : (x y : ℕ) → x < 2 ^ n → dot (wires_to_places at x) (wires_to_places at y) ≡ dot x y
  pairing_carried x y hx =
      agree (λ (z : ℕ). dot (wires_to_places at z) (wires_to_places at y)) (λ (z : ℕ). dot z y)
      (ap (λ (z : ℕ). dot z (wires_to_places at y)) (xor_over_none (map (λ (q : ℕ). 2 ^ q) at)) ∙ dot_none (wires_to_places at y) ∙ sym (dot_none y))
      (λ u v. ap (λ (z : ℕ). dot z (wires_to_places at y)) (xor_over_xor (map (λ (q : ℕ). 2 ^ q) at) u v) ∙ dot_xor (wires_to_places at u) (wires_to_places at v) (wires_to_places at y))
      (λ u v. dot_xor u v y) n
      (λ w h. ap (λ (z : ℕ). dot z (wires_to_places at y)) (one_wire w h) ∙ dot_pow (get_or at w 0) (wires_to_places at y) ∙ at_place y w h ∙ sym (dot_pow w y))
      x hx

  -- single wires are at single places, and no other words are
  pub single_carried : (x : ℕ) → x < 2 ^ n → ones x ≡ 1 → ones (wires_to_places at x) ≡ 1
  single_carried x hx o =
      let s = single_place x o in
      let h : s.0 < n = place_below n x s.0 hx (ap (λ (y : ℕ). bit y s.0) s.1 ∙ bit_pow_same s.0) in
      ap ones (ap (wires_to_places at) s.1 ∙ one_wire s.0 h) ∙ ones_pow (get_or at s.0 0)

  pub carried_single : (x : ℕ) → x < 2 ^ n → ones (wires_to_places at x) ≡ 1 → ones x ≡ 1
  carried_single x hx o =
      let s = single_place (wires_to_places at x) o in
      let some : x ≢ 0 = λ e. (let z : ◌≡◌ {A = ℕ} 0 1 = sym (ap ones (ap (wires_to_places at) e ∙ xor_over_none (map (λ (q : ℕ). 2 ^ q) at)) ∙ ones_none) ∙ o in omega arith) in
      let r = some_place x some in
      let place : (w : ℕ) → bit x w ≡ 1 → s.0 ≡ get_or at w 0 =
      λ w i. place_is s.0 (get_or at w 0) (ap (λ (y : ℕ). bit y (get_or at w 0)) (sym s.1) ∙ at_place x w (place_below n x w hx i) ∙ i) in
      ap ones (only_place x r.0 some (λ q i. p.apart r.0 q (place_below n x r.0 hx r.1) (place_below n x q hx i) (sym (place r.0 r.1) ∙ place q i))) ∙ ones_pow r.0

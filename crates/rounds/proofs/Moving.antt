-- What lists of gates do to lists of sets.
use Rattle.std.proofs.Common.{◌≡◌, ℕ, ◌^◌, List, [], ◌∷◌, ◌++◌, map, length, get_or, sym, ap, ◌∙◌, ap₂}
use Rattle.std.proofs.lemmas.List.{ext_get_or, length-map}
use Rattle.parity.specs.Words.{Gate}
use Rattle.parity.specs.Sets.{bit}
use Rattle.parity.specs.Gates.{act, acts, TwoPlaces, Each}
use Rattle.parity.specs.Pairing.{dot, turned}
use Rattle.parity.proofs.Xors.{get_d_map_zero}
use Rattle.parity.proofs.Gates.{act_none, acts_none, acts_append}
use Rattle.parity.proofs.Pairing.{dot_pow, pairing_survives_gates}
use Rattle.rounds.specs.Duals.{Paired, Moved}

pub moved_append : (gs hs : List Gate) (xs ys zs : List ℕ) → Moved gs xs ys → Moved hs ys zs → Moved (gs ++ hs) xs zs
moved_append gs hs xs ys zs a b v = b v ∙ ap (acts hs) (a v) ∙ sym (acts_append gs hs (get_or xs v 0))

pub moved_one : (g : Gate) (xs ys : List ℕ) → ys ≡ map (act g) xs → Moved (g ∷ []) xs ys
moved_one g xs ys e v = ap (λ (zs : List ℕ). get_or zs v 0) e ∙ get_d_map_zero (act g) (act_none g) xs v

pub moved_map : (gs : List Gate) (xs ys : List ℕ) → length ys ≡ length xs → Moved gs xs ys → ys ≡ map (acts gs) xs
moved_map gs xs ys e m =
    ext_get_or 0 ys (map (acts gs) xs) (e ∙ sym (length-map xs (acts gs))) (λ i h. m i ∙ sym (get_d_map_zero (acts gs) (acts_none gs) xs i))

-- gates keep sets and duals paired
pub paired_moved : (n : ℕ) (gs : List Gate) (A B A' B' : List ℕ) → Each (TwoPlaces n) gs → Moved gs A A' → Moved (turned gs) B B' → Paired n A B → Paired n A' B'
paired_moved n gs A B A' B' two m k p = record {
  own = λ w h. ap₂ dot (m w) (k w) ∙ pairing_survives_gates n gs (get_or A w 0) (get_or B w 0) two ∙ p.own w h;
  other = λ w v h i ne. ap₂ dot (m w) (k v) ∙ pairing_survives_gates n gs (get_or A w 0) (get_or B v 0) two ∙ p.other w v h i ne;
}

-- when a wanted set has become r alone, its dual has r
pub dual_has : (n : ℕ) (gs : List Gate) (A B B' : List ℕ) (w r : ℕ) → Each (TwoPlaces n) gs → Moved (turned gs) B B'
    → acts gs (get_or A w 0) ≡ 2 ^ r → dot (get_or A w 0) (get_or B w 0) ≡ 1 → bit (get_or B' w 0) r ≡ 1
dual_has n gs A B B' w r two moved done paired =
    sym (dot_pow r (get_or B' w 0)) ∙ ap₂ dot (sym done) (moved w) ∙ pairing_survives_gates n gs (get_or A w 0) (get_or B w 0) two ∙ paired

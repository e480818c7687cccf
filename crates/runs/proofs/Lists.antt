-- Lists made by a function from another list.
use Rattle.std.proofs.Common.{◌≡◌, ℕ, zero, suc, ◌<◌, List, [], ◌∷◌, map, length, get_or, set, replicate, sym, refl, ap, ◌∙◌, ap₂, le_of_suc-le-suc, not-suc-le-zero, arith}
use lib.Seq.{map-set}
use Rattle.parity.specs.Sets.{xor_over}
use Rattle.parity.proofs.Xors.{xor_over_none, get_d_map_zero}
use Rattle.planner.specs.Blocks.{traded}

pub same_map : (f : ℕ → ℕ) (xs ys : List ℕ) → length ys ≡ length xs → ((w : ℕ) → w < length xs → get_or ys w 0 ≡ f (get_or xs w 0)) → ys ≡ map f xs
same_map f [] [] e h = refl
same_map f [] (y ∷ ys) e h = absurd (omega arith)
same_map f (x ∷ xs) [] e h = absurd (omega arith)
same_map f (x ∷ xs) (y ∷ ys) e h =
    ap₂ (λ (a : ℕ) (l : List ℕ). a ∷ l) (h 0 (omega arith)) (same_map f xs ys (omega arith) (λ w lt. h (suc w) (omega arith)))

pub get_d_map_in : (f : ℕ → ℕ) (xs : List ℕ) (w : ℕ) → w < length xs → get_or (map f xs) w 0 ≡ f (get_or xs w 0)
get_d_map_in f [] w h = absurd (not-suc-le-zero h)
get_d_map_in f (x ∷ xs) zero h = refl
get_d_map_in f (x ∷ xs) (suc w) h = get_d_map_in f xs w (le_of_suc-le-suc h)

pub map_traded : (ws : List ℕ) (a b : ℕ) (vs : List ℕ) → map (xor_over ws) (traded a b vs) ≡ traded a b (map (xor_over ws) vs)
map_traded ws a b vs =
    map-set (xor_over ws) (set vs a (get_or vs b 0)) b (get_or vs a 0)
    ∙ ap₂ (λ (l : List ℕ) (v : ℕ). set l b v)
    (map-set (xor_over ws) vs a (get_or vs b 0) ∙ ap (λ (v : ℕ). set (map (xor_over ws) vs) a v) (sym (get_d_map_zero (xor_over ws) (xor_over_none ws) vs b)))
    (sym (get_d_map_zero (xor_over ws) (xor_over_none ws) vs a))

pub map_replicate : {A B : Type 0} (f : A → B) (n : ℕ) (a : A) → map f (replicate n a) ≡ replicate n (f a)
map_replicate f zero a = refl
map_replicate {A} {B} f (suc n) a = ap (λ (l : List B). f a ∷ l) (map_replicate f n a)

pub get_d_default : {A : Type 0} (xs : List A) (k : ℕ) (d e : A) → k < length xs → get_or xs k d ≡ get_or xs k e
get_d_default [] k d e h = absurd (not-suc-le-zero h)
get_d_default (x ∷ xs) zero d e h = refl
get_d_default (x ∷ xs) (suc k) d e h = get_d_default xs k d e (le_of_suc-le-suc h)

-- Laws of fresh words, replays and entries.
use Rattle.std.proofs.Common.{◌≡◌, ℕ, ◌+◌, ◌/◌, ◌%◌, ◌^◌, ◌<◌, ◌≤◌, ◌⊎◌, List, [], ◌∷◌, ◌++◌, map, length, get_or, take, drop, set, refl, ap, ◌∙◌, ap₂, inl, inr, add-one, arith, length-set, drop-cons, get_or-set_other, get_or-set_same, pow_pos}
use lib.Pow.{pow-lt}
use lib.Bits.{bit_xor, xor_lt, xor_zero_l}
use Rattle.std.proofs.lemmas.List.FromFn.{length-map-range_with_len, get_or-map-range_with_len, take-map-range_with_len, fill_by_all}
use Rattle.std.proofs.lemmas.List.{at_drop_all, get_or_past, set_past, set-get_or}
use Rattle.std.proofs.lemmas.Bool.{cases_lt, cases_eq}
use Rattle.parity.specs.Words.{fresh, Gate, cnot, replay, entry, gate_of, Rereads}

-- ---- fresh words

pub length_fresh : (n : ℕ) → length (fresh n) ≡ n
unfolding fresh
length_fresh n = length-map-range_with_len (λ (q : ℕ). 2 ^ q) 0 n

pub get_d_fresh : (n q : ℕ) → q < n → get_or (fresh n) q 0 ≡ 2 ^ q
unfolding fresh
get_d_fresh n q h = get_or-map-range_with_len (λ (k : ℕ). 2 ^ k) 0 n q q 0 h (omega arith)

pub take_fresh : (n k : ℕ) → k ≤ n → take k (fresh n) ≡ fresh k
unfolding fresh
take_fresh n k h = take-map-range_with_len (λ (q : ℕ). 2 ^ q) 0 n k h

-- words that are bit by bit the fresh ones are the fresh ones
pub fresh_from : (ws : List ℕ) (n : ℕ) → length ws ≡ n → ((q : ℕ) → q < n → get_or ws q 0 ≡ 2 ^ q) → ws ≡ fresh n
unfolding fresh
fresh_from ws n len each = fill_by_all (λ (q : ℕ). 2 ^ q) ws n 0 len each

-- ---- words stay below 2 ^ n

-- each word of ws is below 2 ^ n
abbrev pub Below : ℕ → List ℕ → Type 0
Below n ws = (q : ℕ) → get_or ws q 0 < 2 ^ n

pub below_fresh : (n : ℕ) → Below n (fresh n)
below_fresh n q = by (cases_lt q n)
  where
    by : (q < n) ⊎ (n ≤ q) → get_or (fresh n) q 0 < 2 ^ n
    by (inl h) = let e = get_d_fresh n q h in let p = pow-lt h in omega arith
    by (inr h) = let l = length_fresh n in let e = get_or_past (fresh n) q 0 (omega arith) in let p = pow_pos n in omega arith

pub below_set : (n : ℕ) (ws : List ℕ) (t v : ℕ) → Below n ws → v < 2 ^ n → Below n (set ws t v)
below_set n ws t v b h q = by (cases_eq q t) (cases_lt t (length ws))
  where
    by : (q ≡ t) ⊎ (q ≡ t → ⊥) → (t < length ws) ⊎ (length ws ≤ t) → get_or (set ws t v) q 0 < 2 ^ n
    by (inl e) (inl l) = let s = get_or-set_same ws t v 0 l in let f = ap (λ (k : ℕ). get_or (set ws t v) k 0) e in omega arith
    by (inl e) (inr l) = let m = length-set ws t v in let p = get_or_past (set ws t v) q 0 (omega arith) in let z = pow_pos n in omega arith
    by (inr e) l = let s = get_or-set_other ws t q v 0 e in let x = b q in omega arith

pub below_cnot : (n : ℕ) (g : Gate) (ws : List ℕ) → Below n ws → Below n (cnot g ws)
below_cnot n g ws b = below_set n ws g.1 (bit_xor (get_or ws g.0 0) (get_or ws g.1 0)) b (xor_lt n _ _ (b g.0) (b g.1))

pub below_replay : (n : ℕ) (gs : List Gate) (ws : List ℕ) → Below n ws → Below n (replay gs ws)
below_replay n [] ws b = b
below_replay n (g ∷ gs) ws b = below_replay n gs (cnot g ws) (below_cnot n g ws b)

pub length_replay : (gs : List Gate) (ws : List ℕ) → length (replay gs ws) ≡ length ws
length_replay [] ws = refl
length_replay (g ∷ gs) ws = length_replay gs (cnot g ws) ∙ length-set ws g.1 _

-- ---- replays

pub replay_append : (gs hs : List Gate) (ws : List ℕ) → replay (gs ++ hs) ws ≡ replay hs (replay gs ws)
replay_append [] hs ws = refl
replay_append (g ∷ gs) hs ws = replay_append gs hs (cnot g ws)

pub replay_done : (es : List ℕ) (i : ℕ) (ws : List ℕ) → length es ≤ i → replay (map gate_of (drop i es)) ws ≡ ws
replay_done es i ws h = at_drop_all (λ (l : List ℕ). replay (map gate_of l) ws) es i h

pub replay_step : (es : List ℕ) (i : ℕ) (ws : List ℕ) → i < length es
    → replay (map gate_of (drop i es)) ws ≡ replay (map gate_of (drop (i + 1) es)) (cnot (gate_of (get_or es i 0)) ws)
replay_step es i ws h = rw (add-one, drop-cons es i 0) refl

-- a gate with an end past the words changes nothing
pub cnot_past : (g : Gate) (ws : List ℕ) → (length ws ≤ g.0) ⊎ (length ws ≤ g.1) → cnot g ws ≡ ws
cnot_past g ws (inl h) =
    ap (λ (v : ℕ). set ws g.1 (bit_xor v (get_or ws g.1 0))) (get_or_past ws g.0 0 h)
    ∙ ap (set ws g.1) (xor_zero_l (get_or ws g.1 0)) ∙ set-get_or ws g.1 0
cnot_past g ws (inr h) = set_past ws g.1 _ h

-- ---- entries

pub rereads : Rereads
rereads g h =
    let c : entry g / 64 ≡ g.0 = omega arith in
    let t : entry g % 64 ≡ g.1 = omega arith in
    ap₂ (λ (x y : ℕ). (x, y)) c t

-- What gates do to sets and to words.
use Rattle.std.proofs.Common.{◌≡◌, ℕ, zero, suc, ◌^◌, ◌<◌, ◌≢◌, ◌⊎◌, List, [], ◌∷◌, ◌++◌, map, reverse, length, get_or, set, sym, refl, ap, ◌∙◌, subst, ap₂, inl, inr, length-set, pow_pos}
use mathlib.Core.List.{reverse-cons}
use lib.Pow.{pow-lt}
use lib.Bits.{bit_xor, bit_and, xor_zero_r, xor_lt, xor_assoc, xor_self}
use Rattle.std.proofs.lemmas.List.{set-set, set-get_or, get_or-set_same, get_or-set_other}
use Rattle.std.proofs.lemmas.Bool.{cases_eq}
use Rattle.parity.specs.Words.{fresh, Gate, cnot, replay}
use Rattle.parity.specs.Sets.{bit, when, xor_over}
use Rattle.parity.specs.Gates.{act, acts, TwoPlaces, Each, Spares}
use Rattle.parity.specs.Laws.{XorsSurviveGate, XorsSurviveGates, SinglePlacesDeliver, GateUndoesItself, ReverseUndoesOnSets, ReverseUndoesOnWords, SetsStayApart, XorsTellSetsApart, MeetingSurvivesGate}
use Rattle.parity.proofs.Words.{length_fresh, replay_append}
use Rattle.parity.proofs.Bits.{bit_none, bit-xor, bit_cases, bit_some, bit_pow_other, xor_cancel, xor_cancel_r, bit_when, when_zero}
use Rattle.parity.proofs.Masks.{and_in}
use Rattle.parity.proofs.Each.{each_reverse}
use Rattle.parity.proofs.Xors.{xor_over_none, xor_over_xor, xor_over_one, xor_over_when, xor_over_set, fresh_xors_are_sets, get_d_map_zero, map_fresh, map_cnot}

-- ---- one gate on a set

-- a gate leaves each place but the one that it flips
pub act_other : (g : Gate) (x q : ℕ) → q ≢ g.0 → bit (act g x) q ≡ bit x q
act_other g x q h =
    bit-xor x (when (bit x g.1) (2 ^ g.0)) q
    ∙ ap (bit_xor (bit x q))
    (bit_when (bit x g.1) (2 ^ g.0) q ∙ ap (when (bit x g.1)) (bit_pow_other g.0 q h) ∙ when_zero (bit x g.1))
    ∙ xor_zero_r (bit x q)

pub act_set : (c t x : ℕ) → bit x t ≡ 1 → act (c, t) x ≡ bit_xor x (2 ^ c)
act_set c t x h = ap (λ (d : ℕ). bit_xor x (when d (2 ^ c))) h

pub act_still : (g : Gate) (x : ℕ) → bit x g.1 ≡ 0 → act g x ≡ x
act_still g x z = ap (λ (d : ℕ). bit_xor x (when d (2 ^ g.0))) z ∙ xor_zero_r x

pub act_none : (g : Gate) → act g 0 ≡ 0
act_none g = act_still g 0 (bit_none g.1)

pub act_bit : (g : Gate) (x q : ℕ) → bit (act g x) q ≡ bit_xor (bit x q) (when (bit x g.1) (bit (2 ^ g.0) q))
act_bit g x q = bit-xor x (when (bit x g.1) (2 ^ g.0)) q ∙ ap (bit_xor (bit x q)) (bit_when (bit x g.1) (2 ^ g.0) q)

pub act_below : (n : ℕ) (g : Gate) (x : ℕ) → g.0 < n → x < 2 ^ n → act g x < 2 ^ n
act_below n g x h b = xor_lt n x (when (bit x g.1) (2 ^ g.0)) b (low (bit x g.1))
  where
    low : (d : ℕ) → when d (2 ^ g.0) < 2 ^ n
    low zero = pow_pos n
    low (suc d) = pow-lt h

pub gate_undoes_itself : GateUndoesItself
gate_undoes_itself g x h =
    ap (λ (d : ℕ). bit_xor (act g x) (when d (2 ^ g.0))) (act_other g x g.1 h)
    ∙ xor_cancel_r (when (bit x g.1) (2 ^ g.0)) x

-- the target lies in I, and it stays in a set that has it
pub meeting_survives_gate : MeetingSurvivesGate
meeting_survives_gate c t x I h i m = go (bit_cases x t)
  where
    go : (bit x t ≡ 0) ⊎ (bit x t ≡ 1) → bit_and (act (c, t) x) I ≢ 0
    go (inl e) z = m (ap (λ (k : ℕ). bit_and k I) (sym (ap (λ (d : ℕ). bit_xor x (when d (2 ^ c))) e ∙ xor_zero_r x)) ∙ z)
    go (inr e) z = bit_some (bit_and (act (c, t) x) I) t (and_in (act (c, t) x) I t (act_other (c, t) x t h ∙ e) i) z

-- ---- gates on a set

pub acts_append : (gs hs : List Gate) (x : ℕ) → acts (gs ++ hs) x ≡ acts hs (acts gs x)
acts_append [] hs x = refl
acts_append (g ∷ gs) hs x = acts_append gs hs (act g x)

pub acts_none : (gs : List Gate) → acts gs 0 ≡ 0
acts_none [] = refl
acts_none (g ∷ gs) = ap (acts gs) (act_none g) ∙ acts_none gs

pub acts_below : (n : ℕ) (gs : List Gate) (x : ℕ) → Each (TwoPlaces n) gs → x < 2 ^ n → acts gs x < 2 ^ n
acts_below n [] x h b = b
acts_below n (g ∷ gs) x h b = acts_below n gs (act g x) h.1 (act_below n g x h.0.from b)

-- gates that spare q leave it
pub acts_spare : (q : ℕ) (gs : List Gate) (x : ℕ) → Each (Spares q) gs → bit (acts gs x) q ≡ bit x q
acts_spare q [] x h = refl
acts_spare q (g ∷ gs) x h = acts_spare q gs (act g x) h.1 ∙ act_other g x q (λ e. h.0 (sym e))

-- gates whose targets are not in x leave it
pub acts_still : (gs : List Gate) (x : ℕ) → Each (λ g. bit x g.1 ≡ 0) gs → acts gs x ≡ x
acts_still [] x h = refl
acts_still (g ∷ gs) x h = ap (acts gs) (act_still g x h.0) ∙ acts_still gs x h.1

-- gates whose controls are all in P bring no place from outside P
pub acts_in : (P : ℕ → Type 0) (gs : List Gate) (x : ℕ) → Each (λ g. P g.0) gs → ((q : ℕ) → bit x q ≡ 1 → P q)
    → (q : ℕ) → bit (acts gs x) q ≡ 1 → P q
acts_in P [] x h all = all
acts_in P (g ∷ gs) x h all =
    acts_in P gs (act g x) h.1
    (λ q o. elim (cases_eq q g.0) [ inl e ↦ subst P (sym e) h.0 | inr n ↦ all q (sym (act_other g x q n) ∙ o) ])

-- two sets that agree on P stay so, where all targets are in P
pub acts_agree : (P : ℕ → Type 0) (gs : List Gate) (x y : ℕ) → Each (λ g. P g.1) gs → ((q : ℕ) → P q → bit x q ≡ bit y q)
    → (q : ℕ) → P q → bit (acts gs x) q ≡ bit (acts gs y) q
acts_agree P [] x y h all = all
acts_agree P (g ∷ gs) x y h all =
    acts_agree P gs (act g x) (act g y) h.1
    (λ q p. act_bit g x q ∙ ap₂ (λ (a b : ℕ). bit_xor a (when b (bit (2 ^ g.0) q))) (all q p) (all g.1 h.0) ∙ sym (act_bit g y q))

-- ---- gates undone

acts_last : (g : Gate) (gs : List Gate) (x : ℕ) → acts (reverse (g ∷ gs)) x ≡ act g (acts (reverse gs) x)
acts_last g gs x = ap (λ (hs : List Gate). acts hs x) (reverse-cons g gs) ∙ acts_append (reverse gs) (g ∷ []) x

pub reverse_undoes_on_sets : ReverseUndoesOnSets
reverse_undoes_on_sets n [] x h = refl
reverse_undoes_on_sets n (g ∷ gs) x h =
    acts_last g gs (acts gs (act g x)) ∙ ap (act g) (reverse_undoes_on_sets n gs (act g x) h.1) ∙ gate_undoes_itself g x h.0.apart

-- and the other way round
pub undoes_reverse_on_sets : (n : ℕ) (gs : List Gate) (x : ℕ) → Each (TwoPlaces n) gs → acts gs (acts (reverse gs) x) ≡ x
undoes_reverse_on_sets n [] x h = refl
undoes_reverse_on_sets n (g ∷ gs) x h =
    ap (λ (y : ℕ). acts gs (act g y)) (acts_last g gs x)
    ∙ ap (acts gs) (gate_undoes_itself g (acts (reverse gs) x) h.0.apart) ∙ undoes_reverse_on_sets n gs x h.1

pub sets_stay_apart : SetsStayApart
sets_stay_apart n gs x y h e = sym (reverse_undoes_on_sets n gs x h) ∙ ap (acts (reverse gs)) e ∙ reverse_undoes_on_sets n gs y h

-- ---- one gate on words

pub length_cnot : (ws : List ℕ) (g : Gate) → length (cnot g ws) ≡ length ws
length_cnot ws g = length-set ws g.1 (bit_xor (get_or ws g.0 0) (get_or ws g.1 0))

cnot_twice : (ws : List ℕ) (g : Gate) → TwoPlaces (length ws) g → cnot g (cnot g ws) ≡ ws
cnot_twice ws g f =
    let c = get_or ws g.0 0 in
    let t = get_or ws g.1 0 in
    set-set ws g.1 (bit_xor c t) (bit_xor (get_or (cnot g ws) g.0 0) (get_or (cnot g ws) g.1 0))
    ∙ ap (set ws g.1)
    (ap₂ bit_xor (get_or-set_other ws g.1 g.0 (bit_xor c t) 0 (λ e. f.apart (sym e))) (get_or-set_same ws g.1 (bit_xor c t) 0 f.to)
    ∙ sym (xor_assoc c c t) ∙ ap (λ (v : ℕ). bit_xor v t) (xor_self c))
    ∙ set-get_or ws g.1 0

pub xors_survive_gate : XorsSurviveGate
xors_survive_gate S g x f =
    let v = get_or S g.0 0 in
    let d = bit x g.1 in
    xor_over_set S g.1 v (act g x) f.to
    ∙ ap₂ (λ (e s : ℕ). bit_xor (when e v) s) (act_other g x g.1 f.apart)
    (xor_over_xor S x (when d (2 ^ g.0)) ∙ ap (bit_xor (xor_over S x)) (xor_over_when S d (2 ^ g.0) ∙ ap (when d) (xor_over_one S g.0)))
    ∙ xor_cancel (when d v) (xor_over S x)

-- ---- gates on words

at_length : (n : ℕ) (gs : List Gate) (ws : List ℕ) → n ≡ length ws → Each (TwoPlaces n) gs → Each (TwoPlaces (length ws)) gs
at_length n gs ws e h = subst (λ (k : ℕ). Each (TwoPlaces k) gs) e h

pub xors_survive_gates : XorsSurviveGates
xors_survive_gates [] ws x h = refl
xors_survive_gates (g ∷ gs) ws x h =
    xors_survive_gates gs (cnot g ws) (act g x) (at_length (length ws) gs (cnot g ws) (sym (length_cnot ws g)) h.1) ∙ xors_survive_gate ws g x h.0

pub single_places_deliver : SinglePlacesDeliver
single_places_deliver gs ws x p h e =
    sym (xor_over_one (replay gs ws) p) ∙ ap (xor_over (replay gs ws)) (sym e) ∙ xors_survive_gates gs ws x h

pub reverse_undoes_on_words : ReverseUndoesOnWords
reverse_undoes_on_words [] ws h = refl
reverse_undoes_on_words (g ∷ gs) ws h =
    ap (λ (hs : List Gate). replay hs (replay gs (cnot g ws))) (reverse-cons g gs)
    ∙ replay_append (reverse gs) (g ∷ []) (replay gs (cnot g ws))
    ∙ ap (cnot g) (reverse_undoes_on_words gs (cnot g ws) (at_length (length ws) gs (cnot g ws) (sym (length_cnot ws g)) h.1))
    ∙ cnot_twice ws g h.0

-- the set that the gates turn into x is the exclusive or over x of the words that they make from fresh ones
pub replayed_xors : (n : ℕ) (gs : List Gate) (x : ℕ) → Each (TwoPlaces n) gs → x < 2 ^ n → xor_over (replay gs (fresh n)) x ≡ acts (reverse gs) x
replayed_xors n gs x h b =
    ap (xor_over (replay gs (fresh n))) (sym (undoes_reverse_on_sets n gs x h))
    ∙ xors_survive_gates gs (fresh n) (acts (reverse gs) x) (at_length n gs (fresh n) (sym (length_fresh n)) h)
    ∙ fresh_xors_are_sets n (acts (reverse gs) x) (acts_below n (reverse gs) x (each_reverse (TwoPlaces n) gs h) b)

pub xors_tell_sets_apart : XorsTellSetsApart
xors_tell_sets_apart n gs x y h bx by e =
    sym (undoes_reverse_on_sets n gs x h) ∙ ap (acts gs) (sym (replayed_xors n gs x h bx) ∙ e ∙ replayed_xors n gs y h by) ∙ undoes_reverse_on_sets n gs y h

-- a replay commutes with exclusive ors
pub map_replay : (ws : List ℕ) (gs : List Gate) (vs : List ℕ) → map (xor_over ws) (replay gs vs) ≡ replay gs (map (xor_over ws) vs)
map_replay ws [] vs = refl
map_replay ws (g ∷ gs) vs = map_replay ws gs (cnot g vs) ∙ ap (replay gs) (map_cnot ws g vs)

-- a replay from any words is the exclusive or of those over the replay from fresh words
pub replay_from_fresh : (n : ℕ) (ws : List ℕ) (gs : List Gate) (p : ℕ) → length ws ≡ n → get_or (replay gs ws) p 0 ≡ xor_over ws (get_or (replay gs (fresh n)) p 0)
replay_from_fresh n ws gs p e =
    ap (λ (l : List ℕ). get_or (replay gs l) p 0) (map_fresh n ws e)
    ∙ ap (λ (l : List ℕ). get_or l p 0) (sym (map_replay ws gs (fresh n)))
    ∙ get_d_map_zero (xor_over ws) (xor_over_none ws) (replay gs (fresh n)) p

-- The gates that stand in a buffer of entries.
use Rattle.std.proofs.Common.{◌≡◌, ℕ, ◌+◌, ◌-◌, ◌<◌, ◌≤◌, List, [], ◌∷◌, ◌++◌, map, length, get_or, take, drop, set, sym, refl, ap, ◌∙◌, subst, ap₂, arith, take-add}
use native.Mathlib.Nat.{sub_self}
use Rattle.std.proofs.Math.Seq.{take-append_seam, drop-append_seam}
use Rattle.std.proofs.lemmas.List.{map-append, take_all, drop-append-le, length-take-le, drop_more, get_or-set_same, length-set, take-set, take-take, drop-drop, get_or-drop}
use Rattle.std.proofs.lemmas.Slice.{between_is}
use Rattle.parity.specs.Words.{Gate, entry, gate_of}
use Rattle.parity.specs.Gates.{acts, Each}
use Rattle.parity.specs.Entries.{gates_in}
use Rattle.parity.proofs.Words.{rereads}
use Rattle.parity.proofs.Each.{each_append, each_parts}
use Rattle.parity.proofs.Gates.{acts_append}

pub gates_in_none : (xs : List ℕ) (k : ℕ) → gates_in xs k k ≡ []
unfolding gates_in
gates_in_none xs k = ap (λ (n : ℕ). map gate_of (take n (drop k xs))) (sub_self k)

pub gates_in_one : (xs : List ℕ) (k : ℕ) → k < length xs → gates_in xs k (k + 1) ≡ gate_of (get_or xs k 0) ∷ []
unfolding gates_in
gates_in_one xs k h =
    let one : k + 1 - k ≡ 1 = omega arith in
    ap₂ (λ (n : ℕ) (ys : List ℕ). map gate_of (take n ys)) one (drop_more xs k 0 h)

pub gates_whole : (xs : List ℕ) → gates_in xs 0 (length xs) ≡ map gate_of xs
unfolding gates_in
gates_whole xs =
    let all : length xs - 0 ≡ length xs = omega arith in
    ap (λ (n : ℕ). map gate_of (take n xs)) all ∙ ap (map gate_of) (take_all (length xs) xs (omega arith))

-- what stands before k is as it was
pub gates_in_append : (xs ys : List ℕ) (i k j : ℕ) → i ≤ k → k ≤ j → k ≤ length xs → take k ys ≡ take k xs
    → gates_in ys i j ≡ gates_in xs i k ++ gates_in ys k j
unfolding gates_in
gates_in_append xs ys i k j ik kj kl e =
    let split : take j ys ≡ take k xs ++ take (j - k) (drop k ys) =
    ap (λ (n : ℕ). take n ys) (omega arith) ∙ take-add k (j - k) ys ∙ ap (λ (zs : List ℕ). zs ++ take (j - k) (drop k ys)) e in
    let room : i ≤ length (take k xs) = subst (λ (n : ℕ). i ≤ n) (sym (length-take-le k xs kl)) ik in
    ap (map gate_of)
    (between_is ys i j ∙ ap (drop i) split ∙ drop-append-le i (take k xs) (take (j - k) (drop k ys)) room
    ∙ ap (λ (zs : List ℕ). zs ++ take (j - k) (drop k ys)) (sym (between_is xs i k)))
    ∙ map-append gate_of (take (k - i) (drop i xs)) (take (j - k) (drop k ys))

pub gates_in_split : (xs : List ℕ) (i k j : ℕ) → i ≤ k → k ≤ j → k ≤ length xs → gates_in xs i j ≡ gates_in xs i k ++ gates_in xs k j
gates_in_split xs i k j ik kj kl = gates_in_append xs xs i k j ik kj kl refl

pub gates_in_next : (xs : List ℕ) (i k : ℕ) → i ≤ k → k < length xs → gates_in xs i (k + 1) ≡ gates_in xs i k ++ gate_of (get_or xs k 0) ∷ []
gates_in_next xs i k ik kl =
    gates_in_split xs i k (k + 1) ik (omega arith) (omega arith) ∙ ap (λ (hs : List Gate). gates_in xs i k ++ hs) (gates_in_one xs k kl)

pub each_at : (P : Gate → Type 0) (xs : List ℕ) (i k j : ℕ) → i ≤ k → k < j → j ≤ length xs → Each P (gates_in xs i j) → P (gate_of (get_or xs k 0))
each_at P xs i k j ik kj jl h =
    let a = subst (Each P) (gates_in_split xs i (k + 1) j (omega arith) (omega arith) (omega arith)) h in
    let b = (each_parts P (gates_in xs i (k + 1)) (gates_in xs (k + 1) j) a).0 in
    let c = subst (Each P) (gates_in_next xs i k ik (omega arith)) b in
    (each_parts P (gates_in xs i k) (gate_of (get_or xs k 0) ∷ []) c).1.0

-- ---- entries written

pub gates_in_set : (xs : List ℕ) (k e : ℕ) (g : Gate) → k < length xs → g.1 < 64 → e ≡ entry g → gates_in (set xs k e) k (k + 1) ≡ g ∷ []
gates_in_set xs k e g h b p =
    gates_in_one (set xs k e) k (subst (λ (n : ℕ). k < n) (sym (length-set xs k e)) h)
    ∙ ap (λ (f : Gate). f ∷ []) (ap gate_of (get_or-set_same xs k e 0 h ∙ p) ∙ rereads g b)

pub gates_in_two : (xs : List ℕ) (k e f : ℕ) (g h : Gate) → k + 1 < length xs → g.1 < 64 → h.1 < 64 → e ≡ entry g → f ≡ entry h
    → gates_in (set (set xs k e) (k + 1) f) k (k + 2) ≡ g ∷ h ∷ []
gates_in_two xs k e f g h l bg bh pe pf =
    let ys = set xs k e in
    let zs = set ys (k + 1) f in
    let ly : k + 1 < length ys = subst (λ (n : ℕ). k + 1 < n) (sym (length-set xs k e)) l in
    let next : gates_in zs (k + 1) (k + 2) ≡ h ∷ [] =
    ap (gates_in zs (k + 1)) (omega arith) ∙ gates_in_set ys (k + 1) f h ly bh pf in
    gates_in_append ys zs k (k + 1) (k + 2) (omega arith) (omega arith) (omega arith) (take-set ys (k + 1) f)
    ∙ ap₂ ◌++◌ (gates_in_set xs k e g (omega arith) bg pe) next

-- ---- entries before and behind

-- what stands before n is as it was, where what stands before k is
pub front_kept : (xs ys : List ℕ) (n k : ℕ) → n ≤ k → take k ys ≡ take k xs → take n ys ≡ take n xs
front_kept xs ys n k h e = sym (take-take n k ys h) ∙ ap (take n) e ∙ take-take n k xs h

-- what stands from k flip-on is as it was, where what stands from n flip-on is
pub back_kept : (xs ys : List ℕ) (n k : ℕ) → n ≤ k → drop n ys ≡ drop n xs → drop k ys ≡ drop k xs
back_kept xs ys n k h e =
    let s : k ≡ n + (k - n) = omega arith in
    ap (λ (m : ℕ). drop m ys) s ∙ sym (drop-drop (k - n) n ys) ∙ ap (drop (k - n)) e ∙ drop-drop (k - n) n xs ∙ ap (λ (m : ℕ). drop m xs) (sym s)

pub get_d_behind : (xs ys : List ℕ) (k : ℕ) → drop k xs ≡ drop k ys → get_or xs k 0 ≡ get_or ys k 0
get_d_behind xs ys k e =
    let z : k ≡ k + 0 = omega arith in
    ap (λ (m : ℕ). get_or xs m 0) z ∙ sym (get_or-drop k xs 0 0) ∙ ap (λ (zs : List ℕ). get_or zs 0 0) e ∙ get_or-drop k ys 0 0 ∙ ap (λ (m : ℕ). get_or ys m 0) (sym z)

-- entries with others in place of those from i up to j
module _ (xs es : List ℕ) (i j : ℕ) (ij : i ≤ j) (jl : j ≤ length xs) (long : length es ≡ j - i) where
  before : length (take i xs) ≡ i
  before = length-take-le i xs (omega arith)

  pub put_front : take i (take i xs ++ (es ++ drop (j - i) (drop i xs))) ≡ take i xs
  put_front = subst (λ (n : ℕ). take n (take i xs ++ (es ++ drop (j - i) (drop i xs))) ≡ take i xs) before
      (take-append_seam (take i xs) (es ++ drop (j - i) (drop i xs)))

  behind : drop i (take i xs ++ (es ++ drop (j - i) (drop i xs))) ≡ es ++ drop (j - i) (drop i xs)
  behind = subst (λ (n : ℕ). drop n (take i xs ++ (es ++ drop (j - i) (drop i xs))) ≡ es ++ drop (j - i) (drop i xs)) before
      (drop-append_seam (take i xs) (es ++ drop (j - i) (drop i xs)))

  pub put_back : drop j (take i xs ++ (es ++ drop (j - i) (drop i xs))) ≡ drop j xs
  put_back =
      let at : i + length es ≡ j = omega arith in
      let end : i + (j - i) ≡ j = omega arith in
      ap (λ (n : ℕ). drop n (take i xs ++ (es ++ drop (j - i) (drop i xs)))) (sym at)
      ∙ sym (drop-drop (length es) i (take i xs ++ (es ++ drop (j - i) (drop i xs))))
      ∙ ap (drop (length es)) behind ∙ drop-append_seam es (drop (j - i) (drop i xs)) ∙ drop-drop (j - i) i xs ∙ ap (λ (n : ℕ). drop n xs) end

  pub put_gates : gates_in (take i xs ++ (es ++ drop (j - i) (drop i xs))) i j ≡ map gate_of es
  unfolding gates_in
  put_gates = ap (map gate_of) (ap₂ take (sym long) behind ∙ take-append_seam es (drop (j - i) (drop i xs)))

-- what gates do, one stretch more
pub acts_more : (xs ys : List ℕ) (i k j w x y : ℕ) → i ≤ k → k ≤ j → k ≤ length xs → take k ys ≡ take k xs
    → acts (gates_in xs i k) w ≡ x → acts (gates_in ys k j) x ≡ y → acts (gates_in ys i j) w ≡ y
acts_more xs ys i k j w x y ik kj kl e before here =
    ap (λ (gs : List Gate). acts gs w) (gates_in_append xs ys i k j ik kj kl e)
    ∙ acts_append (gates_in xs i k) (gates_in ys k j) w
    ∙ ap (acts (gates_in ys k j)) before ∙ here

pub each_more : (P : Gate → Type 0) (xs ys : List ℕ) (i k j : ℕ) → i ≤ k → k ≤ j → k ≤ length xs → take k ys ≡ take k xs
    → Each P (gates_in xs i k) → Each P (gates_in ys k j) → Each P (gates_in ys i j)
each_more P xs ys i k j ik kj kl e before here =
    subst (Each P) (sym (gates_in_append xs ys i k j ik kj kl e)) (each_append P (gates_in xs i k) (gates_in ys k j) before here)

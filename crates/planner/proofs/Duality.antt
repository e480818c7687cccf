-- Words and dual words: the calls on a block keep them paired.
use Rattle.std.proofs.Common.{◌≡◌, ℕ, ◌^◌, ◌<◌, ◌≤◌, Bool, true, false, cond, ◌&&◌, eqb, ltb, ◌≢◌, ◌⊎◌, List, length, get_or, set, Some, None, sym, refl, ap, ◌∙◌, subst, ap₂, inl, inr, arith}
use lib.Bits.{bit_xor, xor_lt}
use lib.Pow.{pow-lt}
use Rattle.std.proofs.lemmas.List.{get_or-set_same, get_or-set_other, length-set}
use Rattle.std.proofs.lemmas.Bool.{cases_eq, ltb-true, eqb-false}
use Rattle.parity.specs.Words.{fresh}
use Rattle.parity.specs.Pairing.{dot}
use Rattle.parity.proofs.Bits.{bit_pow_same, bit_pow_other}
use Rattle.parity.proofs.Pairing.{dot_xor, dot_comm, dot_pow}
use Rattle.parity.proofs.Words.{get_d_fresh}
use Rattle.planner.specs.declared.fault.WireFault.TheVariants.{NoSuchWire, SameWire}
use Rattle.rounds.specs.Duals.{Paired}
use Rattle.planner.specs.declared.store.Block.{Block}
use Rattle.planner.specs.Blocks.{wire_fault, traded}
use Rattle.planner.specs.Views.{words_of, duals_of}

-- what a block's words and dual words keep
pub record Dual (n : ℕ) (xs ys : List ℕ) : Type 0 where
  pub words_below : (w : ℕ) → w < n → get_or xs w 0 < 2 ^ n
  pub duals_below : (w : ℕ) → w < n → get_or ys w 0 < 2 ^ n
  pub paired : Paired n xs ys

-- those of a block
pub block_dual : (b : Block) → Dual (length (words_of b)) (words_of b) (duals_of b)
block_dual b = record { words_below = b.words_below; duals_below = b.duals_below; paired = b.paired }

pub fresh_dual : (n : ℕ) → Dual n (fresh n) (fresh n)
fresh_dual n =
    let at : (w : ℕ) → w < n → get_or (fresh n) w 0 ≡ 2 ^ w = λ w l. get_d_fresh n w l in
    let below : (w : ℕ) → w < n → get_or (fresh n) w 0 < 2 ^ n = λ w l. subst (λ (x : ℕ). x < 2 ^ n) (sym (at w l)) (pow-lt l) in
    record {
      words_below = below;
      duals_below = below;
      paired = record {
        own = λ w l. ap₂ dot (at w l) (at w l) ∙ dot_pow w (2 ^ w) ∙ bit_pow_same w;
        other = λ w v hw hv wv. ap₂ dot (at w hw) (at v hv) ∙ dot_pow w (2 ^ v) ∙ bit_pow_other v w wv;
      };
    }

dot_right : (x y z : ℕ) → dot x (bit_xor y z) ≡ bit_xor (dot x y) (dot x z)
dot_right x y z = dot_comm x (bit_xor y z) ∙ dot_xor y z x ∙ ap₂ bit_xor (dot_comm y x) (dot_comm z x)

-- an element after a write
after_set : (xs : List ℕ) (i v k : ℕ) → i < length xs
    → ((k ≡ i) × (get_or (set xs i v) k 0 ≡ v)) ⊎ ((k ≢ i) × (get_or (set xs i v) k 0 ≡ get_or xs k 0))
after_set xs i v k h = elim (cases_eq k i) [
  | inl e ↦ inl (e, ap (λ (m : ℕ). get_or (set xs i v) m 0) e ∙ get_or-set_same xs i v 0 h)
  | inr n ↦ inr (n, get_or-set_other xs i k v 0 n)
]

module _ (n : ℕ) (xs ys : List ℕ) (a b : ℕ) (d : Dual n xs ys) (lx : n ≤ length xs) (ly : n ≤ length ys) (an : a < n) (bn : b < n) (ne : a ≢ b) where
  abbrev x : ℕ
  x = bit_xor (get_or xs a 0) (get_or xs b 0)

  abbrev y : ℕ
  y = bit_xor (get_or ys b 0) (get_or ys a 0)

  at_word : (w : ℕ) → ((w ≡ b) × (get_or (set xs b x) w 0 ≡ x)) ⊎ ((w ≢ b) × (get_or (set xs b x) w 0 ≡ get_or xs w 0))
  at_word w = after_set xs b x w (omega arith)

  at_dual : (w : ℕ) → ((w ≡ a) × (get_or (set ys a y) w 0 ≡ y)) ⊎ ((w ≢ a) × (get_or (set ys a y) w 0 ≡ get_or ys w 0))
  at_dual w = after_set ys a y w (omega arith)

  -- the word of b with a dual, and a word with the dual of a
  word_with : (v : ℕ) → v < n → dot x (get_or ys v 0) ≡ bit_xor (dot (get_or xs a 0) (get_or ys v 0)) (dot (get_or xs b 0) (get_or ys v 0))
  word_with v h = dot_xor (get_or xs a 0) (get_or xs b 0) (get_or ys v 0)

  with_dual : (z : ℕ) → dot z y ≡ bit_xor (dot z (get_or ys b 0)) (dot z (get_or ys a 0))
  with_dual z = dot_right z (get_or ys b 0) (get_or ys a 0)

  ba : b ≢ a
  ba e = ne (sym e)

  own' : (w : ℕ) → w < n → dot (get_or (set xs b x) w 0) (get_or (set ys a y) w 0) ≡ 1
  own' w h = go (at_word w) (at_dual w)
    where
      go : ((w ≡ b) × (get_or (set xs b x) w 0 ≡ x)) ⊎ ((w ≢ b) × (get_or (set xs b x) w 0 ≡ get_or xs w 0))
          → ((w ≡ a) × (get_or (set ys a y) w 0 ≡ y)) ⊎ ((w ≢ a) × (get_or (set ys a y) w 0 ≡ get_or ys w 0))
          → dot (get_or (set xs b x) w 0) (get_or (set ys a y) w 0) ≡ 1
      go (inl p) (inl q) = absurd (ne (sym q.0 ∙ p.0))
      go (inl p) (inr q) =
          ap₂ dot p.1 (q.1 ∙ ap (λ (m : ℕ). get_or ys m 0) p.0) ∙ word_with b bn ∙ ap₂ bit_xor (d.paired.other a b an bn ne) (d.paired.own b bn)
      go (inr p) (inl q) =
          ap₂ dot (p.1 ∙ ap (λ (m : ℕ). get_or xs m 0) q.0) q.1 ∙ with_dual (get_or xs a 0) ∙ ap₂ bit_xor (d.paired.other a b an bn ne) (d.paired.own a an)
      go (inr p) (inr q) = ap₂ dot p.1 q.1 ∙ d.paired.own w h

  other' : (w v : ℕ) → (w < n) × (v < n) × (w ≢ v) → dot (get_or (set xs b x) w 0) (get_or (set ys a y) v 0) ≡ 0
  other' w v t = go (at_word w) (at_dual v)
    where
      go : ((w ≡ b) × (get_or (set xs b x) w 0 ≡ x)) ⊎ ((w ≢ b) × (get_or (set xs b x) w 0 ≡ get_or xs w 0))
          → ((v ≡ a) × (get_or (set ys a y) v 0 ≡ y)) ⊎ ((v ≢ a) × (get_or (set ys a y) v 0 ≡ get_or ys v 0))
          → dot (get_or (set xs b x) w 0) (get_or (set ys a y) v 0) ≡ 0
      go (inl p) (inl q) =
          ap₂ dot p.1 q.1 ∙ with_dual x
          ∙ ap₂ bit_xor (word_with b bn ∙ ap₂ bit_xor (d.paired.other a b an bn ne) (d.paired.own b bn)) (word_with a an ∙ ap₂ bit_xor (d.paired.own a an) (d.paired.other b a bn an ba))
      go (inl p) (inr q) =
          let bv : b ≢ v = λ e. t.2 (p.0 ∙ e) in
          ap₂ dot p.1 q.1 ∙ word_with v t.1 ∙ ap₂ bit_xor (d.paired.other a v an t.1 (λ e. q.0 (sym e))) (d.paired.other b v bn t.1 bv)
      go (inr p) (inl q) =
          let wa : w ≢ a = λ e. t.2 (e ∙ sym q.0) in
          ap₂ dot p.1 q.1 ∙ with_dual (get_or xs w 0) ∙ ap₂ bit_xor (d.paired.other w b t.0 bn p.0) (d.paired.other w a t.0 an wa)
      go (inr p) (inr q) = ap₂ dot p.1 q.1 ∙ d.paired.other w v t.0 t.1 t.2

  pub cx_dual : Dual n (set xs b x) (set ys a y)
  cx_dual = record {
    words_below = λ w h. elim (at_word w) [
      | inl p ↦ subst (λ (z : ℕ). z < 2 ^ n) (sym p.1) (xor_lt n (get_or xs a 0) (get_or xs b 0) (d.words_below a an) (d.words_below b bn))
      | inr p ↦ subst (λ (z : ℕ). z < 2 ^ n) (sym p.1) (d.words_below w h)
    ];
    duals_below = λ w h. elim (at_dual w) [
      | inl p ↦ subst (λ (z : ℕ). z < 2 ^ n) (sym p.1) (xor_lt n (get_or ys b 0) (get_or ys a 0) (d.duals_below b bn) (d.duals_below a an))
      | inr p ↦ subst (λ (z : ℕ). z < 2 ^ n) (sym p.1) (d.duals_below w h)
    ];
    paired = record { own = own'; other = λ w v hw hv wv. other' w v (hw, hv, wv) };
  }

-- s is the wire whose word w has, when the words of a and b are traded
abbrev Traded : ℕ → ℕ → ℕ → ℕ → Type 0
Traded a b w s = ((w ≡ b) × (s ≡ a)) ⊎ (((w ≢ b) × (w ≡ a) × (s ≡ b)) ⊎ ((w ≢ b) × (w ≢ a) × (s ≡ w)))

trader : (a b w : ℕ) → (s : ℕ) × Traded a b w s
trader a b w = elim (cases_eq w b) [
  | inl e ↦ (a, inl (e, refl))
  | inr n ↦ elim (cases_eq w a) [ inl e ↦ (b, inr (inl (n, e, refl))) | inr m ↦ (w, inr (inr (n, m, refl))) ]
]

trader_below : (n a b w s : ℕ) → a < n → b < n → w < n → Traded a b w s → s < n
trader_below n a b w s an bn wn (inl p) = subst (λ (m : ℕ). m < n) (sym p.1) an
trader_below n a b w s an bn wn (inr (inl p)) = subst (λ (m : ℕ). m < n) (sym p.2) bn
trader_below n a b w s an bn wn (inr (inr p)) = subst (λ (m : ℕ). m < n) (sym p.2) wn

trader_same : (a b w v s t : ℕ) → a ≢ b → Traded a b w s → Traded a b v t → s ≡ t → w ≡ v
trader_same a b w v s t ne (inl p) (inl q) e = p.0 ∙ sym q.0
trader_same a b w v s t ne (inl p) (inr (inl q)) e = absurd (ne (sym p.1 ∙ e ∙ q.2))
trader_same a b w v s t ne (inl p) (inr (inr q)) e = absurd (q.1 (sym q.2 ∙ sym e ∙ p.1))
trader_same a b w v s t ne (inr (inl p)) (inl q) e = absurd (ne (sym q.1 ∙ sym e ∙ p.2))
trader_same a b w v s t ne (inr (inl p)) (inr (inl q)) e = p.1 ∙ sym q.1
trader_same a b w v s t ne (inr (inl p)) (inr (inr q)) e = absurd (q.0 (sym q.2 ∙ sym e ∙ p.2))
trader_same a b w v s t ne (inr (inr p)) (inl q) e = absurd (p.1 (sym p.2 ∙ e ∙ q.1))
trader_same a b w v s t ne (inr (inr p)) (inr (inl q)) e = absurd (p.0 (sym p.2 ∙ e ∙ q.2))
trader_same a b w v s t ne (inr (inr p)) (inr (inr q)) e = sym p.2 ∙ e ∙ q.2

traded_at : (xs : List ℕ) (a b w s : ℕ) → a < length xs → b < length xs → Traded a b w s → get_or (traded a b xs) w 0 ≡ get_or xs s 0
traded_at xs a b w s ha hb (inl p) =
    ap (λ (m : ℕ). get_or (traded a b xs) m 0) p.0
    ∙ get_or-set_same (set xs a (get_or xs b 0)) b (get_or xs a 0) 0 (subst (λ (m : ℕ). b < m) (sym (length-set xs a (get_or xs b 0))) hb)
    ∙ ap (λ (m : ℕ). get_or xs m 0) (sym p.1)
traded_at xs a b w s ha hb (inr (inl p)) =
    get_or-set_other (set xs a (get_or xs b 0)) b w (get_or xs a 0) 0 p.0
    ∙ ap (λ (m : ℕ). get_or (set xs a (get_or xs b 0)) m 0) p.1 ∙ get_or-set_same xs a (get_or xs b 0) 0 ha ∙ ap (λ (m : ℕ). get_or xs m 0) (sym p.2)
traded_at xs a b w s ha hb (inr (inr p)) =
    get_or-set_other (set xs a (get_or xs b 0)) b w (get_or xs a 0) 0 p.0 ∙ get_or-set_other xs a w (get_or xs b 0) 0 p.1 ∙ ap (λ (m : ℕ). get_or xs m 0) (sym p.2)

pub length_traded : (xs : List ℕ) (a b : ℕ) → length (traded a b xs) ≡ length xs
length_traded xs a b = length-set (set xs a (get_or xs b 0)) b (get_or xs a 0) ∙ length-set xs a (get_or xs b 0)

pub traded_dual : (n : ℕ) (xs ys : List ℕ) (a b : ℕ) → Dual n xs ys → n ≤ length xs → n ≤ length ys → a < n → b < n → a ≢ b
    → Dual n (traded a b xs) (traded a b ys)
traded_dual n xs ys a b d lx ly an bn ne =
    let in_x : (w : ℕ) → get_or (traded a b xs) w 0 ≡ get_or xs (trader a b w).0 0 = λ w. traded_at xs a b w (trader a b w).0 (omega arith) (omega arith) (trader a b w).1 in
    let in_y : (w : ℕ) → get_or (traded a b ys) w 0 ≡ get_or ys (trader a b w).0 0 = λ w. traded_at ys a b w (trader a b w).0 (omega arith) (omega arith) (trader a b w).1 in
    let low : (w : ℕ) → w < n → (trader a b w).0 < n = λ w h. trader_below n a b w (trader a b w).0 an bn h (trader a b w).1 in
    record {
      words_below = λ w h. subst (λ (z : ℕ). z < 2 ^ n) (sym (in_x w)) (d.words_below (trader a b w).0 (low w h));
      duals_below = λ w h. subst (λ (z : ℕ). z < 2 ^ n) (sym (in_y w)) (d.duals_below (trader a b w).0 (low w h));
      paired = record {
        own = λ w h. ap₂ dot (in_x w) (in_y w) ∙ d.paired.own (trader a b w).0 (low w h);
        other = λ w v hw hv wv. ap₂ dot (in_x w) (in_y v)
            ∙ d.paired.other (trader a b w).0 (trader a b v).0 (low w hw) (low v hv)
            (λ e. wv (trader_same a b w v (trader a b w).0 (trader a b v).0 ne (trader a b w).1 (trader a b v).1 e));
      };
    }

pub some_same : {A : Type 0} {x y : A} → Some x ≡ Some y → x ≡ y
some_same h = cc

some_none : {F : Type 0} (f : F) → Some f ≡ None → ⊥
some_none f h = cc

-- no fault: two wires below n
pub two_wires : (n a b : ℕ) → wire_fault n a b ≡ None → (a < n) × (b < n) × (a ≢ b)
two_wires n a b h = go (ltb a n) (ltb b n) (eqb a b) refl refl refl h
  where
    go : (p q r : Bool) → ltb a n ≡ p → ltb b n ≡ q → eqb a b ≡ r → cond (p && q) (cond r (Some SameWire) None) (Some NoSuchWire) ≡ None → (a < n) × (b < n) × (a ≢ b)
    go true true true ea eb ee z = absurd (some_none SameWire z)
    go true true false ea eb ee z = (ltb-true a n ea, ltb-true b n eb, eqb-false a b ee)
    go true false r ea eb ee z = absurd (some_none NoSuchWire z)
    go false q r ea eb ee z = absurd (some_none NoSuchWire z)

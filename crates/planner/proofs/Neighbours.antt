-- Rows of neighbours, coupler by coupler.
use Rattle.std.proofs.Common.{◌≡◌, ℕ, zero, suc, ◌+◌, ◌^◌, ◌<◌, ◌≤◌, Bool, true, false, cond, ◌≢◌, ◌⊎◌, ◌↔◌, List, length, get_or, set, replicate, Some, None, sym, refl, ap, ◌∙◌, subst, inl, inr, arith}
use lib.Bits.{bit_or}
use Rattle.std.proofs.lemmas.List.{get_or-set_same, get_or-set_other, length-set, length-replicate}
use Rattle.std.proofs.lemmas.Bool.{cases_eq}
use Rattle.parity.specs.Words.{Gate}
use Rattle.parity.specs.Sets.{bit}
use Rattle.parity.proofs.Bits.{zero_one, bit_none, bit_cases, bit_pow_same, place_is}
use Rattle.parity.proofs.Masks.{or_cases, or_in_l, or_in_r}
use Rattle.chip.specs.Layout.{Layout, Sound}
use Rattle.chip.specs.Chips.{ends_at, Joins}
use Rattle.machine.specs.OnCoupler.{OnCoupler}
use Rattle.machine.proofs.OnCouplers.{ends_of}
use Rattle.rounds.specs.Ways.{Graph}
use Rattle.planner.specs.Adjacent.{Shows, serving_ends, Added}

-- one end
add_one_end : (rows : List ℕ) (a b x : ℕ) → a < length rows → x ≡ 2 ^ b
    → (p q : ℕ) → (bit (get_or (set rows a (bit_or (get_or rows a 0) x)) p 0) q ≡ 1) ↔ ((bit (get_or rows p 0) q ≡ 1) ⊎ ((p ≡ a) × (q ≡ b)))
add_one_end rows a b x h e p q = (only (cases_eq p a), all)
  where
    same : p ≡ a → get_or (set rows a (bit_or (get_or rows a 0) x)) p 0 ≡ bit_or (get_or rows p 0) x
    same k = ap (λ (m : ℕ). get_or (set rows a (bit_or (get_or rows a 0) x)) m 0) k ∙ get_or-set_same rows a (bit_or (get_or rows a 0) x) 0 h ∙ ap (λ (m : ℕ). bit_or (get_or rows m 0) x) (sym k)

    other : p ≢ a → get_or (set rows a (bit_or (get_or rows a 0) x)) p 0 ≡ get_or rows p 0
    other n = get_or-set_other rows a p (bit_or (get_or rows a 0) x) 0 n

    only : (p ≡ a) ⊎ (p ≢ a) → bit (get_or (set rows a (bit_or (get_or rows a 0) x)) p 0) q ≡ 1 → (bit (get_or rows p 0) q ≡ 1) ⊎ ((p ≡ a) × (q ≡ b))
    only (inl k) o = elim (or_cases (get_or rows p 0) x q (ap (λ (y : ℕ). bit y q) (sym (same k)) ∙ o)) [
      | inl i ↦ inl i
      | inr i ↦ inr (k, sym (place_is b q (ap (λ (y : ℕ). bit y q) (sym e) ∙ i)))
    ]
    only (inr n) o = inl (ap (λ (y : ℕ). bit y q) (sym (other n)) ∙ o)

    all : (bit (get_or rows p 0) q ≡ 1) ⊎ ((p ≡ a) × (q ≡ b)) → bit (get_or (set rows a (bit_or (get_or rows a 0) x)) p 0) q ≡ 1
    all (inl o) = elim (cases_eq p a) [
      | inl k ↦ ap (λ (y : ℕ). bit y q) (same k) ∙ or_in_l (get_or rows p 0) x q o
      | inr n ↦ ap (λ (y : ℕ). bit y q) (other n) ∙ o
    ]
    all (inr t) =
        ap (λ (y : ℕ). bit y q) (same t.0)
        ∙ or_in_r (get_or rows p 0) x q (ap (λ (y : ℕ). bit y q) e ∙ ap (bit (2 ^ b)) t.1 ∙ bit_pow_same b)

-- both ends
pub added : (rows : List ℕ) (a b x y : ℕ) → a < length rows → b < length rows → x ≡ 2 ^ b → y ≡ 2 ^ a
    → Added rows (set (set rows a (bit_or (get_or rows a 0) x)) b (bit_or (get_or (set rows a (bit_or (get_or rows a 0) x)) b 0) y)) a b
added rows a b x y ha hb ex ey =
    let mid = set rows a (bit_or (get_or rows a 0) x) in
    let lm : length (set rows a (bit_or (get_or rows a 0) x)) ≡ length rows = length-set rows a (bit_or (get_or rows a 0) x) in
    let first = add_one_end rows a b x ha ex in
    let second = add_one_end mid b a y (omega arith) ey in
    record {
      rows = length-set mid b (bit_or (get_or mid b 0) y) ∙ lm;
      joined = λ p q. (
        (λ o. elim ((second p q).0 o) [
          | inl i ↦ elim ((first p q).0 i) [ inl j ↦ inl j | inr t ↦ inr (inl t) ]
          | inr t ↦ inr (inr t)
        ]),
        (λ s. elim s [
          | inl j ↦ (second p q).1 (inl ((first p q).1 (inl j)))
          | inr t ↦ elim t [ inl u ↦ (second p q).1 (inl ((first p q).1 (inr u))) | inr u ↦ (second p q).1 (inr u) ]
        ]),
      );
    }

-- one of the first k couplers is in service and joins the gate's two places
pub record ServedBelow (l : Layout) (service : List Bool) (k : ℕ) (g : Gate) : Type 0 where
  pub coupler : ℕ
  pub below : coupler < k
  pub joins : Joins l g.0 g.1 coupler
  pub serves : get_or service coupler false ≡ true

-- the rows have the neighbours that the first k couplers make
pub record Rows (l : Layout) (service : List Bool) (rows : List ℕ) (k : ℕ) : Type 0 where
  pub wide : length rows ≡ l.places
  pub neighbours : (p q : ℕ) → (bit (get_or rows p 0) q ≡ 1) ↔ ServedBelow l service k (p, q)

pub get_d_zeros : (n p : ℕ) → ◌≡◌ {A = ℕ} (get_or (replicate n 0) p 0) 0
get_d_zeros zero p = refl
get_d_zeros (suc n) zero = refl
get_d_zeros (suc n) (suc p) = get_d_zeros n p

pub no_rows : (l : Layout) (service : List Bool) → Rows l service (replicate l.places 0) 0
no_rows l service = record {
  wide = length-replicate l.places 0;
  neighbours = λ p q. (
    (λ o. zero_one (bit (get_or (replicate l.places 0) p 0) q) (ap (λ (y : ℕ). bit y q) (get_d_zeros l.places p) ∙ bit_none q) o),
    (λ s. absurd (let h : s.coupler < 0 = s.below in omega arith)),
  );
}

some_none : {F : Type 0} (f : F) → Some f ≡ None → ⊥
some_none f h = cc

-- what `serving` tells
pub serving_some : (l : Layout) (service : List Bool) (k : ℕ) (e : ℕ × ℕ) → Some e ≡ serving_ends l service k → (get_or service k false ≡ true) × (ends_at l k ≡ e)
serving_some l service k e h = go (get_or service k false) refl h
  where
    go : (b : Bool) → get_or service k false ≡ b → Some e ≡ cond b (Some (ends_at l k)) None → (get_or service k false ≡ true) × (ends_at l k ≡ e)
    go true on z = (on, cc)
    go false off z = absurd (some_none e z)

pub serving_none : (l : Layout) (service : List Bool) (k : ℕ) → None ≡ serving_ends l service k → get_or service k false ≡ false
serving_none l service k h = go (get_or service k false) refl h
  where
    go : (b : Bool) → get_or service k false ≡ b → None ≡ cond b (Some (ends_at l k)) None → get_or service k false ≡ false
    go true on z = absurd (some_none (ends_at l k) (sym z))
    go false off z = off

longer : {l : Layout} {service : List Bool} {k : ℕ} {g : Gate} → ServedBelow l service k g → ServedBelow l service (k + 1) g
longer s = let h = s.below in record { coupler = s.coupler; below = omega arith; joins = s.joins; serves = s.serves }

-- one coupler more, in service
pub rows_joined : (l : Layout) (service : List Bool) (rows rows' : List ℕ) (k a b : ℕ) → k < length l.couplers
    → Some (a, b) ≡ serving_ends l service k → Rows l service rows k → Added rows rows' a b → Rows l service rows' (k + 1)
rows_joined l service rows rows' k a b h some r d =
    let on = serving_some l service k (a, b) some in
    let here : (p q : ℕ) → (ends_at l k ≡ (p, q)) ⊎ (ends_at l k ≡ (q, p)) → ServedBelow l service (k + 1) (p, q) =
    λ p q e. record { coupler = k; below = omega arith; joins = record { there = h; ends = e }; serves = on.0 } in
    record {
      wide = d.rows ∙ r.wide;
      neighbours = λ p q. (
        (λ o. elim ((d.joined p q).0 o) [
          | inl i ↦ longer ((r.neighbours p q).0 i)
          | inr t ↦ elim t [
            | inl u ↦ here p q (inl (let x = u.0 in let y = u.1 in on.1 ∙ cc))
            | inr u ↦ here p q (inr (let x = u.0 in let y = u.1 in on.1 ∙ cc))
          ]
        ]),
        (λ s. elim (cases_eq s.coupler k) [
          | inr n ↦
              let b : s.coupler < k + 1 = s.below in
              (d.joined p q).1 (inl ((r.neighbours p q).1 (record { coupler = s.coupler; below = omega arith; joins = s.joins; serves = s.serves })))
          | inl e ↦ (d.joined p q).1 (inr (ends_tell p q s.joins e on.1))
        ]),
      );
    }
  where
    ends_tell : (p q : ℕ) {c : ℕ} → Joins l p q c → c ≡ k → ends_at l k ≡ (a, b) → ((p ≡ a) × (q ≡ b)) ⊎ ((p ≡ b) × (q ≡ a))
    ends_tell p q j e w = elim j.ends [
      | inl z ↦ inl (let y : (p, q) ≡ (a, b) = sym z ∙ ap (ends_at l) e ∙ w in (ap (λ (t : ℕ × ℕ). t.0) y, ap (λ (t : ℕ × ℕ). t.1) y))
      | inr z ↦ inr (let y : (q, p) ≡ (a, b) = sym z ∙ ap (ends_at l) e ∙ w in (ap (λ (t : ℕ × ℕ). t.1) y, ap (λ (t : ℕ × ℕ). t.0) y))
    ]

-- one coupler more, out of service
pub rows_skipped : (l : Layout) (service : List Bool) (rows : List ℕ) (k : ℕ)
    → None ≡ serving_ends l service k → Rows l service rows k → Rows l service rows (k + 1)
rows_skipped l service rows k none r = record {
  wide = r.wide;
  neighbours = λ p q. (
    (λ o. longer ((r.neighbours p q).0 o)),
    (λ s. elim (cases_eq s.coupler k) [
      | inr n ↦
          let b : s.coupler < k + 1 = s.below in
          (r.neighbours p q).1 (record { coupler = s.coupler; below = omega arith; joins = s.joins; serves = s.serves })
      | inl e ↦ absurd (true_false (sym s.serves ∙ ap (λ (m : ℕ). get_or service m false) e ∙ serving_none l service k none))
    ]),
  );
}
  where
    true_false : true ≡ false → ⊥
    true_false h = cc

-- all couplers
pub rows_show : (l : Layout) (service : List Bool) (rows : List ℕ) (k : ℕ) → length l.couplers ≤ k → Rows l service rows k
    → Shows l service rows
rows_show l service rows k h r = record {
  places = r.wide;
  neighbours = λ p q. (
    (λ o. let s = (r.neighbours p q).0 o in record { coupler = s.coupler; joins = s.joins; serves = s.serves }),
    (λ s.
        let t = s.joins.there in
        (r.neighbours p q).1 (record { coupler = s.coupler; below = omega arith; joins = s.joins; serves = s.serves })),
  );
}

pub turned_on : {l : Layout} {service : List Bool} {p q : ℕ} → OnCoupler l service (p, q) → OnCoupler l service (q, p)
turned_on {l} {service} {p} {q} s = record {
  coupler = s.coupler;
  joins = record { there = s.joins.there; ends = elim s.joins.ends [ inl e ↦ inr e | inr e ↦ inl e ] };
  serves = s.serves;
}

-- what is shown is a graph
pub shows_graph : (l : Layout) (service : List Bool) (adj : List ℕ) → Sound l → Shows l service adj → Graph adj
shows_graph l service adj so s = record {
  both = λ p q o. (s.neighbours q p).1 (turned_on ((s.neighbours p q).0 o));
  loopless = λ p. elim (bit_cases (get_or adj p 0) p) [
    | inl z ↦ z
    | inr o ↦ let c = (s.neighbours p p).0 o in absurd ((ends_of l p p c.coupler so c.joins).apart refl)
  ];
  below = λ p q o. (let c = (s.neighbours p q).0 o in subst (λ (m : ℕ). q < m) (sym s.places) (ends_of l p q c.coupler so c.joins).to);
}

-- rows with one coupler more
next_rows : (l : Layout) (service : List Bool) (k : ℕ) → Sound l → k < length l.couplers → (rows : List ℕ) → Rows l service rows k
    → (b : Bool) → get_or service k false ≡ b → (rows' : List ℕ) × Rows l service rows' (k + 1)
next_rows l service k so h rows r false off = (rows, rows_skipped l service rows k (sym (ap (λ (v : Bool). cond v (Some (ends_at l k)) None) off)) r)
next_rows l service k so h rows r true on =
    let a = (ends_at l k).0 in
    let b = (ends_at l k).1 in
    let mid = set rows a (bit_or (get_or rows a 0) (2 ^ b)) in
    let left = so.left_below k h in
    let right = so.right_below k h in
    let wide = r.wide in (
      set mid b (bit_or (get_or mid b 0) (2 ^ a)),
      rows_joined l service rows (set mid b (bit_or (get_or mid b 0) (2 ^ a))) k a b h (sym (ap (λ (v : Bool). cond v (Some (ends_at l k)) None) on)) r
          (added rows a b (2 ^ b) (2 ^ a) (omega arith) (omega arith) refl refl),
    )

all_rows : (l : Layout) (service : List Bool) → Sound l → (k : ℕ) → k ≤ length l.couplers → (rows : List ℕ) × Rows l service rows k
all_rows l service so zero h = (replicate l.places 0, no_rows l service)
all_rows l service so (suc k) h =
    let before = all_rows l service so k (omega arith) in
    let here = next_rows l service k so h before.0 before.1 (get_or service k false) refl in
    let one : k + 1 ≡ suc k = omega arith in
    (here.0, subst (Rows l service here.0) one here.1)

-- each layout is shown by some rows
pub shown : (l : Layout) (service : List Bool) → Sound l → (adj : List ℕ) × Shows l service adj
shown l service so =
    let r = all_rows l service so (length l.couplers) (omega arith) in
    (r.0, rows_show l service r.0 (length l.couplers) (omega arith) r.1)

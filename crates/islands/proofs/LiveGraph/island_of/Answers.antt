use Rattle.std.proofs.Common.{◌≡◌, ℕ, ◌+◌, ◌-◌, ◌^◌, ◌<◌, length, get_or, sym, ap, ◌∙◌, subst, inl, inr, lt_of_le_of_lt, arith, lit<, pow_pos}
use lib.Pow.{pow-lt}
use lib.Bits.{bit_and, bit_or, bit_xor, or_lt, xor_lt, and_le_r}
use Rattle.parity.specs.Sets.{bit}
use Rattle.parity.proofs.Bits.{zero_one, bit_none, bit_pow_same, place_below, place_is, flip_cases, set_unless}
use Rattle.parity.proofs.Masks.{or_cases, or_in_l, or_in_r, and_in, and_parts, flip_up}
use Rattle.islands.specs.Graphs.{Reach, here, there}
use Rattle.islands.proofs.Reached.{reach_closed}
use Rattle.islands.proofs.LiveGraph.island_of.Goals as goal

pub loop-q-init : goal.loop-q-init
loop-q-init c =
    let s = c.args.start in
    let r : c.single-seen.result ≡ 2 ^ s = c.single-seen.ensures.place (omega arith) in (
      subst (λ (x : ℕ). x < 2 ^ length c.args.self.now.rows.now) (sym r) (pow-lt c.requires),
      ap (λ x. bit x s) r ∙ bit_pow_same s,
      λ q o. subst (Reach c.args.self.now.rows.now c.args.self.now.live s) (place_is s q (ap (λ x. bit x q) (sym r) ∙ o)) here,
      lit< tt,
      λ q _ o _ _. zero_one (bit 0 q) (bit_none q) o,
    )

pub returns : goal.returns
returns c =
    let inv = c.loop-q.invariant in
    let seen = c.loop-q.seen in
    let none : (q : ℕ) → bit c.without.result q ≡ 0 = λ q. ap (λ x. bit x q) c.in_default.ensures ∙ bit_none q in
    let all : (q : ℕ) → bit seen q ≡ 1 → bit c.loop-q.done q ≡ 1 =
    λ q o. set_unless c.loop-q.done q (λ z. zero_one (bit c.without.result q) (none q) (c.without.ensures.all q o z)) in
    record {
      only_reached = inv.2;
      all_reached = λ q p. reach_closed c.args.self.now.rows.now c.args.self.now.live c.args.start seen inv.1 (λ a b h. inv.4 a b (all a h)) p;
    }

pub bounds-self-q : goal.bounds-self-q
bounds-self-q c =
    place_below (length c.args.self.now.rows.now) c.loop-q.seen c.in-Some.q c.loop-q.invariant.0
    (c.without.ensures.only c.in-Some.q c.in-Some.ensures.inside).0

-- the place that was picked: it is seen, and not done
picked : (c : goal.After-single-done) → (bit c.loop-q.seen c.in-Some.q ≡ 1) × (bit c.loop-q.done c.in-Some.q ≡ 0)
picked c = c.without.ensures.only c.in-Some.q c.in-Some.ensures.inside

pub loop-q-smaller : goal.loop-q-smaller
loop-q-smaller c =
    let q = c.in-Some.q in
    let d = c.loop-q.done in
    let low = c.in-Some.ensures.below in
    let e : bit_xor d c.single-done.result ≡ d + 2 ^ q = ap (bit_xor d) (c.single-done.ensures.place low) ∙ flip_up d q (picked c).1 in
    let b : d < 2 ^ 64 = c.loop-q.invariant.3 in
    let p = pow_pos q in
    let goal : 2 ^ 64 - bit_xor d c.single-done.result < 2 ^ 64 - d = omega arith in
    goal

pub loop-q-preserved : goal.loop-q-preserved
loop-q-preserved c =
    let adj = c.args.self.now.rows.now in
    let live = c.args.self.now.live in
    let q = c.in-Some.q in
    let d = c.loop-q.done in
    let seen = c.loop-q.seen in
    let inv = c.loop-q.invariant in
    let more = bit_and (get_or adj q 0) live in
    let low = c.in-Some.ensures.below in
    let grown : c.with_live-seen.result ≡ bit_or seen more = c.with_live-seen.ensures in
    let e : bit_xor d c.single-done.result ≡ bit_xor d (2 ^ q) = ap (bit_xor d) (c.single-done.ensures.place low) in
    let kept : (r : ℕ) → bit seen r ≡ 1 → bit c.with_live-seen.result r ≡ 1 = λ r o. ap (λ z. bit z r) grown ∙ or_in_l seen more r o in (
      subst (λ (x : ℕ). x < 2 ^ length adj) (sym grown)
          (or_lt (length adj) seen more inv.0 (lt_of_le_of_lt (and_le_r (get_or adj q 0) live) c.args.self.now.inside)),
      kept c.args.start inv.1,
      λ r o. elim (or_cases seen more r (ap (λ z. bit z r) (sym grown) ∙ o)) [
        | inl a ↦ inv.2 r a
        | inr a ↦ let p = and_parts (get_or adj q 0) live r a in there (inv.2 q (picked c).0) p.0 p.1
      ],
      subst (λ (x : ℕ). x < 2 ^ 64) (sym e) (xor_lt 64 d (2 ^ q) inv.3 (pow-lt low)),
      λ a r o x y. elim (flip_cases d q a (ap (λ z. bit z a) (sym e) ∙ o)) [
        | inl s ↦ ap (λ z. bit z r) grown ∙ or_in_r seen more r (and_in (get_or adj q 0) live r (ap (λ z. bit (get_or adj z 0) r) (sym s) ∙ x) y)
        | inr s ↦ kept r (inv.4 a r s x y)
      ],
    )

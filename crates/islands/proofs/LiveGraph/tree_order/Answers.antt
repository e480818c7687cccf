use Rattle.std.proofs.Common.{◌≡◌, ◌^◌, ◌<◌, [], ◌∷◌, length, sym, get_or, refl, ap, ◌∙◌, subst, arith, length-set}
use lib.Bits.{bit_xor}
use Rattle.std.proofs.lemmas.List.{length-append}
use Rattle.parity.specs.Sets.{bit}
use Rattle.parity.proofs.Bits.{zero_one, bit_none, set_unless}
use Rattle.parity.proofs.Masks.{and_in}
use Rattle.islands.proofs.Growing.{Next, growing_start, growing_below, growing_skip, next_place, growing_room, growing_add, growing_done, growing_few}
use Rattle.islands.proofs.LiveGraph.tree_order.Goals as goal

pub loop-head-init : goal.loop-head-init
loop-head-init c = (
  omega (arith, c.push.ensures.len, c.new.ensures),
  omega (arith, c.push.ensures.len, ap length c.new.ensures),
  refl,
  simp (c.push.ensures.items, c.new.ensures)
      (growing_start c.args.self.now.rows.now c.args.self.now.live c.args.root _ c.single-seen.result (c.single-seen.ensures.place (omega arith)) c.requires.inside),
)

pub bounds-self-q : goal.bounds-self-q
bounds-self-q c = subst (λ p. p < length c.args.self.now.rows.now) (sym (ap (λ l. get_or l c.loop-head.head 0) c.deref.ensures.0))
    (growing_below c.loop-head.invariant.3 c.loop-head.head (omega (arith, c.len.ensures.value, c.loop-head-test.true)))

pub offset_bounds-self-q : goal.offset_bounds-self-q
offset_bounds-self-q c =
    let small = c.args.self.now.small in
    let below = growing_below c.loop-head.invariant.3 c.loop-head.head (omega (arith, c.len.ensures.value, c.loop-head-test.true)) in
    let same = ap (λ l. get_or l c.loop-head.head 0) c.deref.ensures.0 in
    omega arith

pub loop-head-preserved : goal.loop-head-preserved
loop-head-preserved c =
    let live = c.args.self.now.live in
    let rows = c.args.self.now.rows.now in
    let seen = c.loop-head.seen in
    let here = ap (λ l. get_or l c.loop-head.head 0) c.deref.ensures.0 in
    let from = get_or rows (get_or c.deref.result.now c.loop-head.head 0) 0 in (
      omega (arith, c.len.ensures.value, c.loop-head-test.true),
      c.loop-head.invariant.1,
      c.loop-head.invariant.2,
      growing_skip c.loop-head.invariant.3
          (λ r a b. set_unless seen r (λ z.
          zero_one (bit c.without.result r) (ap (λ x. bit x r) c.in-None.ensures ∙ bit_none r)
          (c.without.ensures.all r (and_in from live r (ap (λ p. bit (get_or rows p 0) r) here ∙ a) b) z))),
    )

pub hang-requires : goal.hang-requires
hang-requires c =
    let next = next_place c.args.self.now.rows.now c.args.self.now.live c.loop-head.seen (get_or c.deref.result.now c.loop-head.head 0) c.in-Some.r
    c.args.self.now.inside (c.without.ensures.only c.in-Some.r c.in-Some.ensures.inside) in
    let fits = growing_room c.loop-head.invariant.3 next in
    record { room = (omega arith, omega (arith, fits, c.args.self.now.small)) }

pub loop-head-preserved-in-Some : goal.loop-head-preserved-in-Some
loop-head-preserved-in-Some c =
    let rows = c.args.self.now.rows.now in
    let live = c.args.self.now.live in
    let here = ap (λ l. get_or l c.loop-head.head 0) c.deref.ensures.0 in
    let next = subst (λ p. Next rows live c.loop-head.seen p c.in-Some.r) here
    (next_place rows live c.loop-head.seen (get_or c.deref.result.now c.loop-head.head 0) c.in-Some.r c.args.self.now.inside (c.without.ensures.only c.in-Some.r c.in-Some.ensures.inside)) in
    let fits = growing_room c.loop-head.invariant.3 next in
    let grown : bit_xor c.loop-head.seen c.single-seen-in-Some.result ≡ bit_xor c.loop-head.seen (2 ^ c.in-Some.r) =
    ap (bit_xor c.loop-head.seen) (c.single-seen-in-Some.ensures.place (omega arith)) in (
      omega (arith, c.hang.ensures.one_more),
      omega (arith, c.hang.ensures.one_more),
      ap length c.hang.ensures.below_its_parent ∙ length-set c.loop-head.tree.parent c.in-Some.r _ ∙ c.loop-head.invariant.2,
      simp (c.hang.ensures.placed, c.hang.ensures.below_its_parent, here, grown, length-append c.loop-head.tree.order.items (c.in-Some.r ∷ []))
          (growing_add c.loop-head.invariant.3 next (omega (arith, c.len.ensures.value, c.loop-head-test.true)) refl (omega arith)),
    )

pub returns : goal.returns
returns c =
    record {
      no_more_than_places = c.loop-head.invariant.1;
      no_more_than_live = growing_few c.loop-head.invariant.3;
      tree = growing_done c.loop-head.invariant.3 (omega (arith, c.len.ensures.value, c.loop-head-test.false));
    }

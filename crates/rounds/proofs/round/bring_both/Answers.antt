use Rattle.std.proofs.Common.{◌≡◌, ℕ, ◌+◌, ◌-◌, ◌*◌, ◌≤◌, List, ◌++◌, length, get_or, take, drop, sym, ap, ◌∙◌, subst, inl, inr, arith}
use lib.Bits.{bit_and}
use lib.Count.{ones}
use Rattle.parity.specs.Words.{Gate}
use Rattle.parity.specs.Sets.{bit}
use Rattle.parity.specs.Gates.{acts, TwoPlaces, Each}
use Rattle.parity.specs.Pairing.{turned}
use Rattle.parity.specs.Entries.{gates_in}
use Rattle.parity.proofs.Bits.{zero_one, bit_cases, bit_some}
use Rattle.parity.proofs.Masks.{and_in, and_parts, and_same}
use Rattle.parity.proofs.Each.{each_map, each_turned, two_places_more}
use Rattle.parity.proofs.Gates.{acts_agree}
use Rattle.parity.proofs.Pairing.{turned_append, turned_twice, turned_still}
use Rattle.parity.proofs.Entries.{gates_in_append, each_more, front_kept, back_kept, put_front, put_back, put_gates}
use Rattle.islands.specs.Graphs.{Reach, here, OnEdge, OnIsland}
use Rattle.rounds.specs.Duals.{Moved}
use Rattle.rounds.proofs.Moving.{moved_append, dual_has}
use Rattle.rounds.proofs.round.bring_both.Goals as goal

pub carry-requires : goal.carry-requires
unfolding gates_in
carry-requires c = each_map (TwoPlaces (length c.args.graph.now.rows.now)) (TwoPlaces 64) (two_places_more (length c.args.graph.now.rows.now) 64 c.args.graph.now.small)
    (gates_in c.bring_along-mid.new.out c.args.at c.bring_along-mid.result) c.bring_along-mid.ensures.two_places

pub bring_along-end-requires : goal.bring_along-end-requires
unfolding gates_in
bring_along-end-requires c =
    let r = c.args.r in
    let y = get_or c.carry.new.reversed c.args.w 0 in
    let i = c.island_of-island.result in
    let h : bit y r ≡ 1 =
    dual_has (length c.args.graph.now.rows.now) (gates_in c.bring_along-mid.new.out c.args.at c.bring_along-mid.result)
    c.args.wanted.now c.args.duals.now c.carry.new.reversed c.args.w r
    c.bring_along-mid.ensures.two_places c.carry.ensures.moved_turned c.bring_along-mid.ensures.brought c.requires.paired in
    record {
      tree = c.tree_order-tree.ensures.tree;
      few = c.tree_order-tree.ensures.no_more_than_live c.requires.alive;
      some = bit_some (bit_and y i) r (and_in y i r h (c.island_of-island.ensures.all_reached r here));
      on_island = λ q o. c.island_of-island.ensures.only_reached q (and_parts y i q o).1;
      alive = c.requires.alive;
      room = omega (arith, c.bring_along-mid.ensures.wrote.few);
    }

pub carry-requires-2 : goal.carry-requires-2
unfolding gates_in
carry-requires-2 c = each_map (TwoPlaces (length c.args.graph.now.rows.now)) (TwoPlaces 64) (two_places_more (length c.args.graph.now.rows.now) 64 c.args.graph.now.small)
    (gates_in c.bring_along-end.new.out c.bring_along-mid.result c.bring_along-end.result) c.bring_along-end.ensures.two_places

pub turn-requires : goal.turn-requires
unfolding gates_in
turn-requires c = each_map (TwoPlaces (length c.args.graph.now.rows.now)) (TwoPlaces 64) (two_places_more (length c.args.graph.now.rows.now) 64 c.args.graph.now.small)
    (gates_in c.bring_along-end.new.out c.bring_along-mid.result c.bring_along-end.result) c.bring_along-end.ensures.two_places

pub returns : goal.returns
unfolding gates_in
returns c =
    let adj = c.args.graph.now.rows.now in
    let n = length adj in
    let live = c.args.graph.now.live in
    let r = c.args.r in
    let w = c.args.w in
    let at = c.args.at in
    let mid = c.bring_along-mid.result in
    let end = c.bring_along-end.result in
    let out0 = c.args.out.now in
    let out1 = c.bring_along-mid.new.out in
    let out2 = c.bring_along-end.new.out in
    let es = c.turn.new.entries in
    let out3 = take mid out2 ++ (es ++ drop (end - mid) (drop mid out2)) in
    let b1 = c.bring_along-mid.ensures in
    let b2 = c.bring_along-end.ensures in
    let f1 : at ≤ mid = b1.wrote.forward in
    let f2 : mid ≤ end = b2.wrote.forward in
    let few1 : mid ≤ at + 2 * (ones live - 1) = b1.wrote.few in
    let few2 : end ≤ mid + 2 * (ones live - 1) = b2.wrote.few in
    let gs = gates_in out1 at mid in
    let hs = gates_in out2 mid end in
    let isl = c.island_of-island.result in
    let A = c.args.wanted.now in
    let B = c.args.duals.now in
    let A1 = c.carry.new.straight in
    let B1 = c.carry.new.reversed in
    let A2 = c.carry-2.new.reversed in
    let B2 = c.carry-2.new.straight in
    let ml : mid ≤ length out1 = omega arith in
    let el : end ≤ length out2 = omega arith in
    let long : length es ≡ end - mid = omega arith in
    let turns : gates_in out3 mid end ≡ turned hs = put_gates out2 es mid end f2 el long ∙ c.turn.ensures in
    let front : take mid out3 ≡ take mid out1 = put_front out2 es mid end f2 el long ∙ b2.wrote.front in
    let all : gates_in out3 at end ≡ gs ++ turned hs =
    gates_in_append out1 out3 at mid end f1 f2 ml front ∙ ap (λ (ks : List Gate). gs ++ ks) turns in
    let each : (P : Gate → Type 0) → ((g : Gate) → P g → P (g.1, g.0)) → Each P gs → Each P hs → Each P (gates_in out3 at end) =
    λ P f a b. each_more P out1 out3 at mid end f1 f2 ml front a
    (subst (Each P) (sym turns) (each_turned P P f hs b)) in
    let has : bit (get_or B1 w 0) r ≡ 1 =
    dual_has n gs A B B1 w r b1.two_places c.carry.ensures.moved_turned b1.brought c.requires.paired in
    let y = get_or B1 w 0 in
    record {
      both = record {
        wrote = record {
          forward = omega arith;
          few = omega arith;
          front = front_kept out1 out3 at mid f1 front ∙ b1.wrote.front;
          back = put_back out2 es mid end f2 el long ∙ b2.wrote.back ∙ back_kept out0 out1 mid end f2 b1.wrote.back;
        };
        on_edges = each (OnEdge adj) (λ g e. elim e [ inl a ↦ inr a | inr a ↦ inl a ]) b1.on_edges b2.on_edges;
        two_places = each (TwoPlaces n) (λ g f. record { apart = λ e. f.apart (sym e); from = f.to; to = f.from }) b1.two_places b2.two_places;
        on_island = each (OnIsland adj live r) (λ g f. (f.1, f.0)) b1.on_island b2.on_island;
        moved = subst (λ (ks : List Gate). Moved ks A A2) (sym all)
            (moved_append gs (turned hs) A A1 A2 c.carry.ensures.moved c.carry-2.ensures.moved_turned);
        duals_moved = subst (λ (ks : List Gate). Moved ks B B2)
            (sym (ap turned all ∙ turned_append gs (turned hs) ∙ ap (λ (ks : List Gate). turned gs ++ ks) (turned_twice hs)))
            (moved_append (turned gs) hs B B1 B2 c.carry.ensures.moved_turned c.carry-2.ensures.moved);
        brought = c.carry-2.ensures.moved_turned w ∙ ap (acts (turned hs)) (c.carry.ensures.moved w ∙ b1.brought)
            ∙ turned_still hs r (b2.spares_root (sym (and_same y isl r (c.island_of-island.ensures.all_reached r here)) ∙ has));
        dual_alone = λ q p. ap (λ (x : ℕ). bit x q) (c.carry-2.ensures.moved w)
            ∙ acts_agree (Reach adj live r) hs y (bit_and y isl)
            (each_map (OnIsland adj live r) (λ g. Reach adj live r g.1) (λ g f. f.1) hs b2.on_island)
            (λ s t. and_same y isl s (c.island_of-island.ensures.all_reached s t)) q p
            ∙ ap (λ (x : ℕ). bit x q) b2.brought;
      };
      told = λ q. elim (bit_cases isl q) [
        | inl z ↦ inr (λ p. zero_one (bit isl q) z (c.island_of-island.ensures.all_reached q p))
        | inr o ↦ inl (c.island_of-island.ensures.only_reached q o)
      ];
    }

use Rattle.std.proofs.Common.{◌≡◌, ℕ, Option, Some, subst, ◌^◌, length, get_or, sym, refl, ap, ◌∙◌, inl, inr}
use Rattle.std.specs.Option.{MatchOption}
use Rattle.parity.specs.Sets.{bit, LowestPlace}
use Rattle.parity.proofs.Bits.{zero_one, bit_cases, place_below, place_is}
use Rattle.parity.proofs.Counts.{single_place}
use Rattle.islands.specs.Graphs.{here}
use Rattle.rounds.proofs.Ways.{reach_trans, reach_back}
use Rattle.rounds.proofs.give.Goals as goal

lowest_there : (x q : ℕ) (found : Option ℕ) → found ≡ Some q → MatchOption found (x ≡ 0) (LowestPlace x) → LowestPlace x q
lowest_there x q found e l = subst (λ o. MatchOption o (x ≡ 0) (LowestPlace x)) e l

pub island_of-island-requires : goal.island_of-island-requires
island_of-island-requires c =
    let o = (lowest_there _ _ _ c.unwrap-start.ensures c.lowest.ensures).inside in
    let l = c.requires.alive c.unwrap-start.result o in
    place_below (length c.args.graph.now.rows.now) c.args.graph.now.live c.unwrap-start.result c.args.graph.now.inside l

pub returns-then-all_single_on : goal.returns-then-all_single_on
returns-then-all_single_on c =
    let xs = c.args.wanted.now in
    let w = c.args.w in
    let start = c.unwrap-start.result in
    let isl = c.island_of-island.result in
    let o = (lowest_there _ _ _ c.unwrap-start.ensures c.lowest.ensures).inside in
    let l = c.requires.alive start o in
    let yes = c.if-all_single_on.ensures.yes refl in
    let s = single_place (get_or xs w 0) (yes w c.requires.wire.0 start o (c.island_of-island.ensures.all_reached start here)) in
    let e : s.0 ≡ start = place_is s.0 start (ap (λ (x : ℕ). bit x start) (sym s.1) ∙ o) in
    record {
      below = place_below (length c.args.graph.now.rows.now) c.args.graph.now.live start c.args.graph.now.inside l;
      alive = l;
      told = λ q. elim (bit_cases isl q) [
        | inl z ↦ inr (λ p. zero_one (bit isl q) z (c.island_of-island.ensures.all_reached q p))
        | inr k ↦ inl (c.island_of-island.ensures.only_reached q k)
      ];
      given = inl (record {
        sets = refl;
        duals = refl;
        entries = refl;
        stays = refl;
        single = s.1 ∙ ap (λ (m : ℕ). 2 ^ m) e;
        others = λ v h q b p. yes v h q b (c.island_of-island.ensures.all_reached q p);
      });
    }

pub root-r-requires : goal.root-r-requires
root-r-requires c =
    let o = (lowest_there _ _ _ c.unwrap-start.ensures c.lowest.ensures).inside in
    let l = c.requires.alive c.unwrap-start.result o in
    record {
      graph = c.requires.graph;
      inside = place_below (length c.args.graph.now.rows.now) c.args.graph.now.live c.unwrap-start.result c.args.graph.now.inside l;
      alive = l;
    }

pub bring_both-end-requires : goal.bring_both-end-requires
bring_both-end-requires c =
    let start = c.unwrap-start.result in
    let o = (lowest_there _ _ _ c.unwrap-start.ensures c.lowest.ensures).inside in
    record {
      inside = c.root-r.ensures.below;
      alive = c.root-r.ensures.alive;
      wire = (c.requires.wire.0, c.requires.wire.1);
      on_island = λ q b. reach_trans (reach_back c.requires.graph (c.requires.alive start o) c.root-r.ensures.reached) (c.requires.on_island start q o b);
      paired = c.requires.paired;
      room = c.requires.room;
    }

pub returns : goal.returns
returns c =
    let start = c.unwrap-start.result in
    let o = (lowest_there _ _ _ c.unwrap-start.ensures c.lowest.ensures).inside in
    let e = c.bring_both-end.ensures in
    let n = c.if-all_single_on.ensures.no refl in
    let back = reach_back c.requires.graph (c.requires.alive start o) c.root-r.ensures.reached in
    record {
      below = c.root-r.ensures.below;
      alive = c.root-r.ensures.alive;
      told = e.told;
      given = inr (record {
        can_go = c.root-r.ensures.can_go;
        busy = (n.0, n.1, n.2, (n.3.0, n.3.1, reach_trans back (c.island_of-island.ensures.only_reached n.3.0 n.3.2)));
        round = e.both;
      });
    }

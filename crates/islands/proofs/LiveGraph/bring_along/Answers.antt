use Rattle.std.proofs.Common.{ℕ, ◌^◌, ◌<◌, ◌≤◌, List, length, get_or, sym, refl, ap, ◌∙◌, subst, arith}
use lib.Count.{ones}
use Rattle.parity.specs.Words.{replay}
use Rattle.parity.specs.Gates.{TwoPlaces}
use Rattle.parity.specs.Entries.{gates_in}
use Rattle.parity.proofs.Each.{each_map}
use Rattle.islands.specs.Graphs.{OnEdge, OnIsland}
use Rattle.islands.specs.Trees.{TreeOrder, PlacesBelow}
use Rattle.islands.specs.Moves.{AlongTree}
use Rattle.islands.proofs.Trees.{order_below, order_within, order_once, parents_first, along_tree_on_edge, along_tree_on_island}
use Rattle.islands.proofs.Gathering.{along_tree_two_places}
use Rattle.islands.proofs.LiveGraph.bring_along.Goals as goal

pub gather-requires : goal.gather-requires
gather-requires c =
    let adj = c.args.self.now.rows.now in
    let parent = c.args.tree.now.parent in
    let order = c.as_slice.result.now in
    let same = c.as_slice.ensures.value in
    let t : TreeOrder adj c.args.self.now.live c.args.root order parent (length order) =
    subst (λ (o : List ℕ). TreeOrder adj c.args.self.now.live c.args.root o parent (length o)) (sym same) c.requires.tree in
    let some : 0 < length order = t.some in
    let few : length order ≤ ones c.args.self.now.live = subst (λ (o : List ℕ). length o ≤ ones c.args.self.now.live) (sym same) c.requires.few in
    record {
      some = (some, c.requires.some);
      places = ((λ i l. let b = order_below t refl i l in omega arith), omega arith);
      tree = parents_first t refl;
      within = order_within t refl c.args.word c.requires.on_island;
      room = omega arith;
    }

pub returns : goal.returns
returns c =
    let adj = c.args.self.now.rows.now in
    let live = c.args.self.now.live in
    let root = c.args.root in
    let parent = c.args.tree.now.parent in
    let order = c.as_slice.result.now in
    let same = c.as_slice.ensures.value in
    let t : TreeOrder adj live root order parent (length order) =
    subst (λ (o : List ℕ). TreeOrder adj live root o parent (length o)) (sym same) c.requires.tree in
    let few : length order ≤ ones live = subst (λ (o : List ℕ). length o ≤ ones live) (sym same) c.requires.few in
    let e = c.gather.ensures in
    let gs = gates_in c.gather.new.out c.args.at c.gather.result in
    record {
      wrote = record { forward = e.wrote.forward; few = (let k = e.wrote.few in omega arith); front = e.wrote.front; back = e.wrote.back };
      brought = e.gathered ∙ ap (λ (m : ℕ). 2 ^ m) t.first;
      two_places = each_map (AlongTree order parent) (TwoPlaces (length adj))
          (along_tree_two_places order parent (length adj) (parents_first t refl) (order_below t refl)) gs e.along_tree;
      on_edges = each_map (AlongTree order parent) (OnEdge adj) (along_tree_on_edge t refl) gs e.along_tree;
      on_island = each_map (AlongTree order parent) (OnIsland adj live root) (along_tree_on_island t refl c.requires.alive) gs e.along_tree;
      spares_root = e.spares_all_but_children root (order_once t refl);
      delivers = λ ws k. ap (λ (m : ℕ). get_or (replay gs ws) m 0) (sym t.first)
          ∙ e.delivers ws (subst (PlacesBelow order) (sym k) (order_below t refl));
    }

use Rattle.std.proofs.Common.{◌≡◌, ℕ, ◌+◌, ◌-◌, ◌∷◌, [], length, get_or, take, drop, sym, ap, ◌∙◌, subst, arith, rules}
use Rattle.std.proofs.lemmas.Grind.{common_steps}
use Rattle.std.proofs.lemmas.List.{length-append, length-drop, take_all}
use Rattle.parity.specs.Gates.{TwoPlaces, Each}
use Rattle.parity.specs.Entries.{gates_in}
use Rattle.parity.proofs.Each.{each_map}
use Rattle.parity.proofs.Gates.{single_places_deliver}
use Rattle.islands.specs.Trees.{PlacesBelow}
use Rattle.islands.specs.Moves.{AlongTree, Settled}
use Rattle.islands.proofs.Gathering.{Gathering, gathering_start, gathering_step, gathering_done, along_tree_two_places, last_left}
use Rattle.islands.proofs.gather.Goals as goal

pub loop-u-init : goal.loop-u-init
loop-u-init c =
    let order = c.args.order.now in
    let left = c.into_iter-u-iterator.result.iter.rest.now in
    let whole : left ≡ drop 1 order = grind (arith, common_steps) in
    let long : length left ≡ length order - 1 = ap length whole ∙ length-drop 1 order in (
      sym (ap (take (length left)) (sym whole) ∙ take_all (length left) left (omega arith)),
      subst (λ (i : ℕ). Gathering order c.args.parent.now c.args.word c.args.out.now c.args.out.now c.args.at c.args.at i c.args.word) (sym long)
          (gathering_start order c.args.parent.now c.args.word c.args.out.now c.args.at c.requires.some.0 c.requires.some.1 c.requires.within),
    )

pub settle-requires-clause-room : goal.settle-requires-clause-room
settle-requires-clause-room c =
    let g = c.loop-u.invariant.1 in
    let few = g.few in
    let long = length-append c.next.new.self.iter.rest.now (c.in-Some.u.now ∷ []) in
    let steps = ap length c.in-Some.ensures.steps in
    omega arith

pub loop-u-preserved : goal.loop-u-preserved
loop-u-preserved c =
    let order = c.args.order.now in
    let parent = c.args.parent.now in
    let was = c.loop-u.u-iterator.iter.rest.now in
    let left = c.next.new.self.iter.rest.now in
    let u = c.in-Some.u.now in
    let long : length was ≡ length left + 1 = omega (arith, ap length c.in-Some.ensures.steps, length-append left (u ∷ [])) in
    let last = last_left order left u (sym c.in-Some.ensures.steps ∙ c.loop-u.invariant.0 ∙ ap (λ m. take m (drop 1 order)) long) in
    let settled : Settled (get_or order (length was) 0) (get_or parent (get_or order (length was) 0) 0) c.loop-u.x c.settle.result.0 c.loop-u.out c.settle.new.out
    c.loop-u.k c.settle.result.1 =
    subst (λ (v : ℕ). Settled v (get_or parent v 0) c.loop-u.x c.settle.result.0 c.loop-u.out c.settle.new.out c.loop-u.k c.settle.result.1)
    (sym (ap (λ m. get_or order m 0) long ∙ last.1)) c.settle.ensures in (
      last.0,
      subst (λ (i : ℕ). Gathering order parent c.args.word c.args.out.now c.settle.new.out c.args.at c.settle.result.1 i c.settle.result.0) (omega arith)
          (gathering_step c.loop-u.invariant.1 c.settle.new.out c.settle.result.1 c.settle.result.0 (omega arith) (omega arith) c.requires.tree settled),
    )

pub returns : goal.returns
returns c =
    let order = c.args.order.now in
    let parent = c.args.parent.now in
    let g = c.loop-u.invariant.1 in
    let end : length c.loop-u.u-iterator.iter.rest.now ≡ 0 = search rules in
    let gs = gates_in c.loop-u.out c.args.at c.loop-u.k in
    let two : (n : ℕ) → PlacesBelow order n → Each (TwoPlaces n) gs =
    λ n b. each_map (AlongTree order parent) (TwoPlaces n) (along_tree_two_places order parent n c.requires.tree b) gs g.along_tree in
    record {
      wrote = record { forward = g.forward; few = omega arith; front = g.front; back = g.back };
      gathered = gathering_done g end;
      along_tree = g.along_tree;
      spares_all_but_children = g.spares;
      delivers = λ ws b. single_places_deliver gs ws c.args.word (get_or order 0 0) (two (length ws) b) (gathering_done g end);
    }

use Rattle.std.proofs.Common.{◌≡◌, ℕ, ◌^◌, ◌<◌, ◌≤◌, List, map, length, get_or, sym, refl, ap, ◌∙◌, subst, arith}
use Rattle.std.proofs.lemmas.List.{length-map}
use Rattle.arrayvec.specs.ArrayVec.{ArrayVec, with_items}
use Rattle.arrayvec.proofs.ArrayVecLemmas.{items-with_items}
use Rattle.parity.specs.Gates.{acts}
use Rattle.parity.specs.Entries.{gates_in}
use Rattle.parity.specs.Placements.{Placement, wires_to_places}
use Rattle.rounds.specs.Ways.{Graph}
use Rattle.rounds.specs.Duals.{Paired}
use Rattle.rounds.specs.Plans.{Planned}
use Rattle.rounds.specs.Exactness.{Refused}
use Rattle.planner.specs.declared.plan.Planned.{Planned as Answer}
use Rattle.planner.specs.declared.store.Adjacency.{Adjacency}
use Rattle.planner.specs.declared.store.Block.{Block}
use Rattle.planner.specs.declared.store.Places.{Places}
use Rattle.planner.specs.Plans.{room, Lowest}
use Rattle.planner.specs.Views.{neighbours_of, words_of, duals_of, places_of, SizesAre, PlanFor}
use Rattle.planner.proofs.Asking.{words_below, duals_below, paired, placed}
use Rattle.planner.proofs.Duality.{some_same}
use Rattle.planner.proofs.Planning.{wanted_below, wanted_paired, planned_in, refused_none, refused_some}
use Rattle.planner.proofs.plan.plan_sized.Goals as goal

pub plan-requires : goal.plan-requires
plan-requires c =
    let a = c.args.adjacency.now in
    let b = c.args.block.now in
    let p = c.args.places.now in
    let same = c.as_slice.ensures.value in
    let n = length c.as_slice.result.now in
    let s : SizesAre n b p = subst (λ (l : List ℕ). SizesAre (length l) b p) (sym same) c.requires.sizes in
    let carried = map (wires_to_places (places_of p)) in
    let e : c.as_mut_slice.result.now ≡ carried (words_of b) = c.as_mut_slice.ensures.value ∙ c.carried_words-wanted.ensures in
    let f : c.as_mut_slice-2.result.now ≡ carried (duals_of b) = c.as_mut_slice-2.ensures.value ∙ c.carried_duals-against.ensures in
    let low = wanted_below n (words_of b) (places_of p) (placed n b p s) (words_below n b p s) in
    record {
      small = omega arith;
      graph = subst Graph (sym same) a.graph;
      lengths = (ap length e ∙ length-map (words_of b) (wires_to_places (places_of p)) ∙ s.0, ap length f ∙ length-map (duals_of b) (wires_to_places (places_of p)) ∙ b.as_many ∙ s.0);
      sets_below = λ w. subst (λ (l : List ℕ). get_or l w 0 < 2 ^ n) (sym e) (low w);
      duals_below = λ w. subst (λ (l : List ℕ). get_or l w 0 < 2 ^ n) (sym f) (wanted_below n (duals_of b) (places_of p) (placed n b p s) (duals_below n b p s) w);
      paired = subst (λ (l : List ℕ). Paired n l c.as_mut_slice-2.result.now) (sym e)
          (subst (Paired n (carried (words_of b))) (sym f) (wanted_paired n (words_of b) (places_of p) (placed n b p s) (words_below n b p s) (duals_of b) (paired n b p s)));
      room = subst (λ (l : List ℕ). room (length l) ≤ length c.args.out.now) (sym same) c.requires.room;
    }

-- what was found is a plan for the block, with the places that are read off the vector of wanted sets
sized_plan : (a : Adjacency) (b : Block) (p : Places) → SizesAre (length (neighbours_of a)) b p → (wanted : ArrayVec ℕ) (adj xs ys ds es before after left new : List ℕ) (k : ℕ)
    → adj ≡ neighbours_of a → xs ≡ wanted.items → wanted.items ≡ map (wires_to_places (places_of p)) (words_of b) → Planned adj xs ys ds es before after k
    → left ≡ (with_items wanted ys).items → length new ≡ length left → Lowest left new → PlanFor a b p before after k new
sized_plan a b p s wanted adj xs ys ds es before after left new k same e f found g each lo =
    let n = length (neighbours_of a) in
    let carried = map (wires_to_places (places_of p)) (words_of b) in
    let as_many : length ys ≡ length xs = ap length found.moved ∙ length-map xs (acts (gates_in after 0 k)) in
    let kept : left ≡ ys = g ∙ items-with_items wanted ys (as_many ∙ ap length e) in
    let moved : length ys ≡ n = as_many ∙ ap length (e ∙ f) ∙ length-map (words_of b) (wires_to_places (places_of p)) ∙ s.0 in
    let pl = subst (λ (l : List ℕ). Planned l carried ys ds es before after k) same (subst (λ (l : List ℕ). Planned adj l ys ds es before after k) (e ∙ f) found) in
    planned_in n (words_of b) (places_of p) (placed n b p s) (words_below n b p s) (neighbours_of a) ys ds es before after new k refl a.few moved
    (each ∙ ap length kept ∙ moved) pl (subst (λ (l : List ℕ). Lowest l new) kept lo)

pub invariant_of-places : goal.invariant_of-places
invariant_of-places c =
    let a = c.args.adjacency.now in
    let b = c.args.block.now in
    let p = c.args.places.now in
    let at = c.lowest_of_each-at in
    let s = c.requires.sizes in
    let new = (sized_plan a b p s c.carried_words-wanted.result _ _ _ _ _ _ _ _ at.result.items _ c.as_slice.ensures.value c.as_mut_slice.ensures.value
    c.carried_words-wanted.ensures (c.plan.ensures.planned c.in_ok-gates.gates c.in_ok-gates.was)
    c.as_slice-2.ensures.value at.ensures.one_each at.ensures.lowest).reaches.placed in
    let few = a.few in
    let some = b.some in
    let each = new.one_each in
    record {
      some = omega arith;
      few = omega arith;
      placed = subst (λ (m : ℕ). Placement m at.result.items) (sym each) new;
    }

pub returns : goal.returns
returns c =
    let a = c.args.adjacency.now in
    let b = c.args.block.now in
    let p = c.args.places.now in
    let at = c.lowest_of_each-at in
    let found = sized_plan a b p c.requires.sizes c.carried_words-wanted.result _ _ _ _ _ _ _ _ at.result.items _ c.as_slice.ensures.value c.as_mut_slice.ensures.value
    c.carried_words-wanted.ensures (c.plan.ensures.planned c.in_ok-gates.gates c.in_ok-gates.was)
    c.as_slice-2.ensures.value at.ensures.one_each at.ensures.lowest in
    record {
      planned = λ q z. subst (λ (r : Answer). (length (places_of r.places) ≡ length (neighbours_of a)) × PlanFor a b p c.args.out.now c.plan.new.out r.gates (places_of r.places)) (some_same z) (found.reaches.placed.one_each, found);
      unreachable = λ z. absurd cc;
      needs_two_islands = λ z. absurd cc;
      untouched = λ z. absurd cc;
    }

pub returns-in_err-gates : goal.returns-in_err-gates
returns-in_err-gates c =
    let a = c.args.adjacency.now in
    let b = c.args.block.now in
    let p = c.args.places.now in
    let s = c.requires.sizes in
    let n = length (neighbours_of a) in
    let carried = map (wires_to_places (places_of p)) in
    let e : c.as_mut_slice.result.now ≡ carried (words_of b) = c.as_mut_slice.ensures.value ∙ c.carried_words-wanted.ensures in
    let refused = subst (λ l. Refused l (carried (words_of b))) c.as_slice.ensures.value
    (subst (Refused c.as_slice.result.now) e (c.plan.ensures.refused c.in_err-gates.was)) in
    record {
      planned = λ j z. absurd cc;
      unreachable = λ _. refused_none n (words_of b) (places_of p) (placed n b p s) (words_below n b p s) (neighbours_of a) a.graph refl refused;
      needs_two_islands = λ _. refused_some n (words_of b) (places_of p) (placed n b p s) (words_below n b p s) (neighbours_of a) refused;
      untouched = λ _. (c.plan.ensures.nothing_touched c.in_err-gates.was).2;
    }

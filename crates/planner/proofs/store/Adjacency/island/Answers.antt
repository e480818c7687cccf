use Rattle.std.proofs.Common.{◌≡◌, ℕ, ◌-◌, ◌^◌, ◌<◌, ◌≤◌, List, length, sym, ap, ◌∙◌, subst, arith}
use Rattle.parity.specs.Sets.{bit}
use Rattle.parity.proofs.Bits.{zero_one, bit_none}
use Rattle.rounds.specs.Ways.{Graph, Way}
use Rattle.rounds.proofs.Ways.{reach_way, way_reach}
use Rattle.rounds.proofs.Costs.{all_below_has, all_below_low}
use Rattle.planner.specs.Views.{neighbours_of}
use Rattle.planner.proofs.store.Adjacency.island.Goals as goal

pub returns-then-p-places : goal.returns-then-p-places
returns-then-p-places c q = ((λ o. zero_one (bit 0 q) (bit_none q) o), (λ t. absurd (let h = t.0 in omega arith)))

pub invariant_of-graph : goal.invariant_of-graph
invariant_of-graph c =
    let n = c.len-places.result in
    let few : n ≤ 64 = c.len-places.ensures.fits in
    let long : n ≡ length c.as_slice.result.now = c.len-places.ensures.value ∙ sym (ap length c.as_slice.ensures.value) in
    record {
      small = omega arith;
      inside = subst (λ (x : ℕ). x < 2 ^ length c.as_slice.result.now) (sym (c.all_below.ensures.places few)) (subst (λ (m : ℕ). 2 ^ n - 1 < 2 ^ m) long (all_below_low n));
    }

pub returns : goal.returns
returns c q =
    let a = c.args.self.now in
    let n = c.len-places.result in
    let few : n ≤ 64 = c.len-places.ensures.fits in
    let same : c.as_slice.result.now ≡ neighbours_of a = c.as_slice.ensures.value in
    let long : n ≡ length c.as_slice.result.now = c.len-places.ensures.value ∙ sym (ap length same) in
    let h : c.args.p < length (neighbours_of a) = omega (arith, c.len-places.ensures.value) in (
      (λ o. (h, subst (λ (adj : List ℕ). Way adj c.args.p q) same (reach_way (c.island_of.ensures.only_reached q o)))),
      (λ t. c.island_of.ensures.all_reached q (way_reach (subst Graph (sym same) a.graph)
          (λ r b. ap (λ (x : ℕ). bit x r) (c.all_below.ensures.places few) ∙ all_below_has n r (omega arith))
          (subst (λ (adj : List ℕ). Way adj c.args.p q) (sym same) t.1))),
    )

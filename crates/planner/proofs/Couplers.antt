-- Neighbours and couplers in service.
use Rattle.std.proofs.Common.{ℕ, ◌<◌, Bool, ◌↔◌, List, get_or, subst, inl, inr}
use Rattle.parity.specs.Words.{Gate}
use Rattle.parity.specs.Entries.{gates_in}
use Rattle.parity.specs.Placements.{wires_to_places}
use Rattle.parity.proofs.Each.{each_map}
use Rattle.islands.specs.Graphs.{OnEdge}
use Rattle.chip.specs.Layout.{Layout}
use Rattle.machine.specs.OnCoupler.{OnCoupler}
use Rattle.machine.proofs.OnCouplers.{obeys_exactly}
use Rattle.rounds.specs.Ways.{Way, stay, step, OneIsland, Straddles}
use Rattle.rounds.proofs.Straddling.{straddling_stays}
use Rattle.planner.specs.Adjacent.{Shows, CouplerWay, stay as remain, step as cross}
use Rattle.planner.specs.Plans.{NoPlan, PlanIn}
use Rattle.planner.specs.Laws.{ObeysNeighbours, OnOneIsland, OnTwoIslands, TwoIslandsStay, WaysOverCouplers, PlansOverCouplers}
use Rattle.planner.specs.Reasons.{SomeOnTwo, SomeStraddles}
use Rattle.planner.proofs.Neighbours.{turned_on, shows_graph, shown}

-- a gate between neighbours lies on a coupler in service
pub edge_on : (l : Layout) (service : List Bool) (adj : List ℕ) → Shows l service adj → (g : Gate) → OnEdge adj g → OnCoupler l service g
edge_on l service adj s g (inl o) = (s.neighbours g.0 g.1).0 o
edge_on l service adj s g (inr o) = turned_on ((s.neighbours g.1 g.0).0 o)

pub on_edge : (l : Layout) (service : List Bool) (adj : List ℕ) → Shows l service adj → (g : Gate) → OnCoupler l service g → OnEdge adj g
on_edge l service adj s g c = inl ((s.neighbours g.0 g.1).1 c)

pub obeys_neighbours : ObeysNeighbours
obeys_neighbours l s adj g so sh h =
    let e = obeys_exactly l s g so h in
    ((λ f. on_edge l s.service adj sh g (e.0 f)), (λ o. e.1 (edge_on l s.service adj sh g o)))

over : {l : Layout} {service : List Bool} {adj : List ℕ} {p q : ℕ} → Shows l service adj → Way adj p q → CouplerWay l service p q
over s stay = remain
over s (step {q} {r} w o) = cross (over s w) ((s.neighbours q r).0 o)

under : {l : Layout} {service : List Bool} {adj : List ℕ} {p q : ℕ} → Shows l service adj → CouplerWay l service p q → Way adj p q
under s remain = stay
under s (cross {q} {r} w c) = step (under s w) ((s.neighbours q r).1 c)

pub ways_over_couplers : WaysOverCouplers
ways_over_couplers l service adj p q s = (over s, under s)

pub plans_over_couplers : PlansOverCouplers
plans_over_couplers l service adj n block old gs new s = (
  (λ r. record { on_couplers = each_map (OnEdge adj) (OnCoupler l service) (edge_on l service adj s) gs r.on_couplers; placed = r.placed; delivers = r.delivers }),
  (λ r. record { on_couplers = each_map (OnCoupler l service) (OnEdge adj) (on_edge l service adj s) gs r.on_couplers; placed = r.placed; delivers = r.delivers }),
)

pub two_islands_stay : TwoIslandsStay
two_islands_stay l service x gs so t e =
    let adj = (shown l service so).0 in
    let s = (shown l service so).1 in
    let k = straddling_stays adj x gs (shows_graph l service adj so s)
    (record { from = t.from; to = t.to; has_from = t.has_from; has_to = t.has_to; no_way = λ w. t.no_way (over s w) })
    (each_map (OnCoupler l service) (OnEdge adj) (on_edge l service adj s) gs e) in
    record { from = k.from; to = k.to; has_from = k.has_from; has_to = k.has_to; no_way = λ w. k.no_way (under s w) }

-- a plan between neighbours is one over couplers in service
pub plan_over : (l : Layout) (service : List Bool) (adj : List ℕ) (n : ℕ) (block old before after : List ℕ) (k : ℕ) (new : List ℕ) → Shows l service adj
    → PlanIn (OnEdge adj) n block old before after k new → PlanIn (OnCoupler l service) n block old before after k new
plan_over l service adj n block old before after k new s p = record {
  wrote = p.wrote;
  reaches = (plans_over_couplers l service adj n block old (gates_in after 0 k) new s).0 p.reaches;
  idle_exactly = p.idle_exactly;
}

pub none_over : (l : Layout) (service : List Bool) (adj : List ℕ) (n : ℕ) (block old : List ℕ) → Shows l service adj
    → NoPlan (OnEdge adj) n block old ↔ NoPlan (OnCoupler l service) n block old
none_over l service adj n block old s = (
  (λ no gs new r. no gs new ((plans_over_couplers l service adj n block old gs new s).1 r)),
  (λ no gs new r. no gs new ((plans_over_couplers l service adj n block old gs new s).0 r)),
)

-- what straddles needs places on two islands
pub straddles_over : (l : Layout) (service : List Bool) (adj : List ℕ) (x : ℕ) → Shows l service adj → Straddles adj x → OnTwoIslands l service x
straddles_over l service adj x s t = record { from = t.from; to = t.to; has_from = t.has_from; has_to = t.has_to; no_way = λ w. t.no_way (under s w) }

pub some_over : (l : Layout) (service : List Bool) (adj block at : List ℕ) → Shows l service adj → SomeStraddles adj block at → SomeOnTwo l service block at
some_over l service adj block at s t = record {
  wire = t.wire;
  below = subst (λ (m : ℕ). t.wire < m) s.places t.below;
  on_two = straddles_over l service adj (wires_to_places at (get_or block t.wire 0)) s t.straddles;
}

pub one_island_over : (l : Layout) (service : List Bool) (adj : List ℕ) (x : ℕ) → Shows l service adj → OneIsland adj x → OnOneIsland l service x
one_island_over l service adj x s t p q a b = over s (t p q a b)

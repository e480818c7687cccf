use Rattle.std.proofs.Common.{ℕ, ◌<◌, sym, subst}
use Rattle.planner.specs.Views.{neighbours_of}
use Rattle.planner.proofs.Couplers.{ways_over_couplers}
use Rattle.planner.proofs.island.island_over.Goals as goal

pub returns : goal.returns
returns g c q =
    let l = g.M.Chip.layout c.args.machine.now in
    let service = (g.M.Machine.meaning c.args.machine.now).service in
    let s = c.requires.shows in
    let w = ways_over_couplers l service (neighbours_of c.args.adjacency.now) c.args.p q s in (
      (λ o. let t = (c.island.ensures q).0 o in (subst (λ (m : ℕ). c.args.p < m) s.places t.0, w.0 t.1)),
      (λ t. (c.island.ensures q).1 (subst (λ (m : ℕ). c.args.p < m) (sym s.places) t.0, w.1 t.1)),
    )

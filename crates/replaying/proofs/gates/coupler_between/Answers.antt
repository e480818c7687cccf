use Rattle.std.proofs.Common.{rules, tests}
use Rattle.std.proofs.lemmas.Iterator.{first_from_Range}
use Rattle.replaying.specs.Gates.{ServesBetween}
use Rattle.replaying.proofs.Between.{first_between}
use Rattle.replaying.proofs.gates.coupler_between.Goals as goal

pub returns : goal.returns
returns g c =
    let l = g.M.Chip.layout c.args.machine.now in
    let between = ServesBetween l (g.M.Machine.meaning c.args.machine.now).service c.args.a c.args.b in
    first_between l _ c.args.a c.args.b c.couplers.result c.find.result c.couplers.ensures
    (first_from_Range _ _ _ c.find.result between (λ k. between k → ⊥) c.find.ensures.ran (λ k q w. search (rules, tests)) (λ k q w. search (rules, tests)))

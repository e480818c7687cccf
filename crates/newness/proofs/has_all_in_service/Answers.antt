use Rattle.std.proofs.Common.{ℕ, ◌<◌, length, refl, arith, rules}
use Rattle.std.proofs.lemmas.Iterator.{cases_from_all, YieldsList-from_range}
use Rattle.newness.specs.New.{InService}
use Rattle.newness.proofs.Newness.{all_true, all_below}
use Rattle.newness.proofs.has_all_in_service.Goals as goal

pub returns-clause-yes : goal.returns-clause-yes
returns-clause-yes g c e =
    let m = length (g.M.Chip.layout c.args.machine.now).couplers in
    let meaning = g.M.Machine.meaning c.args.machine.now in
    let P = λ (j : ℕ). j < m → InService meaning j in
    all_true meaning.service m (g.met.M.Machine.fitting c.args.machine.now).one_mark_each (λ k h. (all_below _ _ P m e
    (cases_from_all _ _ _ P (λ (j : ℕ). Unit {0}) c.all.ensures.ran (YieldsList-from_range 0 c.couplers.result m refl (omega (arith, c.couplers.ensures)))
    (λ x q k. search rules) (λ x q k. tt)) k h h).serves)

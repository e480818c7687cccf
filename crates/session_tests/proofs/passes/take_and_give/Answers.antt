use Rattle.session_tests.proofs.Ending.{take_keeps, outage_keeps, keeps_on}
use Rattle.session_tests.proofs.passes.take_and_give.Goals as goal

pub returns-in_err-pass : goal.returns-in_err-pass
returns-in_err-pass g c = take_keeps _ _ c.args.k _ c.in_err-pass.ensures

pub returns : goal.returns
returns g c = outage_keeps _ _ _ _ c.args.k c.in_ok-pass.pass c.in_ok-pass.ensures (keeps_on _) c.give.ensures

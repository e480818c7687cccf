use Rattle.session_tests.proofs.Ending.{give_keeps_others}
use Rattle.session_tests.proofs.passes.give.Goals as goal

pub returns : goal.returns
returns g c = give_keeps_others _ _ c.args.pass c.give_back.result c.give_back.ensures

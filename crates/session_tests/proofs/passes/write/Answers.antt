use Rattle.session_tests.proofs.Ending.{write_keeps_others}
use Rattle.session_tests.proofs.passes.write.Goals as goal

pub returns : goal.returns
returns g c = write_keeps_others _ _ c.args.pass c.write_off.result c.write_off.ensures

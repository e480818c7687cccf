use Rattle.std.proofs.Common.{◌∙◌}
use Rattle.session_tests.proofs.Ending.{give_down, write_down}
use Rattle.session_tests.proofs.passes.turned_down.Goals as goal

pub returns : goal.returns
returns g c =
    let first = give_down _ _ c.args.pass c.in-Err.pass c.in-Err.give_back c.in-Err.ensures in
    let second = write_down _ _ c.in-Err.pass c.in-Err-write_off.pass c.in-Err-write_off.write_off c.in-Err-write_off.ensures in
    (second.0 ∙ first.0, second.1 ∙ first.1)

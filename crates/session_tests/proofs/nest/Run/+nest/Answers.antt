use Rattle.session_tests.proofs.Ending.{take_keeps, take_ends, outage_keeps, keeps_then}
use Rattle.session_tests.proofs.nest.Run.+nest.Goals as goal

pub finish-requires : goal.finish-requires
finish-requires g t c = c.nest-inside.ensures.stays c.in-Ok.pass (take_ends _ _ _ c.in-Ok.pass c.in-Ok.ensures)

pub returns-in_err-inside-in-Ok : goal.returns-in_err-inside-in-Ok
returns-in_err-inside-in-Ok g t c =
    keeps_then _ _ _ c.steps.ensures (outage_keeps _ _ _ _ _ c.in-Ok.pass c.in-Ok.ensures c.nest-inside.ensures c.finish.ensures)

pub returns-in_ok-inside-in-Ok : goal.returns-in_ok-inside-in-Ok
returns-in_ok-inside-in-Ok g t c =
    keeps_then _ _ _ c.steps.ensures (outage_keeps _ _ _ _ _ c.in-Ok.pass c.in-Ok.ensures c.nest-inside.ensures c.finish.ensures)

pub returns-in-Err : goal.returns-in-Err
returns-in-Err g t c = keeps_then _ _ _ c.steps.ensures (take_keeps _ _ _ _ c.in-Err.ensures)

use Rattle.session_tests.proofs.Ending.{take_ends}
use Rattle.session_tests.proofs.refusals.check_written_off.Goals as goal

pub write-requires : goal.write-requires
write-requires g c = take_ends _ _ _ _ c.in_ok-pass.ensures

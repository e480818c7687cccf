use Rattle.session_tests.proofs.Ending.{take_ends, flush_keeps, keeps_then}
use Rattle.session_tests.proofs.refusals.refused_while_out.Goals as goal

pub give-requires : goal.give-requires
give-requires g c =
    (keeps_then _ _ _ c.take_and_give-taken.ensures (flush_keeps _ _ _ _ _ c.flush-flushed.ensures)).stays _ (take_ends _ _ _ _ c.in_ok-pass.ensures)

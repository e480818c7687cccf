use Rattle.session_tests.proofs.Ending.{cx_keeps, swap_keeps, flush_keeps}
use Rattle.session_tests.proofs.nest.make.Goals as goal

pub returns-in-Cx : goal.returns-in-Cx
returns-in-Cx g c = cx_keeps _ _ c.in-Cx.a c.in-Cx.b c.cx.result _ _ c.cx.ensures

pub returns-in-Swap : goal.returns-in-Swap
returns-in-Swap g c = swap_keeps _ _ c.in-Swap.a c.in-Swap.b c.swap.result _ _ c.swap.ensures

pub returns-in-Flush : goal.returns-in-Flush
returns-in-Flush g c = flush_keeps _ _ _ _ c.flush.result c.flush.ensures

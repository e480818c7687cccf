use Rattle.std.proofs.Common.{sym, rules}
use Rattle.script.proofs.Turning.{acts_cx, acts_swap, acts_place, acts_take, acts_no_slot, acts_give, acts_none_to_give, acts_write, acts_none_to_write, acts_flush}
use Rattle.script.proofs.act.act.Goals as goal

pub returns-in-Cx : goal.returns-in-Cx
returns-in-Cx g c = acts_cx _ _ _ _ _ _ c.in-Cx.a c.in-Cx.b c.args.order c.noted.result c.cx.result c.in-Cx.is c.noted.ensures c.cx.ensures

pub returns-in-Swap : goal.returns-in-Swap
returns-in-Swap g c = acts_swap _ _ _ _ _ _ c.in-Swap.a c.in-Swap.b c.args.order c.noted-in-Swap.result c.swap.result c.in-Swap.is c.noted-in-Swap.ensures c.swap.ensures

pub returns-in-Place : goal.returns-in-Place
returns-in-Place g c = acts_place _ _ _ c.in-Place.wire c.args.order c.map.result c.place.result c.in-Place.is (search rules) c.place.ensures

pub returns-then-is_vacant : goal.returns-then-is_vacant
returns-then-is_vacant g c = acts_take _ _ _ _ _ c.in-TakeOut.coupler c.in-TakeOut.slot c.args.order _ c.in-TakeOut.is (sym c.if-is_vacant.ensures) c.take_into.ensures

pub returns-else-is_vacant : goal.returns-else-is_vacant
returns-else-is_vacant g c = acts_no_slot _ _ _ c.in-TakeOut.coupler c.in-TakeOut.slot c.args.order c.in-TakeOut.is (sym c.if-is_vacant.ensures)

pub returns-then-holds_pass : goal.returns-then-holds_pass
returns-then-holds_pass g c = acts_give _ _ _ _ _ c.in-GiveBack.slot c.args.order _ c.in-GiveBack.is (sym c.if-holds_pass.ensures) c.give_from.ensures

pub returns-else-holds_pass : goal.returns-else-holds_pass
returns-else-holds_pass g c = acts_none_to_give _ _ _ c.in-GiveBack.slot c.args.order c.in-GiveBack.is (sym c.if-holds_pass.ensures)

pub returns-then-holds_pass-2 : goal.returns-then-holds_pass-2
returns-then-holds_pass-2 g c = acts_write _ _ _ _ _ c.in-WriteOff.slot c.args.order _ c.in-WriteOff.is (sym c.if-holds_pass-2.ensures) c.write_from.ensures

pub returns-else-holds_pass-2 : goal.returns-else-holds_pass-2
returns-else-holds_pass-2 g c = acts_none_to_write _ _ _ c.in-WriteOff.slot c.args.order c.in-WriteOff.is (sym c.if-holds_pass-2.ensures)

pub returns-in-Flush : goal.returns-in-Flush
returns-in-Flush g c = acts_flush _ _ _ _ _ c.args.order c.map-in-Flush.result c.flush.result c.in-Flush.is (search rules) c.flush.ensures

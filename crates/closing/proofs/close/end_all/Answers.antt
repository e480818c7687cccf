use Rattle.std.proofs.Common.{vec_items, arith}
use Rattle.closing.specs.Good.{filled_count}
use Rattle.closing.proofs.Keeping.{ended_good, count_more, count_within}
use Rattle.closing.proofs.close.end_all.Goals as goal

pub overflow_add-passes : goal.overflow_add-passes
overflow_add-passes g c =
    let count = count_more (vec_items c.loop-slot.slots) (vec_items c.pop.new.self) c.in-Some.slot c.loop-slot.passes c.end_slot-passes.result (filled_count (vec_items c.args.slots.now))
    c.in-Some.ensures.items c.end_slot-passes.ensures.passes c.loop-slot.invariant.1 in
    omega (arith, count, count_within (vec_items c.args.slots.now), c.args.slots.now.ok.0, c.args.slots.now.ok.1, c.args.slots.now.small)

pub loop-slot-preserved : goal.loop-slot-preserved
loop-slot-preserved g c = (
  ended_good _ _ (vec_items c.loop-slot.slots) (vec_items c.pop.new.self) c.in-Some.slot c.in-Some.ensures.items c.end_slot-passes.ensures.leaves c.loop-slot.invariant.0,
  count_more (vec_items c.loop-slot.slots) (vec_items c.pop.new.self) c.in-Some.slot c.loop-slot.passes c.end_slot-passes.result (filled_count (vec_items c.args.slots.now))
      c.in-Some.ensures.items c.end_slot-passes.ensures.passes c.loop-slot.invariant.1,
)

use Rattle.std.proofs.Common.{◌≡◌, length, vec_items, arith}
use Rattle.closing.proofs.Keeping.{lent_good}
use Rattle.closing.proofs.whole.run_to_end.Goals as goal

pub close-requires : goal.close-requires
close-requires g c =
    let long : length c.run.new.slots ≡ c.args.slots.len = omega (arith, c.run.auto.slots, c.deref_mut.ensures.len) in
    lent_good _ _ c.run.new.script (vec_items c.args.slots) _ c.args.slots.len c.deref_mut.ensures.value long c.run.ensures.ran c.requires

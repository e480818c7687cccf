use Rattle.std.proofs.Common.{sym, ◌∙◌}
use Rattle.session.proofs.store.Session.begin.Goals as goal

pub invariant_of-result : goal.invariant_of-result
invariant_of-result g c = record { same_size = (c.new-2.ensures.some _ c.unwrap-places.ensures).0 ∙ sym (c.new.ensures.some _ c.unwrap-block.ensures).0 }

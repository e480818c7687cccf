use Rattle.std.proofs.Common.{sym, ◌∙◌}
use Rattle.session.proofs.store.Session.begin_block.Goals as goal

pub invariant_of-self : goal.invariant_of-self
invariant_of-self c = record { same_size = c.requires ∙ sym ((c.new.ensures.some _ c.unwrap-self.ensures).0 ∙ c.wires.ensures) }

use Rattle.std.proofs.Common.{take, ap, ◌∙◌}
use Rattle.parity.proofs.Words.{take_fresh}
use Rattle.planner.proofs.block.fresh_of.Goals as goal

pub returns : goal.returns
returns c = c.truncate.ensures.items ∙ ap (take c.args.n) (c.from-words.ensures.0 ∙ c.fresh_words.ensures) ∙ take_fresh 64 c.args.n c.requires

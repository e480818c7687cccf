use Rattle.std.proofs.Common.{◌∙◌}
use Rattle.grid.specs.Couplers.{ends_answered}
use Rattle.grid.proofs.GridChipChip.ends.Goals as goal

pub returns : goal.returns
returns c = let s = c.args.self.now in c.ends_of.ensures ∙ ends_answered s.rows s.columns c.args.k

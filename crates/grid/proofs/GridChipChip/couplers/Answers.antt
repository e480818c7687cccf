use Rattle.std.proofs.Common.{sym, ◌∙◌}
use Rattle.grid.specs.Couplers.{length_couplers}
use Rattle.grid.proofs.GridChipChip.couplers.Goals as goal

pub returns : goal.returns
returns c = let s = c.args.self.now in c.count.ensures ∙ sym (length_couplers s.rows s.columns)

use Rattle.std.proofs.Common.{arith}
use Rattle.grid.specs.Couplers.{rightward_more, downward_more}
use Rattle.grid.proofs.store.GridChip.ends_of.Goals as goal

pub overflow_mul-rightward : goal.overflow_mul-rightward
overflow_mul-rightward c = let s = c.args.self.now in omega (arith, rightward_more s.rows s.columns s.some_column)

pub overflow_add-result-else-k-rightward : goal.overflow_add-result-else-k-rightward
overflow_add-result-else-k-rightward c =
    let s = c.args.self.now in
    omega (arith, rightward_more s.rows s.columns s.some_column, downward_more s.rows s.columns s.some_row)

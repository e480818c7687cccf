use Rattle.std.proofs.Common.{arith}
use Rattle.grid.specs.Couplers.{rightward_more, downward_more}
use Rattle.grid.proofs.store.GridChip.count.Goals as goal

pub overflow_mul-result : goal.overflow_mul-result
overflow_mul-result c = let s = c.args.self.now in omega (arith, rightward_more s.rows s.columns s.some_column)

pub overflow_add-result : goal.overflow_add-result
overflow_add-result c =
    let s = c.args.self.now in
    omega (arith, rightward_more s.rows s.columns s.some_column, downward_more s.rows s.columns s.some_row)

use Rattle.planner.proofs.Neighbours.{Rows}
use Rattle.planner.proofs.store.Adjacency.of.Given as goal

abbrev pub invariant-loop-k : goal.invariant-loop-k
invariant-loop-k g l = Rows (g.M.Chip.layout l.machine) (g.M.Machine.meaning l.machine).service l.rows.items l.k

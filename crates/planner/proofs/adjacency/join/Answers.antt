use Rattle.std.proofs.Common.{arith}
use Rattle.planner.proofs.Neighbours.{added}
use Rattle.planner.proofs.adjacency.join.Goals as goal

pub returns : goal.returns
returns c =
    added c.args.rows.now c.args.a c.args.b c.single.result c.single-2.result c.requires.1.0 c.requires.1.1
    (c.single.ensures.place (omega arith)) (c.single-2.ensures.place (omega arith))

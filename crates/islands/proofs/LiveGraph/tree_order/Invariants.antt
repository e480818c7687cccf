use Rattle.std.proofs.Common.{◌≡◌, ◌+◌, ◌-◌, ◌≤◌, length}
use Rattle.arrayvec.specs.ArrayVec.{array_vec_len}
use Rattle.islands.proofs.Growing.{Growing}
use Rattle.islands.proofs.LiveGraph.tree_order.Given as goal

abbrev pub invariant-loop-head : goal.invariant-loop-head
invariant-loop-head l =
    (l.head ≤ array_vec_len l.tree.order) × (array_vec_len l.tree.order ≤ length l.self.rows.now) × (length l.tree.parent ≡ 64)
    × Growing l.self.rows.now l.self.live l.root l.tree.order.items l.tree.parent l.seen (array_vec_len l.tree.order) l.head

abbrev pub decreases-loop-head : goal.decreases-loop-head
decreases-loop-head l = length l.self.rows.now + length l.self.rows.now - (l.head + array_vec_len l.tree.order)

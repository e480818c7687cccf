use Rattle.islands.proofs.Trees.{last_place_can_go}
use Rattle.islands.proofs.last_place_of_a_tree_order_can_go.Goals as goal

pub returns : goal.returns
returns c = last_place_can_go

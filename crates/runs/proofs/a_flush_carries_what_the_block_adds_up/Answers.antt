use Rattle.runs.proofs.Exact.{flush_carries}
use Rattle.runs.proofs.a_flush_carries_what_the_block_adds_up.Goals as goal

pub returns : goal.returns
returns c = flush_carries

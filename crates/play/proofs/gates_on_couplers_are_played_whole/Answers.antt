use Rattle.play.proofs.Outcomes.{played_whole}
use Rattle.play.proofs.gates_on_couplers_are_played_whole.Goals as goal

pub returns : goal.returns
returns c = played_whole

use Rattle.std.proofs.Common.{rules}
use Rattle.planner.proofs.places.own_numbers.Goals as goal

pub returns : goal.returns
returns c w h = let call = c.from_fn.ensures.items.at w 0 h in search rules

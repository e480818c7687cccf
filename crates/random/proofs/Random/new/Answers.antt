use Rattle.std.proofs.lemmas.Nat.{le_or_r}
use Rattle.random.specs.Random.{spread}
use Rattle.random.proofs.Random.new.Goals as goal

pub invariant_of-result : goal.invariant_of-result
invariant_of-result c = le_or_r (spread c.args.seed) 1

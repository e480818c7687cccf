use Rattle.std.proofs.Common.{ap, set, get_or}
use Rattle.std.proofs.lemmas.Nat.{xor_comm}
use Rattle.replaying.proofs.words.add.Goals as goal

pub returns-clause-leaves : goal.returns-clause-leaves
returns-clause-leaves c =
    let ws = c.args.words.now in
    ap (set ws c.args.b) (xor_comm (get_or ws c.args.b 0) (get_or ws c.args.a 0))

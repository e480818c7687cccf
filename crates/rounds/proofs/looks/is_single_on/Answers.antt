use lib.Bits.{bit_and}
use Rattle.std.proofs.lemmas.Bool.{eqb-false}
use Rattle.parity.proofs.Bits.{bit_some}
use Rattle.parity.proofs.Masks.{and_in, and_parts}
use Rattle.parity.proofs.Counts.{some_place}
use Rattle.rounds.proofs.looks.is_single_on.Goals as goal

pub returns-then-x-island-eq0-clause-yes : goal.returns-then-x-island-eq0-clause-yes
returns-then-x-island-eq0-clause-yes c _ q a b =
    absurd (bit_some (bit_and c.args.x c.args.island) q (and_in c.args.x c.args.island q a b) c.if-x-island-eq0.true)

pub returns-else-x-island-eq0-clause-no : goal.returns-else-x-island-eq0-clause-no
returns-else-x-island-eq0-clause-no c e =
    let p = some_place (bit_and c.args.x c.args.island) c.if-x-island-eq0.false in
    let two = and_parts c.args.x c.args.island p.0 p.1 in
    (eqb-false _ 1 e, (p.0, two.0, two.1))

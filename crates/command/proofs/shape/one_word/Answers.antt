use Rattle.std.proofs.Common.{◌≡◌, []}
use Rattle.command.specs.Words.{words}
use Rattle.command.proofs.shape.one_word.Goals as goal

pub returns-in_err-no_word : goal.returns-in_err-no_word
returns-in_err-no_word c =
    let first = c.in_ok-word.ensures in
    rw c.from_residual-in_err-no_word.ensures (λ x (held, e). let over : words c.in_ok-word.rest.now ≡ [] = cc in c.in_err-no_word.ensures tt (tt, over))

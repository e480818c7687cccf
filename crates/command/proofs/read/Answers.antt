use Rattle.std.proofs.lemmas.Result.{err_from_is_err_and}
use Rattle.command.proofs.Spelling.{read_unnamed, read_named}
use Rattle.command.proofs.read.Goals as goal

pub returns-in_err-verb : goal.returns-in_err-verb
returns-in_err-verb c =
    let p = err_from_is_err_and c.from_residual.result c.from_residual.ensures.1 in
    rw (p.1, p.2) (read_unnamed _ _ _ _ c.in-Some.ensures c.in_err-verb.ensures)

pub returns : goal.returns
returns c = rw c.ok_or.ensures.value (read_named _ _ _ _ c.command_of.result c.in-Some.ensures c.in_ok-verb.ensures c.command_of.ensures)

use Rattle.std.proofs.Common.{Err, refl, ap, ◌∙◌, inl}
use Rattle.std.proofs.lemmas.Result.{err_from_is_err_and}
use Rattle.simulation.proofs.Passing.{pass_on, words_said}
use Rattle.simulation.proofs.obey.obey.Goals as goal

pub returns-in_err-cnot-in-Cnot : goal.returns-in_err-cnot-in-Cnot
returns-in_err-cnot-in-Cnot c =
    let p = err_from_is_err_and c.from_residual-in_err-cnot-in-Cnot.result c.from_residual-in_err-cnot-in-Cnot.ensures.1 in
    simp c.in-Cnot.is (pass_on _ _ _ _ _ c.cnot.result _ c.in_err-cnot-in-Cnot.field-0.0 _ c.cnot.ensures c.in_err-cnot-in-Cnot.was (p.1 ∙ ap Err p.2))

pub returns-in_ok-words-in-Words : goal.returns-in_ok-words-in-Words
returns-in_ok-words-in-Words c = simp c.in-Words.is (inl (words_said _ _ c.in_ok-words-in-Words.ensures, refl))

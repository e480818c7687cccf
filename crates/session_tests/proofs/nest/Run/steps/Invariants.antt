use Rattle.session.specs.Views.{state}
use Rattle.session_tests.specs.Passes.{Keeps}
use Rattle.session_tests.proofs.nest.Run.steps.Given as goal

abbrev pub invariant-loop-number : goal.invariant-loop-number
invariant-loop-number g l =
    Keeps (state l.initial.session (g.M.Chip.layout l.initial.machine) (g.M.Machine.meaning l.initial.machine))
    (state l.session (g.M.Chip.layout l.machine) (g.M.Machine.meaning l.machine))

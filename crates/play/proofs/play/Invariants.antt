use Rattle.std.proofs.Common.{◌≡◌, drop}
use Rattle.play.specs.Playing.{outcome}
use Rattle.play.proofs.play.Given as goal

abbrev pub invariant-loop-e : goal.invariant-loop-e
invariant-loop-e g l =
    (g.M.Chip.layout l.machine ≡ g.M.Chip.layout l.initial.machine)
    × (outcome (g.M.Chip.layout l.initial.machine) (g.M.Machine.meaning l.initial.machine) l.entries
    ≡ outcome (g.M.Chip.layout l.initial.machine) (g.M.Machine.meaning l.machine) (drop l.e-index l.entries))

use Rattle.std.proofs.Common.{◌≡◌, List, take}
use Rattle.runs.specs.Runs.{Event}
use Rattle.script.specs.Turns.{bench, Turns, orders}
use Rattle.script.proofs.run.run.Given as goal

abbrev pub invariant-loop-turn : goal.invariant-loop-turn
invariant-loop-turn g l =
    ((es : List Event) × Turns (bench l.initial.session (g.M.Chip.layout l.initial.machine) (g.M.Machine.meaning l.initial.machine) l.initial.slots l.initial.buffer)
    (take l.turn-index l.script)
    (bench l.session (g.M.Chip.layout l.machine) (g.M.Machine.meaning l.machine) l.slots l.buffer) es)
    × (orders l.script ≡ orders l.initial.script)

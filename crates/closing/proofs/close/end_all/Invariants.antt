use Rattle.std.proofs.Common.{◌≡◌, ◌+◌, vec_items, vec_len}
use Rattle.session.specs.Views.{state}
use Rattle.closing.specs.Good.{Good, filled_count}
use Rattle.closing.proofs.close.end_all.Given as goal

abbrev pub invariant-loop-slot : goal.invariant-loop-slot
invariant-loop-slot g l =
    Good (state l.session (g.M.Chip.layout l.initial.machine) (g.M.Machine.meaning l.initial.machine)) (vec_items l.slots)
    × (l.passes + filled_count (vec_items l.slots) ≡ filled_count (vec_items l.initial.slots))

abbrev pub decreases-loop-slot : goal.decreases-loop-slot
decreases-loop-slot g l = vec_len l.slots

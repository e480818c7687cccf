use Rattle.std.proofs.Common.{◌≡◌, ℕ, ◌<◌, ◌≤◌, get_or}
use Rattle.parity.specs.Gates.{act}
use Rattle.rounds.proofs.round.act_on_each.Given as goal

abbrev pub invariant-loop-x : goal.invariant-loop-x
invariant-loop-x l =
    ((v : ℕ) → v < l.x-index → get_or l.sets v 0 ≡ act (l.c, l.t) (get_or l.initial.sets v 0))
    × ((v : ℕ) → l.x-index ≤ v → get_or l.sets v 0 ≡ get_or l.initial.sets v 0)

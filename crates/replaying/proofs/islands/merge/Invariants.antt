use Rattle.std.proofs.Common.{◌≡◌, ℕ, ◌<◌, ◌≤◌, get_or}
use Rattle.replaying.specs.Islands.{renamed}
use Rattle.replaying.proofs.islands.merge.Given as goal

abbrev pub invariant-loop-at : goal.invariant-loop-at
invariant-loop-at l =
    ((p : ℕ) → p < l.at-index → get_or l.names p 0 ≡ renamed l.name l.other (get_or l.initial.names p 0))
    × ((p : ℕ) → l.at-index ≤ p → get_or l.names p 0 ≡ get_or l.initial.names p 0)

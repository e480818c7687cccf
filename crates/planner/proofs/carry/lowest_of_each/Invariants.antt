use Rattle.std.proofs.Common.{◌≡◌, ℕ, ◌^◌, ◌<◌, length, get_or}
use Rattle.planner.proofs.carry.lowest_of_each.Given as goal

abbrev pub invariant-loop-set : goal.invariant-loop-set
invariant-loop-set l = (length l.at.items ≡ l.set-index) × ((v p : ℕ) → v < l.set-index → p < 64 → get_or l.sets v 0 ≡ 2 ^ p → get_or l.at.items v 0 ≡ p)

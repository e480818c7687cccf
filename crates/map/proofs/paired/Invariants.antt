use Rattle.std.proofs.Common.{◌≡◌, ℕ, ◌+◌, ◌<◌, length, get_or}
use Rattle.map.proofs.paired.Given as goal

abbrev pub invariant-loop-k : goal.invariant-loop-k
invariant-loop-k l = (length l.pairs ≡ 256) × ((j : ℕ) → j < l.k → get_or l.pairs j (0, 0) ≡ (get_or l.ends j 0, get_or l.ends (l.m + j) 0))

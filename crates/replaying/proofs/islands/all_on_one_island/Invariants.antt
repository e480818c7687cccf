use Rattle.std.proofs.Common.{ℕ, ◌<◌, ◌↔◌, IsTrue, get_or}
use Rattle.replaying.specs.Islands.{HavePlaces, OnOneIsland, places_below}
use Rattle.replaying.proofs.islands.all_on_one_island.Given as goal

abbrev pub invariant-loop-word : goal.invariant-loop-word
invariant-loop-word l =
    ((k : ℕ) → k < l.word-index → HavePlaces l.at (get_or l.words k 0))
    × (IsTrue l.reachable ↔ ((k : ℕ) → k < l.word-index → OnOneIsland l.names (places_below l.at (get_or l.words k 0) 64)))

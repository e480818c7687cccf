-- Graphs of places. `adj` has for each place the set of its neighbours: the places that a coupler in service joins to it.
use Rattle.std.specs.Prelude.{◌≡◌, ℕ, ◌⊎◌, List, slice_index}
use Rattle.parity.specs.Words.{Gate}
use Rattle.parity.specs.Sets.{bit}

-- q is reached from s by steps between neighbours, each to a place of live.
-- The island of s is what is reached from s; live are the places that may still be used.
pub data Reach (adj : List ℕ) (live s : ℕ) : ℕ → Type 0 where
  here : Reach adj live s s
  there : {q r : ℕ} → Reach adj live s q → bit (slice_index adj q) r ≡ 1 → bit live r ≡ 1 → Reach adj live s r

-- a gate between neighbours, one way or the other
abbrev pub OnEdge : List ℕ → Gate → Type 0
OnEdge adj g = (bit (slice_index adj g.0) g.1 ≡ 1) ⊎ (bit (slice_index adj g.1) g.0 ≡ 1)

-- a gate between two places of the island of s
abbrev pub OnIsland : List ℕ → ℕ → ℕ → Gate → Type 0
OnIsland adj live s g = Reach adj live s g.0 × Reach adj live s g.1

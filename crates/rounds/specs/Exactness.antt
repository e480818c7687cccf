-- When there is a plan at all.
use Rattle.std.specs.Prelude.{◌≡◌, ℕ, ◌^◌, ◌<◌, List, length, ◌≢◌, slice_index}
use Rattle.parity.specs.Words.{Gate}
use Rattle.parity.specs.Gates.{acts, Each}
use Rattle.islands.specs.Graphs.{OnEdge}
use Rattle.rounds.specs.Ways.{Graph, OneIsland, Straddles}

-- a set that straddles does so after any gates on edges
abbrev pub StraddlingStays : Type 0
StraddlingStays = (adj : List ℕ) (x : ℕ) (gs : List Gate) → Graph adj → Straddles adj x → Each (OnEdge adj) gs → Straddles adj (acts gs x)

-- so it never becomes a single place
abbrev pub StraddlingNeverSingle : Type 0
StraddlingNeverSingle = (adj : List ℕ) (x : ℕ) (gs : List Gate) (p : ℕ) → Graph adj → Straddles adj x → Each (OnEdge adj) gs → acts gs x ≢ 2 ^ p

-- some gates on edges turn each set into a single place, no two into the same
pub record Reachable (adj sets : List ℕ) : Type 0 where
  pub gates : List Gate
  pub on_edges : Each (OnEdge adj) gates
  pub single : (w : ℕ) → w < length adj → (p : ℕ) × (p < length adj) × (acts gates (slice_index sets w) ≡ 2 ^ p)
  pub apart : (w v : ℕ) → w < length adj → v < length adj → acts gates (slice_index sets w) ≡ acts gates (slice_index sets v) → w ≡ v

-- the wire w is the first whose set straddles
pub record FirstStraddling (adj sets : List ℕ) (w : ℕ) : Type 0 where
  pub below : w < length sets
  pub straddles : Straddles adj (slice_index sets w)
  pub before : (v : ℕ) → v < w → OneIsland adj (slice_index sets v)

-- a set straddles, and so no gates on edges, however many, turn each set into a single place
pub record Refused (adj sets : List ℕ) : Type 0 where
  pub wire : (w : ℕ) × (w < length adj) × Straddles adj (slice_index sets w)
  pub never : (gs : List Gate) → Each (OnEdge adj) gs → ((w : ℕ) → w < length adj → (p : ℕ) × (acts gs (slice_index sets w) ≡ 2 ^ p)) → ⊥

-- gates on edges can turn each set into a place of its own just where each set lies on one island
pub record Exact (adj sets : List ℕ) : Type 0 where
  pub only : Reachable adj sets → (w : ℕ) → w < length adj → OneIsland adj (slice_index sets w)
  pub enough : ((w : ℕ) → w < length adj → OneIsland adj (slice_index sets w)) → Reachable adj sets

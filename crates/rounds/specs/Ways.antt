-- Graphs of places, and ways over their edges.
use Rattle.std.specs.Prelude.{◌≡◌, ℕ, ◌<◌, List, length, slice_index}
use Rattle.parity.specs.Sets.{bit}

-- `adj` has for each place the set of its neighbours: an edge stands at both its ends, which differ, and are places
pub record Graph (adj : List ℕ) : Type 0 where
  pub both : (p q : ℕ) → bit (slice_index adj p) q ≡ 1 → bit (slice_index adj q) p ≡ 1
  pub loopless : (p : ℕ) → bit (slice_index adj p) p ≡ 0
  pub below : (p q : ℕ) → bit (slice_index adj p) q ≡ 1 → q < length adj

-- a way over edges from s
pub data Way (adj : List ℕ) (s : ℕ) : ℕ → Type 0 where
  stay : Way adj s s
  step : {q r : ℕ} → Way adj s q → bit (slice_index adj q) r ≡ 1 → Way adj s r

-- each two places of x have a way between them
abbrev pub OneIsland : List ℕ → ℕ → Type 0
OneIsland adj x = (p q : ℕ) → bit x p ≡ 1 → bit x q ≡ 1 → Way adj p q

-- two places of x have no way between them
pub record Straddles (adj : List ℕ) (x : ℕ) : Type 0 where
  pub from : ℕ
  pub to : ℕ
  pub has_from : bit x from ≡ 1
  pub has_to : bit x to ≡ 1
  pub no_way : Way adj from to → ⊥

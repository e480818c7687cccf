-- Plans: gates on edges that bring each wanted set to a place of its own.
use Rattle.std.specs.Prelude.{◌≡◌, ℕ, ◌-◌, ◌*◌, ◌^◌, ◌<◌, ◌≢◌, List, map, length, count_ones, slice_index}
use Rattle.parity.specs.Words.{replay}
use Rattle.parity.specs.Sets.{bit, xor_over}
use Rattle.parity.specs.Gates.{acts, Each}
use Rattle.parity.specs.Pairing.{turned}
use Rattle.parity.specs.Entries.{gates_in, Wrote}
use Rattle.islands.specs.Graphs.{OnEdge}
use Rattle.rounds.specs.Ways.{Way, OneIsland}

-- each of the first n sets is a single place below n, and no two are the same
pub record OwnPlaces (n : ℕ) (sets : List ℕ) : Type 0 where
  pub single : (w : ℕ) → w < n → (p : ℕ) × (p < n) × (slice_index sets w ≡ 2 ^ p)
  pub apart : (w v : ℕ) → w < n → v < n → slice_index sets w ≡ slice_index sets v → w ≡ v

-- q is on the island of a set that is no single place
pub record Busy (adj sets : List ℕ) (q : ℕ) : Type 0 where
  pub wire : ℕ
  pub place : ℕ
  pub below : wire < length adj
  pub many : count_ones (slice_index sets wire) ≢ 1
  pub has : bit (slice_index sets wire) place ≡ 1
  pub way : Way adj place q

-- each of the sets of n wires is a single place
abbrev pub AllSingle : ℕ → List ℕ → Type 0
AllSingle n sets = (w : ℕ) → w < n → count_ones (slice_index sets w) ≡ 1

-- the first k entries are a plan for the sets xs with the duals ds, which it turns into ys and es
pub record Planned (adj xs ys ds es before after : List ℕ) (k : ℕ) : Type 0 where
  pub one_island : (w : ℕ) → w < length adj → OneIsland adj (slice_index xs w)
  pub wrote : Wrote before after 0 k (2 * (length adj * (length adj - 1)))
  pub on_edges : Each (OnEdge adj) (gates_in after 0 k)
  pub on_busy_islands : Each (λ g. Busy adj xs g.0) (gates_in after 0 k)
  pub moved : ys ≡ map (acts (gates_in after 0 k)) xs
  pub duals_moved : es ≡ map (acts (turned (gates_in after 0 k))) ds
  pub duals_are_sets : es ≡ ys
  pub own_places : OwnPlaces (length adj) ys
  pub delivers : (ws : List ℕ) → length ws ≡ length adj → (w p : ℕ) → slice_index ys w ≡ 2 ^ p → slice_index (replay (gates_in after 0 k) ws) p ≡ xor_over ws (slice_index xs w)
  pub idle_only_single : k ≡ 0 → AllSingle (length adj) xs
  pub single_idle : AllSingle (length adj) xs → k ≡ 0

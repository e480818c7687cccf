-- One wire is given a place of its own. A is what the wires want, B are their duals, and live the places not yet given.
use Rattle.std.specs.Prelude.{◌≡◌, ℕ, ◌-◌, ◌*◌, ◌^◌, ◌<◌, ◌≢◌, ◌⊎◌, List, length, bit_xor, count_ones, slice_index}
use Rattle.parity.specs.Sets.{bit}
use Rattle.parity.specs.Gates.{TwoPlaces, Each}
use Rattle.parity.specs.Pairing.{turned}
use Rattle.parity.specs.Entries.{gates_in, Wrote}
use Rattle.islands.specs.Graphs.{Reach, OnEdge, OnIsland}
use Rattle.rounds.specs.Duals.{Moved}

-- the place r can go: the others of its island still reach one another without it
abbrev pub CanGo : List ℕ → ℕ → ℕ → Type 0
CanGo adj live r = (x y : ℕ) → x ≢ r → y ≢ r → Reach adj live r x → Reach adj live r y → Reach adj (bit_xor live (2 ^ r)) x y

-- a round brought the set of the wire w to r, and of its dual left no other place on the island of r
pub record BothBrought (adj : List ℕ) (live w r : ℕ) (A A' B B' out out' : List ℕ) (at end : ℕ) : Type 0 where
  pub wrote : Wrote out out' at end (4 * (count_ones live - 1))
  pub on_edges : Each (OnEdge adj) (gates_in out' at end)
  pub two_places : Each (TwoPlaces (length adj)) (gates_in out' at end)
  pub on_island : Each (OnIsland adj live r) (gates_in out' at end)
  pub moved : Moved (gates_in out' at end) A A'
  pub duals_moved : Moved (turned (gates_in out' at end)) B B'
  pub brought : slice_index A' w ≡ 2 ^ r
  pub dual_alone : (q : ℕ) → Reach adj live r q → bit (slice_index B' w) q ≡ bit (2 ^ r) q

-- w is given r by a round, since some set on the island of r is no single place
pub record ByRound (adj : List ℕ) (live w r : ℕ) (A A' B B' out out' : List ℕ) (at end : ℕ) : Type 0 where
  pub can_go : CanGo adj live r
  pub busy : (v : ℕ) × (v < length A) × (count_ones (slice_index A v) ≢ 1) × ((q : ℕ) × (bit (slice_index A v) q ≡ 1) × Reach adj live r q)
  pub round : BothBrought adj live w r A A' B B' out out' at end

-- w is given r with no gate: each set on the island of r is a single place
pub record AtRest (adj : List ℕ) (live w r : ℕ) (A A' B B' out out' : List ℕ) (at end : ℕ) : Type 0 where
  pub sets : A' ≡ A
  pub duals : B' ≡ B
  pub entries : out' ≡ out
  pub stays : end ≡ at
  pub single : slice_index A w ≡ 2 ^ r
  pub others : (v : ℕ) → v < length A → (q : ℕ) → bit (slice_index A v) q ≡ 1 → Reach adj live r q → count_ones (slice_index A v) ≡ 1

-- w is given r
abbrev pub Given : List ℕ → ℕ → ℕ → ℕ → List ℕ → List ℕ → List ℕ → List ℕ → List ℕ → List ℕ → ℕ → ℕ → Type 0
Given adj live w r A A' B B' out out' at end = AtRest adj live w r A A' B B' out out' at end ⊎ ByRound adj live w r A A' B B' out out' at end

-- q is on the island of r, or it is not
abbrev pub Told : List ℕ → ℕ → ℕ → Type 0
Told adj live r = (q : ℕ) → Reach adj live r q ⊎ (Reach adj live r q → ⊥)

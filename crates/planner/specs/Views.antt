-- What the types of the planner stand for: their lists.
use Rattle.std.specs.Prelude.{◌≡◌, ℕ, List, length}
use Rattle.islands.specs.Graphs.{OnEdge}
use Rattle.planner.specs.Plans.{NoPlan, PlanIn}
use Rattle.planner.specs.declared.store.Adjacency.{Adjacency}
use Rattle.planner.specs.declared.store.Block.{Block}
use Rattle.planner.specs.declared.store.Places.{Places}

-- for each place the set of its neighbours
abbrev pub neighbours_of : Adjacency → List ℕ
neighbours_of a = a.rows.items

-- for each wire its word
abbrev pub words_of : Block → List ℕ
words_of b = b.words.items

-- for each wire its dual word
abbrev pub duals_of : Block → List ℕ
duals_of b = b.duals.items

-- for each wire its place
abbrev pub places_of : Places → List ℕ
places_of p = p.at.items

-- the block and the placement are of n wires
abbrev pub SizesAre : ℕ → Block → Places → Type 0
SizesAre n b p = (length (words_of b) ≡ n) × (length (places_of p) ≡ n)

-- the first k entries are a plan between neighbours
abbrev pub PlanFor : Adjacency → Block → Places → List ℕ → List ℕ → ℕ → List ℕ → Type 0
PlanFor a b p before after k new = PlanIn (OnEdge (neighbours_of a)) (length (neighbours_of a)) (words_of b) (places_of p) before after k new

-- no list of gates between neighbours, of any length, does what the block asks, with any placement
abbrev pub Planless : Adjacency → Block → Places → Type 0
Planless a b p = NoPlan (OnEdge (neighbours_of a)) (length (neighbours_of a)) (words_of b) (places_of p)

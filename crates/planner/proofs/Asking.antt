-- What the planner is asked with meets what the rounds need.
use Rattle.std.proofs.Common.{ℕ, ◌^◌, ◌<◌, length, get_or, subst, arith}
use Rattle.parity.specs.Placements.{Placement}
use Rattle.rounds.specs.Duals.{Paired}
use Rattle.planner.specs.declared.store.Block.{Block}
use Rattle.planner.specs.declared.store.Places.{Places}
use Rattle.planner.specs.Views.{words_of, duals_of, places_of, SizesAre}

-- a place is below 64
pub place_below_64 : (p : Places) (w : ℕ) → w < length (places_of p) → get_or (places_of p) w 0 < 64
place_below_64 p w h = let b = p.placed.below w h in let f = p.few in omega arith

-- a block and a placement of n wires
module _ (n : ℕ) (b : Block) (p : Places) (s : SizesAre n b p) where
  pub words_below : (w : ℕ) → w < n → get_or (words_of b) w 0 < 2 ^ n
  words_below = subst (λ (m : ℕ). (w : ℕ) → w < m → get_or (words_of b) w 0 < 2 ^ m) s.0 b.words_below

  pub duals_below : (w : ℕ) → w < n → get_or (duals_of b) w 0 < 2 ^ n
  duals_below = subst (λ (m : ℕ). (w : ℕ) → w < m → get_or (duals_of b) w 0 < 2 ^ m) s.0 b.duals_below

  pub paired : Paired n (words_of b) (duals_of b)
  paired = subst (λ (m : ℕ). Paired m (words_of b) (duals_of b)) s.0 b.paired

  pub placed : Placement n (places_of p)
  placed = subst (λ (m : ℕ). Placement m (places_of p)) s.1 p.placed

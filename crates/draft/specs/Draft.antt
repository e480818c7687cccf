-- Map files put together from couplers.
use Rattle.std.specs.Prelude.{ℕ, ◌/◌, ◌%◌, List, ◌∷◌, ◌++◌, map, length}

-- the number of places, the number of couplers, low byte first, the left ends, and the right ends
abbrev pub map_file : ℕ → List (ℕ × ℕ) → List ℕ
map_file places couplers =
    places ∷ length couplers % 256 ∷ length couplers / 256 ∷ (map (λ e. e.0) couplers ++ map (λ e. e.1) couplers)

-- Couplers whose ends are given by number, and which of them is the first that no chip may have.
use Rattle.std.specs.Prelude.{ℕ, Bool, ◌||◌, List, map, Option, ◌==◌, nat_le, slice_index_or}
use Rattle.std.specs.List.{range_with_len}
use Rattle.chip.specs.Layout.{Layout, touches}
use Rattle.map.specs.Bounded.{any_below, least_below}

-- n places, and these couplers
abbrev pub layout_with : ℕ → List (ℕ × ℕ) → Layout
layout_with n es = record { places = n; couplers = es }

-- the ends of each coupler
abbrev pub ends_in : List (ℕ × ℕ) → ℕ → ℕ × ℕ
ends_in es k = slice_index_or es k (0, 0)

-- n places, and the couplers e 0 to e (m - 1)
abbrev pub layout_by : ℕ → ℕ → (ℕ → ℕ × ℕ) → Layout
layout_by n m e = layout_with n (map e (range_with_len 0 m))

-- an earlier coupler joins the same two places, in either order
abbrev pub repeated : (ℕ → ℕ × ℕ) → ℕ → Bool
repeated e k = any_below (λ j. touches (e j).0 (e j).1 (e k)) k

-- an end is no place, or the ends are equal, or the pair was met before
abbrev pub bad_coupler : ℕ → (ℕ → ℕ × ℕ) → ℕ → Bool
bad_coupler n e k = nat_le n (e k).0 || (nat_le n (e k).1 || ((e k).0 == (e k).1 || repeated e k))

abbrev pub any_bad : ℕ → ℕ → (ℕ → ℕ × ℕ) → Bool
any_bad n m e = any_below (bad_coupler n e) m

abbrev pub first_bad : ℕ → ℕ → (ℕ → ℕ × ℕ) → Option ℕ
first_bad n m e = least_below (bad_coupler n e) m

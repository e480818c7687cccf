-- The layout of a grid with R rows and C columns.
use Rattle.std.specs.Prelude.{ℕ, ◌+◌, ◌-◌, ◌*◌, ◌/◌, ◌%◌, Bool, cond, ◌&&◌, map, Some, None, Option, nat_le, nat_lt}
use Rattle.std.specs.List.{range_with_len}
use Rattle.chip.specs.declared.fault.ChipFault.{ChipFault}
use Rattle.chip.specs.declared.fault.ChipFault.TheVariants.{NoSuchCoupler, SizeOffLimits}
use Rattle.chip.specs.Layout.{Layout}

-- the place in row r and column c
abbrev pub place_at : ℕ → ℕ → ℕ → ℕ
place_at C r c = r * C + c

-- how many couplers go to the right: each row has C - 1
abbrev pub rightward : ℕ → ℕ → ℕ
rightward R C = R * (C - 1)

-- how many couplers go down: each row but the last has C
abbrev pub downward : ℕ → ℕ → ℕ
downward R C = (R - 1) * C

abbrev pub grid_couplers : ℕ → ℕ → ℕ
grid_couplers R C = rightward R C + downward R C

-- where rightward coupler k begins: the couplers go through row 0, then row 1, and so on
abbrev pub right_from : ℕ → ℕ → ℕ
right_from C k = place_at C (k / (C - 1)) (k % (C - 1))

-- the ends of rightward coupler k: a place and the next in its row
abbrev pub right_ends : ℕ → ℕ → ℕ × ℕ
right_ends C k = (right_from C k, right_from C k + 1)

-- the ends of downward coupler j: a place and the one below it
abbrev pub down_ends : ℕ → ℕ → ℕ × ℕ
down_ends C j = (j, j + C)

-- the rightward couplers come first
abbrev pub grid_ends : ℕ → ℕ → ℕ → ℕ × ℕ
grid_ends R C k = cond (nat_lt k (rightward R C)) (right_ends C k) (down_ends C (k - rightward R C))

abbrev pub grid_layout : ℕ → ℕ → Layout
grid_layout R C = record { places = R * C; couplers = map (grid_ends R C) (range_with_len 0 (grid_couplers R C)) }

-- the number is 1 to 64
abbrev pub in_range : ℕ → Bool
in_range n = nat_le 1 n && nat_le n 64

abbrev pub grid_fault : ℕ → ℕ → Option ChipFault
grid_fault R C = cond (in_range R && (in_range C && nat_le (R * C) 64)) None (Some SizeOffLimits)

abbrev pub grid_coupler_fault : ℕ → ℕ → ℕ → Option ChipFault
grid_coupler_fault R C k = cond (nat_lt k (grid_couplers R C)) None (Some NoSuchCoupler)

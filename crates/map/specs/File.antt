-- A map file: byte 0 is the number of places n, bytes 1 and 2 the number of couplers m, low byte first,
-- then m left ends and m right ends, a byte each.
use Rattle.std.specs.Prelude.{ℕ, ◌+◌, ◌*◌, Bool, cond, ◌&&◌, List, length, Some, None, Option, ◌==◌, nat_le, slice_index}
use Rattle.chip.specs.declared.fault.ChipFault.{ChipFault}
use Rattle.chip.specs.declared.fault.ChipFault.TheVariants.{WrongLength, SizeOffLimits, BadCoupler}
use Rattle.chip.specs.Layout.{Layout}
use Rattle.map.specs.Couplers.{layout_by, first_bad}

abbrev pub map_places : List ℕ → ℕ
map_places file = slice_index file 0

abbrev pub map_couplers : List ℕ → ℕ
map_couplers file = slice_index file 1 + 256 * slice_index file 2

-- the ends of coupler k: the right ends begin at byte 3 + m
abbrev pub map_ends : List ℕ → ℕ → ℕ × ℕ
map_ends file k = (slice_index file (3 + k), slice_index file (3 + map_couplers file + k))

abbrev pub map_layout : List ℕ → Layout
map_layout file = layout_by (map_places file) (map_couplers file) (map_ends file)

-- n is 1 to 64 and m at most 256
abbrev pub in_limits : ℕ → ℕ → Bool
in_limits n m = nat_le 1 n && (nat_le n 64 && nat_le m 256)

-- the fault of a file whose first bad coupler is given
abbrev pub bad_fault : Option ℕ → Option ChipFault
bad_fault None = None
bad_fault (Some k) = Some (BadCoupler k)

-- the fault f unless the check holds, and then the checks that follow
abbrev pub unless : Bool → ChipFault → Option ChipFault → Option ChipFault
unless holds f next = cond holds next (Some f)

-- the checks, in their order
abbrev pub map_fault : List ℕ → Option ChipFault
map_fault file =
    unless (nat_le 3 (length file)) WrongLength
    (unless (in_limits (map_places file) (map_couplers file)) SizeOffLimits
    (unless (length file == 3 + 2 * map_couplers file) WrongLength
    (bad_fault (first_bad (map_places file) (map_couplers file) (map_ends file)))))

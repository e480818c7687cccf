-- Blocks: what the calls on a block answer, and what they make of its words.
use Rattle.std.specs.Prelude.{ℕ, cond, ◌&&◌, List, Some, None, Option, ◌==◌, nat_lt, slice_index, slice_set}
use Rattle.planner.specs.declared.fault.WireFault.{WireFault}
use Rattle.planner.specs.declared.fault.WireFault.TheVariants.{NoSuchWire, SameWire}

-- both wires are below n, and they differ
abbrev pub wire_fault : ℕ → ℕ → ℕ → Option WireFault
wire_fault n a b = cond (nat_lt a n && nat_lt b n) (cond (a == b) (Some SameWire) None) (Some NoSuchWire)

-- the words of a and b traded for one another
abbrev pub traded : ℕ → ℕ → List ℕ → List ℕ
traded a b ws = slice_set (slice_set ws a (slice_index ws b)) b (slice_index ws a)

-- A mapped chip is known by its layout; what a map file is answered with.
use Rattle.std.specs.Prelude.{◌≡◌, ℕ, List, Some, None, Ok, Err, vec_items, Result}
use Rattle.chip.specs.declared.fault.ChipFault.{ChipFault}
use Rattle.chip.specs.declared.fault.ChipFault.TheVariants.{NoSuchCoupler, WrongLength, SizeOffLimits, BadCoupler, NoMemory}
use Rattle.chip.specs.Layout.{Layout}
use Rattle.map.specs.declared.store.MappedChip.{MappedChip}
use Rattle.map.specs.Couplers.{layout_with}
use Rattle.map.specs.File.{map_fault, map_layout}

abbrev pub layout_of : MappedChip → Layout
layout_of c = layout_with c.places (vec_items c.couplers)

-- a file is refused for its own fault, or a good file for want of memory
abbrev pub RefusedFor : List ℕ → ChipFault → Type 0
RefusedFor file NoMemory = map_fault file ≡ None
RefusedFor file NoSuchCoupler = ⊥
RefusedFor file WrongLength = map_fault file ≡ Some WrongLength
RefusedFor file SizeOffLimits = map_fault file ≡ Some SizeOffLimits
RefusedFor file (BadCoupler k) = map_fault file ≡ Some (BadCoupler k)

abbrev pub ReadAs : List ℕ → Result MappedChip ChipFault → Type 0
ReadAs file (Ok c) = (map_fault file ≡ None) × (layout_of c ≡ map_layout file)
ReadAs file (Err f) = RefusedFor file f

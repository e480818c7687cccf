-- A grid chip is known by its layout.
use Rattle.std.specs.Prelude.{Ok, Err, Result}
use Rattle.chip.specs.declared.fault.ChipFault.{ChipFault}
use Rattle.chip.specs.Layout.{Layout}
use Rattle.grid.specs.declared.store.GridChip.{GridChip}
use Rattle.grid.specs.Grid.{grid_layout}

abbrev pub layout_of : GridChip → Layout
layout_of g = grid_layout g.rows g.columns

-- the layout of the chip in an answer, or the fault
abbrev pub layout_in : Result GridChip ChipFault → Result Layout ChipFault
layout_in (Ok g) = Ok (layout_of g)
layout_in (Err f) = Err f

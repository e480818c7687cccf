-- Marks beside a layout.
use Rattle.std.specs.Prelude.{Bool, List, length, take}
use Rattle.chip.specs.Layout.{Layout}
use Rattle.machine.specs.declared.marks.Marks.{Marks}

-- the marks that the chip's couplers have
abbrev pub service_of : Layout → Marks → List Bool
service_of l m = take (length l.couplers) m.marks

-- A chip of either kind is known by its layout.
use Rattle.std.specs.Prelude.{◌≡◌, Result, MatchResult}
use Rattle.chip.specs.Layout.{Layout}
use Rattle.chip.specs.declared.fault.ChipFault.{ChipFault}
use Rattle.grid.specs.Chips.{layout_of as grid_of}
use Rattle.map.specs.Chips.{layout_of as map_of}
use Rattle.device.specs.declared.chips.AnyChip.{AnyChip}
use Rattle.device.specs.declared.chips.AnyChip.TheVariants.{Grid, Mapped}

abbrev pub any_layout : AnyChip → Layout
any_layout (Grid g) = grid_of g
any_layout (Mapped m) = map_of m

-- a copy of a grid is never refused
abbrev pub GridIsCopied : AnyChip → Result AnyChip ChipFault → Type 0
GridIsCopied (Grid g) r = MatchResult r (λ c. any_layout c ≡ grid_of g) (λ _. ⊥)
GridIsCopied (Mapped m) r = Unit {0}

-- The laws of a chip and of a machine, by kind.
use Rattle.chip.specs.Layout.{Sound}
use Rattle.grid.specs.Couplers.{grid_sound}
use Rattle.machine.specs.Meaning.{Fitting}
use Rattle.table.specs.Tables.{fits as table_fits}
use Rattle.tape.specs.Tapes.{fits as tape_fits}
use Rattle.device.specs.declared.chips.AnyChip.{AnyChip}
use Rattle.device.specs.declared.chips.AnyChip.TheVariants.{Grid, Mapped}
use Rattle.device.specs.declared.machines.AnyMachine.{AnyMachine}
use Rattle.device.specs.declared.machines.AnyMachine.TheVariants.{Table, Tape}
use Rattle.device.specs.Chips.{any_layout}
use Rattle.device.specs.Machines.{any_chip, chip_layout, any_meaning}

pub any_sound : (c : AnyChip) → Sound (any_layout c)
any_sound (Grid g) = grid_sound g.rows g.columns g.some_row g.some_column g.at_most_64
any_sound (Mapped m) = m.sound

pub machine_sound : (m : AnyMachine) → Sound (chip_layout m)
machine_sound m = any_sound (any_chip m)

pub machine_fits : (m : AnyMachine) → Fitting (chip_layout m) (any_meaning m)
machine_fits (Table m) = table_fits (any_layout m.chip) m (any_sound m.chip)
machine_fits (Tape m) = tape_fits (any_layout m.chip) m (any_sound m.chip)

-- A machine of either kind: its layout and its meaning.
use Rattle.chip.specs.Layout.{Layout}
use Rattle.machine.specs.Meaning.{Meaning}
use Rattle.table.specs.Table.{table_meaning}
use Rattle.tape.specs.Tape.{tape_meaning}
use Rattle.device.specs.declared.chips.AnyChip.{AnyChip}
use Rattle.device.specs.declared.machines.AnyMachine.{AnyMachine}
use Rattle.device.specs.declared.machines.AnyMachine.TheVariants.{Table, Tape}
use Rattle.device.specs.Chips.{any_layout}

abbrev pub any_chip : AnyMachine → AnyChip
any_chip (Table m) = m.chip
any_chip (Tape m) = m.chip

abbrev pub chip_layout : AnyMachine → Layout
chip_layout m = any_layout (any_chip m)

abbrev pub any_meaning : AnyMachine → Meaning
any_meaning (Table m) = table_meaning (any_layout m.chip) m
any_meaning (Tape m) = tape_meaning (any_layout m.chip) m

-- What a script has set up, by its meaning.
use Rattle.std.specs.Prelude.{Some, None, Option}
use Rattle.std.specs.Option.{option_map}
use Rattle.chip.specs.Layout.{Layout}
use Rattle.machine.specs.Meaning.{Meaning}
use Rattle.device.specs.Chips.{any_layout}
use Rattle.device.specs.Machines.{chip_layout, any_meaning}
use Rattle.device.specs.declared.machines.AnyMachine.{AnyMachine}
use Rattle.simulation.specs.declared.setup.Setup.{Setup}

-- a machine: its chip's layout and its meaning
pub record MachineStatus : Type 0 where
  pub layout : Layout
  pub meaning : Meaning

-- the chip, if one was chosen, and the machine, if one was made on it
pub record Status : Type 0 where
  pub chip : Option Layout
  pub machine : Option MachineStatus

abbrev pub machine_of : AnyMachine → MachineStatus
machine_of m = record { layout = chip_layout m; meaning = any_meaning m }

abbrev pub status_of : Setup → Status
status_of s = record { chip = option_map any_layout s.chip; machine = option_map machine_of s.machine }

abbrev pub empty : Status
empty = record { chip = None; machine = None }

-- a chip was chosen: a machine on an earlier one is gone
abbrev pub with_chip : Layout → Status
with_chip l = record { chip = Some l; machine = None }

-- a machine was made, or does something
abbrev pub with_machine : Status → Layout → Meaning → Status
with_machine s l m = record { chip = s.chip; machine = Some (record { layout = l; meaning = m }) }

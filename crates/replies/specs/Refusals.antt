-- The text of a command that was not obeyed.
use Rattle.std.specs.Prelude.{ℕ, List, ◌++◌, codes, decimal}
use Rattle.chip.specs.Faults.{chip_text}
use Rattle.machine.specs.Faults.{machine_text}
use Rattle.planner.specs.Faults.{wire_text}
use Rattle.replies.specs.declared.refusal.Refusal.{Refusal}
use Rattle.replies.specs.declared.refusal.Refusal.TheVariants.{NoChip, NoMachine, Chip, Machine, Wire, Unreachable, NoMemory}

-- a refusal of the chip, the machine or the block stands as it came
abbrev pub refusal_text : Refusal → List ℕ
refusal_text NoChip = codes "no chip: expected grid R C or map FILE first"
refusal_text NoMachine = codes "no machine: expected table or tape LENGTH first"
refusal_text (Chip f) = chip_text f
refusal_text (Machine f) = machine_text f
refusal_text (Wire f) = wire_text f
refusal_text (Unreachable w) = codes "refused 17: no gates do it, wire " ++ (decimal w ++ codes " needs two islands")
refusal_text NoMemory = codes "refused 0: no memory"

-- The chip's refusals: number, values carried, and text.
use Rattle.std.specs.Prelude.{ℕ, List, [], ◌∷◌, ◌++◌, codes, decimal}
use Rattle.chip.specs.declared.fault.ChipFault.{ChipFault}
use Rattle.chip.specs.declared.fault.ChipFault.TheVariants.{NoSuchCoupler, WrongLength, SizeOffLimits, BadCoupler, NoMemory}
use Rattle.chip.specs.Answers.{Refusal}

abbrev pub chip_refusal : ChipFault → Refusal
chip_refusal NoSuchCoupler = record { number = 2; carried = [] }
chip_refusal WrongLength = record { number = 5; carried = [] }
chip_refusal SizeOffLimits = record { number = 6; carried = [] }
chip_refusal (BadCoupler k) = record { number = 7; carried = k ∷ [] }
chip_refusal NoMemory = record { number = 0; carried = [] }

abbrev pub chip_text : ChipFault → List ℕ
chip_text NoSuchCoupler = codes "refused 2: no such coupler"
chip_text WrongLength = codes "refused 5: the map has the wrong length"
chip_text SizeOffLimits = codes "refused 6: a size is out of range"
chip_text (BadCoupler k) = codes "refused 7: coupler " ++ (decimal k ++ codes " is no coupler of its own")
chip_text NoMemory = codes "refused 0: no memory"

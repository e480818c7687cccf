-- The machine's refusals: number, values carried, and text.
use Rattle.std.specs.Prelude.{ℕ, List, [], ◌∷◌, ◌++◌, codes, decimal}
use Rattle.chip.specs.Answers.{Refusal}
use Rattle.machine.specs.declared.fault.MachineFault.{MachineFault}
use Rattle.machine.specs.declared.fault.MachineFault.TheVariants.{PlaceOutOfRange, NoSuchCoupler, NotCoupled, AllowanceExceeded, TapeTooLong, NoMemory}

abbrev pub machine_refusal : MachineFault → Refusal
machine_refusal PlaceOutOfRange = record { number = 1; carried = [] }
machine_refusal NoSuchCoupler = record { number = 2; carried = [] }
machine_refusal NotCoupled = record { number = 3; carried = [] }
machine_refusal (AllowanceExceeded asked left) = record { number = 4; carried = asked ∷ left ∷ [] }
machine_refusal TapeTooLong = record { number = 8; carried = [] }
machine_refusal NoMemory = record { number = 0; carried = [] }

abbrev pub machine_text : MachineFault → List ℕ
machine_text PlaceOutOfRange = codes "refused 1: no such place"
machine_text NoSuchCoupler = codes "refused 2: no such coupler"
machine_text NotCoupled = codes "refused 3: no coupler in service joins the two places"
machine_text (AllowanceExceeded asked left) =
    codes "refused 4: " ++ (decimal asked ++ (codes " gates asked, " ++ (decimal left ++ codes " left")))
machine_text TapeTooLong = codes "refused 8: a tape has at most 8192 entries"
machine_text NoMemory = codes "refused 0: no memory"

-- The session's refusals: number, values carried, and text; and what a lower layer's refusal becomes.
use Rattle.std.specs.Prelude.{ℕ, List, [], ◌∷◌, ◌++◌, codes, decimal}
use Rattle.chip.specs.Answers.{Refusal}
use Rattle.machine.specs.Faults.{machine_refusal, machine_text}
use Rattle.planner.specs.declared.fault.WireFault.{WireFault}
use Rattle.planner.specs.declared.fault.WireFault.TheVariants as wires
use Rattle.planner.specs.declared.fault.PlanFault.{PlanFault}
use Rattle.planner.specs.declared.fault.PlanFault.TheVariants as plan
use Rattle.session_fault.specs.declared.SessionFault.{SessionFault}
use Rattle.session_fault.specs.declared.SessionFault.TheVariants.{MachineNotNew, SizeMismatch, CouplerNotIn, OtherSession, CouplerNotOut, PlanBufferTooShort, Unreachable, Machine, NoSuchWire, SameWire, NoMemory}

-- a machine's refusal is carried whole: its number, then what it carries
abbrev pub session_refusal : SessionFault → Refusal
session_refusal MachineNotNew = record { number = 10; carried = [] }
session_refusal SizeMismatch = record { number = 11; carried = [] }
session_refusal CouplerNotIn = record { number = 12; carried = [] }
session_refusal OtherSession = record { number = 14; carried = [] }
session_refusal CouplerNotOut = record { number = 15; carried = [] }
session_refusal (PlanBufferTooShort needed) = record { number = 16; carried = needed ∷ [] }
session_refusal Unreachable = record { number = 17; carried = [] }
session_refusal (Machine f) = record { number = 18; carried = (machine_refusal f).number ∷ (machine_refusal f).carried }
session_refusal NoSuchWire = record { number = 19; carried = [] }
session_refusal SameWire = record { number = 20; carried = [] }
session_refusal NoMemory = record { number = 0; carried = [] }

-- what happened
abbrev pub session_event : SessionFault → List ℕ
session_event MachineNotNew = codes "the machine is not new"
session_event SizeMismatch = codes "the machine is of another size"
session_event CouplerNotIn = codes "the coupler is not in"
session_event OtherSession = codes "the pass is of another session"
session_event CouplerNotOut = codes "the coupler is not out here"
session_event (PlanBufferTooShort needed) = codes "the plan buffer is too short"
session_event Unreachable = codes "no gates do it"
session_event (Machine f) = codes "the machine turned it down"
session_event NoSuchWire = codes "no such wire"
session_event SameWire = codes "both wires are one"
session_event NoMemory = codes "no memory"

abbrev pub plain_text : SessionFault → List ℕ
plain_text f = codes "refused " ++ (decimal (session_refusal f).number ++ (codes ": " ++ session_event f))

-- a number that is carried stands in the text, and so does a machine's refusal, as it came
abbrev pub session_text : SessionFault → List ℕ
session_text MachineNotNew = plain_text MachineNotNew
session_text SizeMismatch = plain_text SizeMismatch
session_text CouplerNotIn = plain_text CouplerNotIn
session_text OtherSession = plain_text OtherSession
session_text CouplerNotOut = plain_text CouplerNotOut
session_text (PlanBufferTooShort needed) = codes "refused 16: the plan buffer needs " ++ (decimal needed ++ codes " entries")
session_text Unreachable = plain_text Unreachable
session_text (Machine f) = codes "refused 18: " ++ machine_text f
session_text NoSuchWire = plain_text NoSuchWire
session_text SameWire = plain_text SameWire
session_text NoMemory = plain_text NoMemory

-- what the block turned down
abbrev pub of_wires : WireFault → SessionFault
of_wires wires.NoSuchWire = NoSuchWire
of_wires wires.SameWire = SameWire

-- what the planner turned down
abbrev pub of_plan : PlanFault → SessionFault
of_plan plan.SizeMismatch = SizeMismatch
of_plan (plan.BufferTooShort needed) = PlanBufferTooShort needed
of_plan plan.Unreachable = Unreachable

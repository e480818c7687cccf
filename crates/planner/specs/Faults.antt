-- The planner's refusals: number, values carried, and text.
use Rattle.std.specs.Prelude.{ℕ, List, [], ◌∷◌, ◌++◌, codes, decimal}
use Rattle.chip.specs.Answers.{Refusal}
use Rattle.planner.specs.declared.fault.WireFault.{WireFault}
use Rattle.planner.specs.declared.fault.WireFault.TheVariants.{NoSuchWire, SameWire}
use Rattle.planner.specs.declared.fault.PlanFault.{PlanFault}
use Rattle.planner.specs.declared.fault.PlanFault.TheVariants.{SizeMismatch, BufferTooShort, Unreachable}

abbrev pub wire_refusal : WireFault → Refusal
wire_refusal NoSuchWire = record { number = 19; carried = [] }
wire_refusal SameWire = record { number = 20; carried = [] }

-- what happened
abbrev pub wire_event : WireFault → List ℕ
wire_event NoSuchWire = codes "no such wire"
wire_event SameWire = codes "both wires are one"

abbrev pub wire_text : WireFault → List ℕ
wire_text f = codes "refused " ++ (decimal (wire_refusal f).number ++ (codes ": " ++ wire_event f))

abbrev pub plan_refusal : PlanFault → Refusal
plan_refusal SizeMismatch = record { number = 11; carried = [] }
plan_refusal (BufferTooShort needed) = record { number = 16; carried = needed ∷ [] }
plan_refusal Unreachable = record { number = 17; carried = [] }

-- what happened
abbrev pub plan_event : PlanFault → List ℕ
plan_event SizeMismatch = codes "the sizes differ"
plan_event (BufferTooShort needed) = codes "the buffer is too short"
plan_event Unreachable = codes "no gates do it"

-- and how much is wanted
abbrev pub plan_want : PlanFault → List ℕ
plan_want SizeMismatch = []
plan_want (BufferTooShort needed) = codes ", " ++ (decimal needed ++ codes " entries needed")
plan_want Unreachable = []

abbrev pub plan_text : PlanFault → List ℕ
plan_text f = codes "refused " ++ (decimal (plan_refusal f).number ++ (codes ": " ++ (plan_event f ++ plan_want f)))

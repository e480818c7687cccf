-- What each command does: whether it is refused, what it answers, and what it leaves.
use Rattle.std.specs.Prelude.{◌≡◌, ℕ, Bool, false, ◌⊎◌, length, Some, None, Err, string_bytes, Option, Result, String, MatchResult}
use Rattle.std.specs.declared.alloc.Global.{Global}
use Rattle.std.specs.Option.{option_map}
use Rattle.chip.specs.Answers.{answered, kept}
use Rattle.chip.specs.declared.fault.ChipFault.TheVariants.{NoMemory as ChipMemory}
use Rattle.chip.specs.Layout.{Layout}
use Rattle.machine.specs.declared.fault.MachineFault.{MachineFault}
use Rattle.machine.specs.declared.fault.MachineFault.TheVariants.{NoMemory as MachineMemory}
use Rattle.machine.specs.Meaning.{Meaning, new}
use Rattle.machine.specs.Calls.{serves_at}
use Rattle.replies.specs.declared.refusal.Refusal.{Refusal}
use Rattle.replies.specs.declared.refusal.Refusal.TheVariants.{NoChip, NoMachine, Chip, Machine, NoMemory}
use Rattle.tape.specs.Tape.{tape_fault}
use Rattle.device.specs.declared.machines.AnyMachine.{AnyMachine}
use Rattle.device.specs.Machines.{chip_layout, any_meaning}
use Rattle.lines.specs.Lines.{words_text}
use Rattle.simulation.specs.Statuses.{Status, MachineStatus, with_machine}

-- the answer, and the status before and after: a refusal changes nothing
pub record Does {A : Type 0} (s : Status) (fault : Option Refusal) (answer : A) (after : Status) (r : Result A Refusal) (t : Status) : Type 0 where
  pub answers : r ≡ answered fault answer
  pub leaves : t ≡ kept fault after s

-- memory was wanting, and nothing changed
pub record Lacks {A : Type 0} (s : Status) (r : Result A Refusal) (t : Status) : Type 0 where
  pub why : Refusal
  pub memory : (why ≡ Chip ChipMemory) ⊎ ((why ≡ Machine MachineMemory) ⊎ (why ≡ NoMemory))
  pub answers : r ≡ Err why
  pub leaves : t ≡ s

-- the sizes that a chosen chip is answered with
abbrev pub sizes : Layout → ℕ × ℕ
sizes l = (l.places, length l.couplers)

-- a chip is there to make a machine on
abbrev pub chipless : Option Layout → Option Refusal
chipless None = Some NoChip
chipless (Some l) = None

-- what a machine says; without one, that there is none
abbrev pub on_machine : Option MachineStatus → (Layout → Meaning → Option MachineFault) → Option Refusal
on_machine None fault = Some NoMachine
on_machine (Some m) fault = option_map Machine (fault m.layout m.meaning)

-- the machine's meaning, changed
abbrev pub changed : Status → Option MachineStatus → (Meaning → Meaning) → Status
changed s None f = s
changed s (Some m) f = with_machine s m.layout (f m.meaning)

-- a new machine on the chip
abbrev pub with_new_machine : Status → Option Layout → ℕ → Status
with_new_machine s None allowed = s
with_new_machine s (Some l) allowed = with_machine s l (new l allowed)

-- the allowance, and what it is after one more gate
abbrev pub allowance_in : Option MachineStatus → ℕ
allowance_in None = 0
allowance_in (Some m) = m.meaning.allowance

abbrev pub serves_in : Option MachineStatus → ℕ → Bool
serves_in None k = false
serves_in (Some m) k = serves_at m.meaning k

-- first the one, then the other
abbrev pub before : {F : Type 0} → Option F → Option F → Option F
before (Some f) g = Some f
before None g = g

-- a machine is made, or memory was wanting
abbrev pub DoesOrLacks : {A : Type 0} → Status → Option Refusal → A → Status → Result A Refusal → Status → Type 0
DoesOrLacks s fault answer after r t = Does s fault answer after r t ⊎ Lacks s r t

-- a chip of the layout chosen, unless there is none, or no memory
abbrev pub Again : {C : Type 0} → Option Layout → (C → Layout) → Result C Refusal → Type 0
Again None layout r = MatchResult r (λ _. ⊥) (λ f. f ≡ NoChip)
Again (Some l) layout r = MatchResult r (λ c. layout c ≡ l) (λ f. f ≡ Chip ChipMemory)

-- the words of a machine as a line, unless there is none, or no memory
abbrev pub WordsSaid : Option MachineStatus → Result (String Global) Refusal → Type 0
WordsSaid None r = MatchResult r (λ _. ⊥) (λ f. f ≡ NoMachine)
WordsSaid (Some m) r = MatchResult r (λ line. string_bytes line ≡ words_text m.meaning.words) (λ f. f ≡ NoMemory)

-- a tape machine on a chip of layout l; past its own fault only memory can be wanting
abbrev pub TapeMade : Layout → ℕ → Result AnyMachine Refusal → Type 0
TapeMade l long r =
    MatchResult r (λ m. (tape_fault long ≡ None) × (chip_layout m ≡ l) × (any_meaning m ≡ new l long))
    (λ f. (option_map Machine (tape_fault long) ≡ Some f) ⊎ ((tape_fault long ≡ None) × (f ≡ Machine MachineMemory)))

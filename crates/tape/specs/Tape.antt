-- What a tape machine means, and how one is made.
use Rattle.std.specs.Prelude.{◌≡◌, ℕ, ◌-◌, cond, List, map, length, Some, None, Ok, Err, vec_capacity, vec_items, Option, Result, nat_lt}
use Rattle.chip.specs.Layout.{Layout}
use Rattle.parity.specs.Words.{fresh, gate_of, replay}
use Rattle.machine.specs.declared.fault.MachineFault.{MachineFault}
use Rattle.machine.specs.declared.fault.MachineFault.TheVariants.{TapeTooLong, NoMemory}
use Rattle.machine.specs.declared.marks.Marks.{Marks}
use Rattle.machine.specs.Meaning.{Meaning, new}
use Rattle.machine.specs.Service.{service_of}
use Rattle.tape.specs.declared.store.TapeMachine.{TapeMachine}
use Rattle.tape.specs.declared.acts.NotMade.{NotMade}

-- what gates kept, a tape of that length and marks mean: the words are the replay, the allowance is the length less the gates
abbrev pub meaning_of : Layout → List ℕ → ℕ → Marks → Meaning
meaning_of l entries long marks = record {
  service = service_of l marks;
  words = replay (map gate_of entries) (fresh l.places);
  allowance = long - length entries;
}

-- The tape's length is its room.
abbrev pub tape_meaning : {C : Type 0} → Layout → TapeMachine C → Meaning
tape_meaning l m = meaning_of l (vec_items m.tape) (vec_capacity m.tape) m.service

abbrev pub tape_fault : ℕ → Option MachineFault
tape_fault long = cond (nat_lt 8192 long) (Some TapeTooLong) None

-- past the checks only memory can be wanting
abbrev pub Refuses : Option MachineFault → MachineFault → Type 0
Refuses (Some g) f = f ≡ g
Refuses None f = f ≡ NoMemory

-- a new machine on the chip, or the chip back with the reason
abbrev pub Makes : {C : Type 0} → (C → Layout) → C → ℕ → Result (TapeMachine C) (NotMade C) → Type 0
Makes layout chip long (Ok m) =
    (tape_fault long ≡ None) × (m.chip ≡ chip) × (tape_meaning (layout m.chip) m ≡ new (layout chip) long)
Makes layout chip long (Err e) = (e.chip ≡ chip) × Refuses (tape_fault long) e.fault

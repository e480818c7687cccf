-- What playing a list of gates comes to.
use Rattle.std.specs.Prelude.{◌≡◌, ℕ, ◌-◌, ◌≤◌, List, [], ◌∷◌, map, length, Some, None, Ok, Err, Option, Result}
use Rattle.chip.specs.Answers.{answered, kept}
use Rattle.chip.specs.Layout.{Layout, Sound}
use Rattle.parity.specs.Words.{Gate, entry, gate_of, replay}
use Rattle.machine.specs.declared.fault.MachineFault.{MachineFault}
use Rattle.machine.specs.Meaning.{Meaning, played}
use Rattle.machine.specs.Calls.{cnot_fault}
use Rattle.machine.specs.OnCoupler.{OnCouplers}

-- the answer, and the machine's meaning then
abbrev pub Outcome : Type 0
Outcome = Result (Unit {0}) MachineFault × Meaning

-- the gate of one entry: what it answers, and the meaning before and after
pub record Turn (l : Layout) (s t : Meaning) (e : ℕ) (r : Result (Unit {0}) MachineFault) : Type 0 where
  pub answer : r ≡ answered (cnot_fault l s (gate_of e).0 (gate_of e).1) tt
  pub leaves : t ≡ kept (cnot_fault l s (gate_of e).0 (gate_of e).1) (played s (gate_of e)) s

-- a refusal ends the playing there
abbrev pub onward : Option MachineFault → Outcome → Meaning → Outcome
onward None rest s = rest
onward (Some f) rest s = (Err f, s)

-- gates one after another, up to the first that is refused
abbrev pub outcome : Layout → Meaning → List ℕ → Outcome
outcome l s [] = (Ok tt, s)
outcome l s (e ∷ es) = onward (cnot_fault l s (gate_of e).0 (gate_of e).1) (outcome l (played s (gate_of e)) es) s

-- all gates played
abbrev pub replayed : Meaning → List Gate → Meaning
replayed s gs = record { service = s.service; words = replay gs s.words; allowance = s.allowance - length gs }

abbrev pub PlayedWhole : Type 0
PlayedWhole = (l : Layout) (s : Meaning) (gs : List Gate) → Sound l → OnCouplers l s.service gs → length gs ≤ s.allowance
    → outcome l s (map entry gs) ≡ (Ok tt, replayed s gs)

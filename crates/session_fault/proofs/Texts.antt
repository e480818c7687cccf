-- A refusal that carries nothing is told by its number and what happened.
use Rattle.std.proofs.Common.{◌≡◌, ℕ, List, ◌++◌, codes, decimal, sym, refl, ◌∙◌, ap₂}
use Rattle.machine.specs.declared.fault.MachineFault.{MachineFault}
use Rattle.session_fault.specs.declared.SessionFault.{SessionFault}
use Rattle.session_fault.specs.declared.SessionFault.TheVariants.{MachineNotNew, SizeMismatch, CouplerNotIn, OtherSession, CouplerNotOut, PlanBufferTooShort, Unreachable, Machine, NoSuchWire, SameWire, NoMemory}
use Rattle.session_fault.specs.Faults.{session_refusal, session_event, plain_text, session_text}

text_is_plain : (f : SessionFault) → ((m : MachineFault) → f ≡ Machine m → ⊥) → ((k : ℕ) → f ≡ PlanBufferTooShort k → ⊥) → session_text f ≡ plain_text f
text_is_plain MachineNotNew h i = refl
text_is_plain SizeMismatch h i = refl
text_is_plain CouplerNotIn h i = refl
text_is_plain OtherSession h i = refl
text_is_plain CouplerNotOut h i = refl
text_is_plain Unreachable h i = refl
text_is_plain NoSuchWire h i = refl
text_is_plain SameWire h i = refl
text_is_plain NoMemory h i = refl
text_is_plain (PlanBufferTooShort k) h i = absurd (i k refl)
text_is_plain (Machine m) h i = absurd (h m refl)

pub plainly : (f : SessionFault) (n : ℕ) (e : List ℕ) → ((m : MachineFault) → f ≡ Machine m → ⊥) → ((k : ℕ) → f ≡ PlanBufferTooShort k → ⊥)
    → n ≡ (session_refusal f).number → e ≡ session_event f → codes "refused " ++ (decimal n ++ (codes ": " ++ e)) ≡ session_text f
plainly f n e h i p q =
    ap₂ (λ (k : ℕ) (x : List ℕ). codes "refused " ++ (decimal k ++ (codes ": " ++ x))) p q ∙ sym (text_is_plain f h i)

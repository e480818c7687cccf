-- A pass turned down is in its slot again.
use Rattle.std.proofs.Common.{◌≡◌, ℕ, get_or, set, Some, None, Ok, Err, Option, Result, sym, ap, ◌∙◌}
use Rattle.std.proofs.lemmas.List.{set-set, set-get_or}
use Rattle.session_fault.specs.declared.SessionFault.{SessionFault}
use Rattle.session.specs.declared.pass.Pass.{Pass}
use Rattle.session.specs.Outages.{returned}
use Rattle.script.specs.Slots.{Slots}

abbrev pass_of : Result (Unit {0}) (SessionFault × Pass) → Pass → Pass
pass_of (Ok a) p = p
pass_of (Err e) p = e.1

came_back : (f : Option SessionFault) (p q : Pass) (x : SessionFault) → Err (x, q) ≡ returned f p → q ≡ p
came_back None p q x e = absurd cc
came_back (Some f) p q x e = ap (λ (r : Result (Unit {0}) (SessionFault × Pass)). pass_of r p) e

pub restored : (h : Slots) (slot : ℕ) (o : Option Pass) (f : Option SessionFault) (p q : Pass) (x : SessionFault) → get_or h slot None ≡ Some p → Err (x, q) ≡ returned f p
    → set (set h slot o) slot (Some q) ≡ h
restored h slot o f p q x there e =
    set-set h slot o (Some q) ∙ ap (λ (y : Option Pass). set h slot y) (ap Some (came_back f p q x e) ∙ sym there) ∙ set-get_or h slot None

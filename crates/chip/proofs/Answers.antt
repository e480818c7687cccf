-- What an answer tells of the fault behind it.
use Rattle.std.proofs.Common.{◌≡◌, Some, None, Ok, Err, Option, Result, sym, refl, ap, ◌∙◌}
use Rattle.chip.specs.Answers.{answered}

err_ok : {F A : Type 0} (f : F) (a : A) → ◌≡◌ {A = Result A F} (Err f) (Ok a) → ⊥
err_ok f a h = cc

ok_err : {F A : Type 0} (f : F) (a : A) → ◌≡◌ {A = Result A F} (Ok a) (Err f) → ⊥
ok_err f a h = cc

-- an obeyed call had no fault
pub answered_ok : {F A : Type 0} (o : Option F) (a b : A) (r : Result A F) → r ≡ answered o a → r ≡ Ok b → o ≡ None
answered_ok None a b r e h = refl
answered_ok (Some f) a b r e h = absurd (err_ok f b (sym e ∙ h))

-- a refusal tells the fault
pub answered_err : {F A : Type 0} (o : Option F) (a : A) (f : F) (r : Result A F) → r ≡ answered o a → r ≡ Err f → o ≡ Some f
answered_err None a f r e h = absurd (ok_err f a (sym e ∙ h))
answered_err (Some g) a f r e h = let x : ◌≡◌ {A = Result _ _} (Err g) (Err f) = sym e ∙ h in cc

-- a call without a fault is not refused
pub never_refused : {F A : Type 0} (o : Option F) (a : A) (f : F) (r : Result A F) → o ≡ None → r ≡ answered o a → r ≡ Err f → ⊥
never_refused o a f r none e h = ok_err f a (sym (e ∙ ap (λ (p : Option _). answered p a) none) ∙ h)

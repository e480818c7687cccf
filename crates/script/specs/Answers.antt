-- What is noted of an order: the answer of its call, and none where no call was made.
use Rattle.std.specs.Prelude.{ℕ, Ok, Err, Option, Result}
use Rattle.session_fault.specs.declared.SessionFault.{SessionFault}
use Rattle.session.specs.declared.pass.Pass.{Pass}
use Rattle.script.specs.declared.order.Outcome.{Outcome}
use Rattle.script.specs.declared.order.Outcome.TheVariants.{Obeyed, At, Flushed}

abbrev pub Answer : Type 0
Answer = Option (Result Outcome SessionFault)

abbrev pub plain : {A : Type 0} → Result A SessionFault → Result Outcome SessionFault
plain (Ok a) = Ok Obeyed
plain (Err f) = Err f

-- of a give-back or write-off: the pass that comes back is not noted
abbrev pub ended : Result (Unit {0}) (SessionFault × Pass) → Result Outcome SessionFault
ended (Ok a) = Ok Obeyed
ended (Err e) = Err e.0

abbrev pub placed : Result ℕ SessionFault → Result Outcome SessionFault
placed (Ok p) = Ok (At p)
placed (Err f) = Err f

abbrev pub counted : Result ℕ SessionFault → Result Outcome SessionFault
counted (Ok k) = Ok (Flushed k)
counted (Err f) = Err f

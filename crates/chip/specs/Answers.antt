-- How a call that may be turned down answers, and what it leaves.
use Rattle.std.specs.Prelude.{ℕ, List, Some, None, Ok, Err, Option, Result}

-- the value, unless there is a fault
abbrev pub answered : {F A : Type 0} → Option F → A → Result A F
answered None a = Ok a
answered (Some f) a = Err f

-- the new, unless there is a fault: then the old stays
abbrev pub kept : {F A : Type 0} → Option F → A → A → A
kept None new old = new
kept (Some f) new old = old

-- a refusal's number in the manual, and the numbers that it carries
pub record Refusal : Type 0 where
  pub number : ℕ
  pub carried : List ℕ

-- The block's calls, which need no machine: from a session, with an answer, to a session.
use Rattle.std.specs.Prelude.{◌≡◌, ℕ, cond, Some, None, Option, Result, nat_lt, slice_index}
use Rattle.std.specs.Option.{option_map}
use Rattle.chip.specs.Answers.{answered, kept}
use Rattle.parity.specs.Words.{cnot}
use Rattle.planner.specs.Blocks.{wire_fault, traded}
use Rattle.session_fault.specs.declared.SessionFault.{SessionFault}
use Rattle.session_fault.specs.declared.SessionFault.TheVariants.{NoSuchWire}
use Rattle.session_fault.specs.Faults.{of_wires}
use Rattle.session.specs.State.{View, with_block}

-- where wire w is
abbrev pub place_of : View → ℕ → ℕ
place_of v w = slice_index v.placement w

abbrev pub place_fault : View → ℕ → Option SessionFault
place_fault v w = cond (nat_lt w v.places) None (Some NoSuchWire)

-- both are wires of the session, and they differ
abbrev pub pair_fault : View → ℕ → ℕ → Option SessionFault
pair_fault v a b = option_map of_wires (wire_fault v.places a b)

-- the word of wire a is added into that of wire b
pub record Cx (v : View) (a b : ℕ) (r : Result (Unit {0}) SessionFault) (w : View) : Type 0 where
  pub answer : r ≡ answered (pair_fault v a b) tt
  pub leaves : w ≡ kept (pair_fault v a b) (with_block v (cnot (a, b) v.block)) v

-- the words of the wires a and b are exchanged
pub record Swap (v : View) (a b : ℕ) (r : Result (Unit {0}) SessionFault) (w : View) : Type 0 where
  pub answer : r ≡ answered (pair_fault v a b) tt
  pub leaves : w ≡ kept (pair_fault v a b) (with_block v (traded a b v.block)) v

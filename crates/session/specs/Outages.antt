-- Couplers taken out on passes, given back and written off: from a state, with an answer, to a state.
use Rattle.std.specs.Prelude.{◌≡◌, ℕ, Bool, true, false, cond, List, length, Some, None, Ok, Err, Option, Result, ◌==◌, nat_lt, slice_index_or, slice_set}
use Rattle.chip.specs.Answers.{answered, kept}
use Rattle.machine.specs.declared.fault.MachineFault.TheVariants.{NoSuchCoupler}
use Rattle.session_fault.specs.declared.SessionFault.{SessionFault}
use Rattle.session_fault.specs.declared.SessionFault.TheVariants.{SizeMismatch, CouplerNotIn, OtherSession, CouplerNotOut, Machine}
use Rattle.session.specs.declared.pass.Pass.{Pass}
use Rattle.session.specs.declared.records.CouplerRecord.{CouplerRecord}
use Rattle.session.specs.declared.records.CouplerRecord.TheVariants.{In, Out, WrittenOff}
use Rattle.session.specs.State.{State, beside, sized, with_records, with_service}

abbrev pub is_in : CouplerRecord → Bool
is_in In = true
is_in Out = false
is_in WrittenOff = false

abbrev pub is_out : CouplerRecord → Bool
is_out In = false
is_out Out = true
is_out WrittenOff = false

-- the record of coupler k changed, the others left; and the couplers in service
abbrev pub recorded : State → ℕ → CouplerRecord → List Bool → State
recorded s k r service = beside (with_records s.session (slice_set s.session.records k r)) s.layout (with_service s.machine service)

abbrev pub size_fault : State → Option SessionFault
size_fault s = cond (sized s) None (Some SizeMismatch)

-- take-out: sizes, then what the machine says of the coupler, then the record
abbrev pub take_fault : State → ℕ → Option SessionFault
take_fault s k =
    cond (sized s)
    (cond (nat_lt k (length s.layout.couplers)) (cond (is_in (slice_index_or s.session.records k WrittenOff)) None (Some CouplerNotIn)) (Some (Machine NoSuchCoupler)))
    (Some SizeMismatch)

-- give-back and write-off: sizes, then the number on the pass, then the record
abbrev pub end_fault : State → Pass → Option SessionFault
end_fault s p =
    cond (sized s)
    (cond (p.session == s.session.number) (cond (is_out (slice_index_or s.session.records p.coupler WrittenOff)) None (Some CouplerNotOut)) (Some OtherSession))
    (Some SizeMismatch)

-- a pass turned down goes back to its bearer
abbrev pub returned : Option SessionFault → Pass → Result (Unit {0}) (SessionFault × Pass)
returned None p = Ok tt
returned (Some f) p = Err (f, p)

-- the coupler goes out of service, and the pass names the session's number and the coupler
pub record TakeOut (s : State) (k : ℕ) (r : Result Pass SessionFault) (t : State) : Type 0 where
  pub answer : r ≡ answered (take_fault s k) (record { session = s.session.number; coupler = k })
  pub leaves : t ≡ kept (take_fault s k) (recorded s k Out (slice_set s.machine.service k false)) s

-- the pass's coupler goes in service again
pub record GiveBack (s : State) (p : Pass) (r : Result (Unit {0}) (SessionFault × Pass)) (t : State) : Type 0 where
  pub answer : r ≡ returned (end_fault s p) p
  pub leaves : t ≡ kept (end_fault s p) (recorded s p.coupler In (slice_set s.machine.service p.coupler true)) s

-- the pass's coupler stays out for good
pub record WriteOff (s : State) (p : Pass) (r : Result (Unit {0}) (SessionFault × Pass)) (t : State) : Type 0 where
  pub answer : r ≡ returned (end_fault s p) p
  pub leaves : t ≡ kept (end_fault s p) (recorded s p.coupler WrittenOff s.machine.service) s

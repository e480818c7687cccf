use Rattle.std.proofs.Common.{sym, ap}
use Rattle.session_fault.specs.Faults.{session_event}
use Rattle.session_fault.proofs.SessionFault.event.Goals as goal

pub returns-in-MachineNotNew : goal.returns-in-MachineNotNew
returns-in-MachineNotNew c = sym (ap session_event c.in-MachineNotNew.is)

pub returns-in-CouplerNotIn : goal.returns-in-CouplerNotIn
returns-in-CouplerNotIn c = sym (ap session_event c.in-CouplerNotIn.is)

pub returns-in-OtherSession : goal.returns-in-OtherSession
returns-in-OtherSession c = sym (ap session_event c.in-OtherSession.is)

pub returns-in-CouplerNotOut : goal.returns-in-CouplerNotOut
returns-in-CouplerNotOut c = sym (ap session_event c.in-CouplerNotOut.is)

pub returns-in-PlanBufferTooShort : goal.returns-in-PlanBufferTooShort
returns-in-PlanBufferTooShort c = sym (ap session_event c.in-PlanBufferTooShort.is)

pub returns-in-Machine : goal.returns-in-Machine
returns-in-Machine c = sym (ap session_event c.in-Machine.is)

pub returns-in-NoSuchWire : goal.returns-in-NoSuchWire
returns-in-NoSuchWire c = sym (ap session_event c.in-NoSuchWire.is)

pub returns-in-SameWire : goal.returns-in-SameWire
returns-in-SameWire c = sym (ap session_event c.in-SameWire.is)

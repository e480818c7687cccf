use Rattle.session_fault.proofs.Texts.{plainly}
use Rattle.session_fault.proofs.SessionFaultDisplay.fmt.Goals as goal

pub returns-in-PlanBufferTooShort-clause-writes : goal.returns-in-PlanBufferTooShort-clause-writes
returns-in-PlanBufferTooShort-clause-writes g c = simp c.in-PlanBufferTooShort.is c.write.ensures.writes

pub returns-in_default-clause-writes : goal.returns-in_default-clause-writes
returns-in_default-clause-writes g c =
    let e = plainly c.args.self.now c.number-number.result c.event-event.result.now c.in_default.not-Machine c.in_default.not-PlanBufferTooShort
    c.number-number.ensures c.event-event.ensures in
    simp e at c.write-in_default.ensures.writes

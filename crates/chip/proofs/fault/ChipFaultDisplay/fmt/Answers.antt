use Rattle.chip.proofs.fault.ChipFaultDisplay.fmt.Goals as goal

pub returns-in-SizeOffLimits-clause-writes : goal.returns-in-SizeOffLimits-clause-writes
returns-in-SizeOffLimits-clause-writes g c = simp c.in-SizeOffLimits.is c.write-in-SizeOffLimits.ensures.writes

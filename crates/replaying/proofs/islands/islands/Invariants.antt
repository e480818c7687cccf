use Rattle.std.proofs.Common.{take}
use Rattle.replaying.specs.Islands.{NamesIslands}
use Rattle.replaying.proofs.islands.islands.Given as goal

abbrev pub invariant-loop-k : goal.invariant-loop-k
invariant-loop-k g l = NamesIslands (g.C.Chip.layout l.chip) (take l.k l.service) l.names

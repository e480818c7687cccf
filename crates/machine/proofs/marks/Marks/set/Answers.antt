use Rattle.std.proofs.Common.{◌<◌, length, take, ap, ◌∙◌, arith}
use lib.Seq.{take-set-lt}
use Rattle.std.proofs.lemmas.Bool.{lt-ltb}
use Rattle.machine.proofs.marks.Marks.set.Goals as goal

pub returns-clause-leaves : goal.returns-clause-leaves
returns-clause-leaves g c =
    let l = g.C.Chip.layout c.args.chip.now in
    let h : c.args.k < length l.couplers = omega arith in
    let inside = lt-ltb c.args.k (length l.couplers) h in
    rw inside (ap (take (length l.couplers)) c.mark_as.ensures ∙ take-set-lt (length l.couplers) c.args.self.now.marks c.args.k c.args.on h)

use Rattle.std.proofs.Common.{rules}
use Rattle.machine.proofs.OnCouplers.{found_serves}
use Rattle.machine.proofs.Machine.check_cnot.Goals as goal

-- the coupler that was found is one of the chip's, so `serves` does not refuse it
pub returns-in_err-serves : goal.returns-in_err-serves
returns-in_err-serves g c =
    absurd (found_serves (g.Self.Chip.layout c.args.self.now) (g.Self.Machine.meaning c.args.self.now) c.args.c c.args.t
    c.in_ok-k.k c.serves.result _ (search rules) c.serves.ensures c.in_err-serves.was)

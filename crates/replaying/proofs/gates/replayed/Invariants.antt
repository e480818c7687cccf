use Rattle.std.proofs.Common.{◌≡◌, map, drop, take, length}
use Rattle.machine.specs.OnCoupler.{OnCouplers}
use Rattle.parity.specs.Words.{fresh, gate_of, replay}
use Rattle.replaying.proofs.gates.replayed.Given as goal

abbrev pub invariant-loop-gate : goal.invariant-loop-gate
invariant-loop-gate g l =
    (length l.words ≡ 64)
    × OnCouplers (g.M.Chip.layout l.machine) (g.M.Machine.meaning l.machine).service (map gate_of (take l.gate-index l.gates))
    × (replay (map gate_of l.gates) (fresh 64) ≡ replay (map gate_of (drop l.gate-index l.gates)) l.words)

use Rattle.std.proofs.Common.{rules, ◌≡◌, ◌∙◌, ap, sym, map, drop, get_or, ◌+◌, arith}
use Rattle.machine.specs.OnCoupler.{OnCoupler}
use Rattle.parity.specs.Words.{cnot, gate_of, replay}
use Rattle.replaying.proofs.Between.{one_more, one_replayed}
use Rattle.replaying.proofs.gates.replayed.Goals as goal

pub loop-gate-preserved : goal.loop-gate-preserved
loop-gate-preserved g c =
    let l = g.M.Chip.layout c.args.machine.now in
    let service = (g.M.Machine.meaning c.args.machine.now).service in
    let es = c.args.gates.now in
    let i = c.loop-gate.gate-index in
    let on : OnCoupler l service (gate_of (get_or es i 0)) = search rules in
    let adds : c.add.new.words ≡ cnot (gate_of (get_or es i 0)) c.loop-gate.words = search rules in (
      search rules,
      one_more l service es i (omega arith) c.loop-gate.invariant.1 on,
      c.loop-gate.invariant.2 ∙ one_replayed es c.loop-gate.words i (omega arith) ∙ ap (replay (map gate_of (drop (i + 1) es))) (sym adds),
    )

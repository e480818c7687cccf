use Rattle.std.proofs.Common.{◌≤◌, length, arith}
use Rattle.planner.specs.Views.{places_of}
use Rattle.session.specs.Views.{state}
use Rattle.session.proofs.Flushing.{plan_on_couplers, flush_carried}
use Rattle.session.proofs.store.Session.flush.Goals as goal

pub carry_out-requires : goal.carry_out-requires
carry_out-requires g c =
    let s = state c.args.self.now (g.M.Chip.layout c.args.machine.now) (g.M.Machine.meaning c.args.machine.now) in
    let f = c.in_ok-gates.ensures in
    let p = c.in_ok-gates.field-0 in
    record {
      on_couplers = plan_on_couplers s c.args.buffer.now c.plan_block.new.buffer (places_of p.places) p.gates f.plan;
      wires = f.wires;
    }

pub returns : goal.returns
returns g c =
    let s = state c.args.self.now (g.M.Chip.layout c.args.machine.now) (g.M.Machine.meaning c.args.machine.now) in
    let t = state c.carry_out.new.self (g.M.Chip.layout c.carry_out.new.machine) (g.M.Machine.meaning c.carry_out.new.machine) in
    let f = c.in_ok-gates.ensures in
    let p = c.in_ok-gates.field-0 in
    let few = f.plan.wrote.few in
    let long = f.long_enough in
    let same = c.plan_block.auto.buffer in
    let here : p.gates ≤ length c.plan_block.new.buffer = omega arith in
    flush_carried s t c.args.buffer.now c.plan_block.new.buffer (places_of p.places) p.gates c.carry_out.result f.size f.long_enough f.plan here c.carry_out.ensures

use Rattle.std.proofs.Common.{ap}
use Rattle.session.specs.State.{State}
use Rattle.session.specs.Views.{view}
use Rattle.session_tests.proofs.Ending.{take_ends, moved}
use Rattle.session_tests.proofs.crossing.offer_on_machine.Goals as goal

pub give-requires : goal.give-requires
give-requires g c =
    let v = view c.take_out.new.self in
    let w = view c.offer.new.session in
    let l = g.L.Chip.layout c.take_out.new.machine in
    let m = g.L.Machine.meaning c.take_out.new.machine in
    let back = c.in_ok-refusals.ensures in
    moved v w l m _ c.in_ok-refusals.pass (take_ends _ _ _ _ c.in_ok-pass.ensures) back.0 (ap (λ (s : State). s.session) back.1)

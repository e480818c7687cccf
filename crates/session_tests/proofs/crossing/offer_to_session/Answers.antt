use Rattle.std.proofs.Common.{refl}
use Rattle.session.specs.Views.{view}
use Rattle.session_tests.proofs.Ending.{take_ends, moved}
use Rattle.session_tests.proofs.crossing.offer_to_session.Goals as goal

pub give-requires : goal.give-requires
give-requires g c =
    let v = view c.take_out.new.self in
    let l = g.L.Chip.layout c.take_out.new.machine in
    let m = g.L.Machine.meaning c.take_out.new.machine in
    moved v v l m _ c.in_ok-refusals.pass (take_ends _ _ _ _ c.in_ok-pass.ensures) c.in_ok-refusals.ensures.0 refl

use Rattle.session.specs.Views.{view}
use Rattle.session_tests.proofs.Ending.{take_ends, good_elsewhere}
use Rattle.session_tests.proofs.crossing.give_back_elsewhere.Goals as goal

pub give-requires : goal.give-requires
give-requires g c =
    let l = g.L.Chip.layout c.take_out.new.machine in
    let m = g.L.Machine.meaning c.take_out.new.machine in
    good_elsewhere (view c.take_out.new.self) (view c.give_back.new.self) l _ _ m _ _ _ c.in-Err.pass _ (take_ends _ _ _ _ c.in_ok-pass.ensures) c.in-Err.ensures

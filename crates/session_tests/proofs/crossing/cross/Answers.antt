use Rattle.std.proofs.Common.{◌≡◌, sym, refl, ap, ◌∙◌, arith}
use Rattle.session.specs.State.{State}
use Rattle.session.specs.Views.{view}
use Rattle.session_tests.proofs.Ending.{take_ends, alike, moved}
use Rattle.session_tests.proofs.crossing.cross.Goals as goal

pub give-requires : goal.give-requires
give-requires g c =
    let v = view c.take_out.new.self in
    let l = g.L.Chip.layout c.take_out.new.machine in
    let m = g.L.Machine.meaning c.take_out.new.machine in
    moved v v l m _ c.in_ok-refusals.ours (take_ends _ _ _ _ c.in_ok-ours.ensures) c.in_ok-refusals.ensures.0 refl

pub give-requires-2 : goal.give-requires-2
give-requires-2 g c =
    let one : (view c.args.first.now).number ≡ (view c.args.second.now).number = omega arith in
    let back = c.in_ok-refusals.ensures in
    let same = alike _ _ _ _ _ _ _ c.in_ok-ours.ensures c.in-Ok.ensures (one ∙ sym (ap (λ (s : State). s.session.number) back.1)) in
    let v = view c.take_out-2.new.self in
    let l = g.R.Chip.layout c.take_out-2.new.machine in
    let m = g.R.Machine.meaning c.take_out-2.new.machine in
    moved v v l m c.in-Ok.theirs c.in_ok-refusals.ours (take_ends _ _ _ _ c.in-Ok.ensures) (back.0 ∙ same) refl

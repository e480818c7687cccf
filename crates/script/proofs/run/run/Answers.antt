use Rattle.std.proofs.Common.{◌<◌, ◌≤◌, List, [], ◌++◌, length, sym, refl, ◌∙◌, subst, arith, take_all}
use lib.Seq.{map-set_same}
use Rattle.std.proofs.lemmas.List.{take_more_set}
use Rattle.runs.proofs.Exact.{the_law}
use Rattle.script.specs.declared.order.Turn.{Turn}
use Rattle.script.specs.Turns.{bench, Turns, over}
use Rattle.script.proofs.Turning.{turns_run, turns_push}
use Rattle.script.proofs.run.run.Goals as goal

pub loop-turn-init : goal.loop-turn-init
loop-turn-init g c = (([], over _), refl)

pub loop-turn-preserved : goal.loop-turn-preserved
loop-turn-preserved g c =
    let start = bench c.args.session.now (g.M.Chip.layout c.args.machine.now) (g.M.Machine.meaning c.args.machine.now) c.args.slots.now c.args.buffer.now in
    let then = bench c.take_turn.new.session (g.M.Chip.layout c.take_turn.new.machine) (g.M.Machine.meaning c.take_turn.new.machine) c.take_turn.new.slots c.take_turn.new.buffer in
    let es = c.loop-turn.invariant.0.0 in
    let fs = c.take_turn.ensures.acts.events in
    let lt : c.loop-turn.turn-index < length c.loop-turn.script = omega arith in
    let P : List Turn → Type 0 = λ ts. Turns start ts then (es ++ fs) in (
      (es ++ fs, subst P (sym (take_more_set c.loop-turn.script c.loop-turn.turn-index _ lt)) (turns_push then _ fs c.loop-turn.invariant.0.1 c.take_turn.ensures.acts.turn)),
      map-set_same (λ (t : Turn). t.order) c.loop-turn.script c.loop-turn.turn-index _ _ c.take_turn.ensures.same_order ∙ c.loop-turn.invariant.1,
    )

pub returns : goal.returns
returns g c =
    let start = bench c.args.session.now (g.M.Chip.layout c.args.machine.now) (g.M.Machine.meaning c.args.machine.now) c.args.slots.now c.args.buffer.now in
    let end = bench c.loop-turn.session (g.M.Chip.layout c.loop-turn.machine) (g.M.Machine.meaning c.loop-turn.machine) c.loop-turn.slots c.loop-turn.buffer in
    let es = c.loop-turn.invariant.0.0 in
    let all : length c.loop-turn.script ≤ c.loop-turn.turn-index = omega arith in
    let P : List Turn → Type 0 = λ ts. Turns start ts end es in
    let ran : P c.loop-turn.script = subst P (take_all c.loop-turn.turn-index c.loop-turn.script all) c.loop-turn.invariant.0.1 in
    record {
      same_orders = c.loop-turn.invariant.1;
      ran = record { events = es; turns = ran; law = λ w. the_law start.state end.state es (g.met.M.Chip.sound c.args.machine.now) w (turns_run ran) };
    }

use Rattle.std.proofs.Common.{Err, sym, ap, ◌∙◌}
use Rattle.std.proofs.lemmas.Result.{err_from_is_err_and}
use Rattle.play.specs.Playing.{Outcome}
use Rattle.play.proofs.Outcomes.{step_refused, outcome_done, all_played}
use Rattle.play.proofs.play.Goals as goal

pub returns-in_err-play_entry : goal.returns-in_err-play_entry
returns-in_err-play_entry g c =
    let l = g.M.Chip.layout c.args.machine.now in
    let k = g.M.Chip.layout c.loop-e.machine in
    let s = g.M.Machine.meaning c.loop-e.machine in
    let t = g.M.Machine.meaning c.play_entry.new.machine in
    let p = err_from_is_err_and c.from_residual.result c.from_residual.ensures.1 in
    let e = c.loop-e.invariant.1 ∙ step_refused l k s t c.play_entry.result c.in_err-play_entry.field-0.0 c.args.entries.now c.loop-e.e-index c.loop-e-test.true
    c.loop-e.invariant.0 c.play_entry.ensures.turn c.in_err-play_entry.was in
    record {
      answer = p.1 ∙ ap Err p.2 ∙ sym (ap (λ y. y.0) e);
      leaves = sym (ap (λ y. y.1) e);
      whole = λ on few. sym (ap (λ y. y.1) e)
          ∙ ap (λ (x : Outcome). x.1) (all_played l (g.M.Machine.meaning c.args.machine.now) c.args.entries.now (g.met.M.Chip.sound c.args.machine.now) on few);
      same_chip = c.play_entry.ensures.same_chip ∙ c.loop-e.invariant.0;
    }

pub returns : goal.returns
returns g c =
    let e = c.loop-e.invariant.1 ∙ outcome_done _ _ _ _ c.loop-e-test.false in
    record {
      answer = sym (ap (λ y. y.0) e);
      leaves = sym (ap (λ y. y.1) e);
      whole = λ on few. sym (ap (λ y. y.1) e)
          ∙ ap (λ (x : Outcome). x.1) (all_played (g.M.Chip.layout c.args.machine.now) (g.M.Machine.meaning c.args.machine.now) c.args.entries.now (g.met.M.Chip.sound c.args.machine.now) on few);
      same_chip = c.loop-e.invariant.0;
    }

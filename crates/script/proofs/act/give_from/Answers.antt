use Rattle.std.proofs.Common.{sym, refl, ◌∙◌}
use Rattle.script.proofs.Passes.{restored}
use Rattle.script.proofs.act.give_from.Goals as goal

pub returns-in-Err : goal.returns-in-Err
returns-in-Err g c =
    let there = sym c.take.ensures.value ∙ c.unwrap-pass.ensures in
    record {
      pass = c.unwrap-pass.result;
      there = there;
      result = _;
      call = c.in-Err.ensures;
      answer = refl;
      slots = restored c.args.slots.now c.args.slot c.take.new.self _ c.unwrap-pass.result c.in-Err.back c.in-Err.fault there c.in-Err.ensures.answer;
    }

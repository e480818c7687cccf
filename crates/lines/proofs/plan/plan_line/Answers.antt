use Rattle.std.proofs.Common.{string_bytes}
use Rattle.lines.proofs.Texts.{plan_parts}
use Rattle.lines.proofs.plan.plan_line.Goals as goal

pub returns : goal.returns
returns c =
    plan_parts c.args.entries.now c.args.places.now (string_bytes c.in_ok-line.line) (string_bytes c.add_all.new.line) (string_bytes c.push_str.new.self) (string_bytes c.add_all-2.new.line)
    c.in_ok-line.ensures.ok c.in_ok-add_all.ensures c.in_ok-push_str.ensures.bytes c.in_ok-add_all-2.ensures

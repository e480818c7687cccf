use Rattle.std.proofs.Common.{ℕ, ◌^◌, sym, ap}
use Rattle.parity.specs.Sets.{when}
use Rattle.parity.proofs.Masks.{clear_from}
use Rattle.parity.proofs.sets.flipped.Goals as goal

pub returns-else-has : goal.returns-else-has
returns-else-has c = ap (λ (d : ℕ). when d (2 ^ c.args.c)) (sym (clear_from c.args.x c.args.t c.if-has.ensures))

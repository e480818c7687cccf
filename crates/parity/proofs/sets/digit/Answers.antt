use Rattle.std.proofs.Common.{◌/◌, ◌^◌, ◌<◌, sym, lt_of_lt_of_le, arith, pow_mono}
use lib.Bits.{and_mask}
use Rattle.parity.specs.Sets.{bit}
use Rattle.parity.proofs.Bits.{bit_high}
use Rattle.parity.proofs.sets.digit.Goals as goal

pub returns-then-q-lt64 : goal.returns-then-q-lt64
unfolding bit
returns-then-q-lt64 c = and_mask (c.args.x / 2 ^ c.args.q) 1

pub returns-else-q-lt64 : goal.returns-else-q-lt64
returns-else-q-lt64 c =
    let small : c.args.x < 2 ^ 64 = omega arith in
    sym (bit_high c.args.x c.args.q (lt_of_lt_of_le small (pow_mono c.if-q-lt64.false)))

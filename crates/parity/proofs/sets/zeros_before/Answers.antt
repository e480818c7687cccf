use Rattle.std.proofs.Common.{◌^◌, ◌<◌, ap, ◌∙◌, arith}
use lib.Count.{count_trailing_zeros, trailing_of_zero}
use Rattle.parity.proofs.Masks.{lowest_in, lowest_least}
use Rattle.parity.proofs.sets.zeros_before.Goals as goal

pub returns : goal.returns
returns c =
    let x = c.args.x in
    let h : x < 2 ^ 64 = omega arith in
    record {
      below = λ n. (lowest_in 64 x h n).0;
      inside = λ n. (lowest_in 64 x h n).1;
      least = lowest_least 64 x;
      none = λ e. ap (count_trailing_zeros 64) e ∙ trailing_of_zero 64;
    }

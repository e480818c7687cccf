use Rattle.std.proofs.Common.{◌^◌, ◌<◌, arith}
use Rattle.parity.proofs.Bits.{place_below}
use Rattle.parity.proofs.Masks.{and_in, and_parts}
use Rattle.parity.proofs.sets.common.Goals as goal

pub returns : goal.returns
returns c =
    let x = c.args.x in
    let y = c.args.y in
    let h : x < 2 ^ 64 = omega arith in
    record { only = λ q o. and_parts x y q o; all = λ q o k. and_in x y q o (k (place_below 64 x q h o)) }

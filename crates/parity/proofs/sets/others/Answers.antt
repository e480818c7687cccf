use Rattle.std.proofs.Common.{◌-◌, ◌^◌, ◌<◌, ap, ◌∙◌, arith}
use Rattle.parity.proofs.Masks.{bit_not, others_only}
use Rattle.parity.proofs.sets.others.Goals as goal

pub returns : goal.returns
returns c =
    let y = c.args.y in
    let h : y < 2 ^ 64 = omega arith in
    record { only = λ q o. others_only 64 y q h o; all = λ q b z. bit_not 64 y q h b ∙ ap (λ d. 1 - d) z }

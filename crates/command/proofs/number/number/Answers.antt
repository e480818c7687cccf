use Rattle.std.proofs.Common.{◌≡◌, ◌+◌, true, sym, ap, ◌∙◌, subst, arith}
use Rattle.std.specs.Str.{all_ascii_digits}
use Rattle.std.proofs.lemmas.List.{take_all}
use Rattle.command.specs.Numbers.{Writes}
use Rattle.command.proofs.Digits.{read_on, no_bytes, leading_zero, no_digit, too_large, read_more, digits_more, writes}
use Rattle.command.proofs.number.number.Goals as goal
use Rattle.command.proofs.number.number.Goals.{then-is_empty-via-then-is_empty, then-is_empty-via-else-is_empty+then-zero_led}

pub returns-then-is_empty : goal.returns-then-is_empty
returns-then-is_empty c =
    elim c.then-is_empty.branch [
      | then-is_empty-via-then-is_empty w ↦ no_bytes c.args.word.now (sym c.is_empty.ensures ∙ w.if-is_empty.true)
      | then-is_empty-via-else-is_empty+then-zero_led w ↦ leading_zero c.args.word.now (sym w.zero_led.ensures ∙ w.if-zero_led.true)
    ]

pub returns-then-not-is_ascii_digit : goal.returns-then-not-is_ascii_digit
returns-then-not-is_ascii_digit c =
    no_digit c.args.word.now c.loop-b.b-index c.loop-b-test.true (sym c.if-not-is_ascii_digit.ensures.value)

pub returns-in_err-value : goal.returns-in_err-value
returns-in_err-value c =
    let more = read_more c.args.word.now c.loop-b.b-index c.loop-b-test.true in
    rw c.from_residual.ensures (too_large c.args.word.now (c.loop-b.b-index + 1) (omega (arith, c.loop-b.invariant.1, c.in_err-value.ensures)))

pub loop-b-preserved : goal.loop-b-preserved
loop-b-preserved c =
    let more = read_more c.args.word.now c.loop-b.b-index c.loop-b-test.true in (
      c.in_ok-value.ensures.0,
      omega (arith, c.loop-b.invariant.1, c.in_ok-value.ensures.1),
      digits_more c.args.word.now c.loop-b.b-index c.loop-b-test.true c.loop-b.invariant.2 (sym c.if-not-is_ascii_digit.ensures.value),
    )

pub returns : goal.returns
returns c =
    let word = c.args.word.now in
    let whole = take_all c.loop-b.b-index word c.loop-b-test.false in
    let value : c.loop-b.value ≡ read_on 0 word = c.loop-b.invariant.1 ∙ ap (read_on 0) whole in
    let digits : all_ascii_digits word ≡ true = ap all_ascii_digits (sym whole) ∙ c.loop-b.invariant.2 in
    subst (Writes word) (sym value) (writes word digits (sym c.is_empty.ensures ∙ c.if-is_empty.false) (sym c.zero_led.ensures ∙ c.if-zero_led.false) (omega (arith, value, c.loop-b.invariant.0)))

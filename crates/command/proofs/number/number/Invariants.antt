use Rattle.std.proofs.Common.{◌≡◌, ◌^◌, ◌<◌, true, take}
use Rattle.std.specs.Str.{all_ascii_digits}
use Rattle.command.proofs.Digits.{read_on}
use Rattle.command.proofs.number.number.Given as goal

abbrev pub invariant-loop-b : goal.invariant-loop-b
invariant-loop-b l = (l.value < 2 ^ 64) × (l.value ≡ read_on 0 (take l.b-index l.word)) × (all_ascii_digits (take l.b-index l.word) ≡ true)

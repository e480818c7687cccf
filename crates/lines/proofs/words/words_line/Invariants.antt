use Rattle.std.proofs.Common.{◌≡◌, take, string_bytes}
use Rattle.lines.specs.Lines.{words_text}
use Rattle.lines.proofs.words.words_line.Given as goal

abbrev pub invariant-loop-q : goal.invariant-loop-q
invariant-loop-q g l = string_bytes l.line ≡ words_text (take l.q (g.M.Machine.meaning l.machine).words)

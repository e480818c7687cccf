use Rattle.std.proofs.Common.{sym, ◌∙◌}
use Rattle.std.proofs.lemmas.List.{take_rest}
use Rattle.command.proofs.Splitting.{none_first, word_first}
use Rattle.command.proofs.words.first_word.Goals as goal

pub returns-then-wordless : goal.returns-then-wordless
returns-then-wordless c =
    none_first c.args.line.now _ c.gap_length.result c.gap_length.ensures (take_rest c.args.line.now c.gap_length.result) (sym c.wordless.ensures ∙ c.if-wordless.true)

pub returns : goal.returns
returns c =
    let first = word_first c.args.line.now _ c.gap_length.result c.word_length.result c.gap_length.ensures (take_rest c.args.line.now c.gap_length.result) c.word_length.ensures (sym c.wordless.ensures ∙ c.if-wordless.false) in
    rw c.split_at.ensures.front (rw c.split_at.ensures.back first)

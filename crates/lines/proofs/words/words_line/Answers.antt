use Rattle.std.proofs.Common.{ℕ, ◌<◌, ◌≤◌, List, ◌++◌, length, take, codes, ap, ◌∙◌, arith, take_all}
use Rattle.lines.specs.Lines.{spaced_number, words_text}
use Rattle.lines.proofs.Texts.{texts_more}
use Rattle.lines.proofs.words.words_line.Goals as goal

pub loop-q-preserved : goal.loop-q-preserved
loop-q-preserved g c =
    let ws = (g.M.Machine.meaning c.args.machine.now).words in
    let each = (g.met.M.Machine.fitting c.args.machine.now).one_word_each in
    let h : c.loop-q.q < length ws = omega arith in
    c.in_ok-add_to.ensures
    ∙ ap (λ (l : List ℕ). l ++ spaced_number c.word_at.result) c.loop-q.invariant
    ∙ ap (λ (w : ℕ). words_text (take c.loop-q.q ws) ++ spaced_number w) c.word_at.ensures
    ∙ texts_more spaced_number (codes "words") ws c.loop-q.q 0 h

pub returns : goal.returns
returns g c =
    let ws = (g.M.Machine.meaning c.args.machine.now).words in
    let each = (g.met.M.Machine.fitting c.args.machine.now).one_word_each in
    let h : length ws ≤ c.loop-q.q = omega arith in
    c.loop-q.invariant ∙ ap words_text (take_all c.loop-q.q ws h)

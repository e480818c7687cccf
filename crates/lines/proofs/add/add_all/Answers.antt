use Rattle.std.proofs.Common.{ℕ, ◌<◌, List, ◌++◌, length, take, string_bytes, ap, ◌∙◌, arith}
use Rattle.lines.specs.Lines.{texts}
use Rattle.lines.proofs.Texts.{texts_more}
use Rattle.lines.proofs.add.add_all.Goals as goal

pub loop-item-preserved : goal.loop-item-preserved
loop-item-preserved g c =
    let f = g.T.Spaced.text in
    let xs = c.args.items.now in
    let i = c.loop-item.item-index in
    let h : i < length xs = omega arith in
    c.in_ok-add_to.ensures
    ∙ ap (λ (l : List ℕ). l ++ f c.item-item.result) c.loop-item.invariant
    ∙ ap (λ x. (string_bytes c.args.line.now ++ texts f (take i xs)) ++ f x) c.item-item.is
    ∙ texts_more f (string_bytes c.args.line.now) xs i c.item-item.result h

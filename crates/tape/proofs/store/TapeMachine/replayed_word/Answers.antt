use Rattle.std.proofs.Common.{ℕ, List, map, take, vec_items, get_or, sym, ap, ◌∙◌, get_or-take}
use Rattle.parity.specs.Words.{gate_of, replay}
use Rattle.tape.specs.Tapes.{words_are}
use Rattle.tape.proofs.store.TapeMachine.replayed_word.Goals as goal

pub returns : goal.returns
returns g c =
    let s = c.args.self.now in
    let l = g.C.Chip.layout s.chip in
    let q = c.args.q in
    let n = c.width-n.result in
    let full = c.fresh_words-words.result in
    let words = words_are l (vec_items s.tape) full c.replay_entries.new.words _ n
    (g.met.C.Chip.sound s.chip) c.width-n.ensures c.fresh_words-words.ensures
    (c.replay_entries.ensures ∙ ap (λ (es : List ℕ). replay (map gate_of es) (take n full)) c.entries.ensures) in
    sym (get_or-take l.places _ q 0 c.requires) ∙ ap (λ (ws : List ℕ). get_or ws q 0) words

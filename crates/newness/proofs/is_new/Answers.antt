use Rattle.std.proofs.Common.{ℕ, List, get_or, ap, ◌∙◌}
use Rattle.parity.proofs.Words.{get_d_fresh}
use Rattle.newness.proofs.is_new.Goals as goal

pub returns-else-has_fresh_words-clause-no : goal.returns-else-has_fresh_words-clause-no
returns-else-has_fresh_words-clause-no g c e new =
    let other = c.has_fresh_words.ensures.no e in
    other.2 (ap (λ (ws : List ℕ). get_or ws other.0 0) new.fresh_words ∙ get_d_fresh (g.M.Chip.layout c.args.machine.now).places other.0 other.1)

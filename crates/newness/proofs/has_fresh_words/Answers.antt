use Rattle.std.proofs.Common.{◌≡◌, ℕ, ◌^◌, ◌<◌, get_or, refl, arith, rules}
use Rattle.std.proofs.lemmas.Iterator.{cases_from_all, YieldsList-from_range}
use Rattle.parity.proofs.Words.{fresh_from}
use Rattle.newness.proofs.Newness.{all_below}
use Rattle.newness.proofs.has_fresh_words.Goals as goal

pub returns-clause-yes : goal.returns-clause-yes
returns-clause-yes g c e =
    let n = (g.M.Chip.layout c.args.machine.now).places in
    let words = (g.M.Machine.meaning c.args.machine.now).words in
    let P = λ (q : ℕ). q < n → get_or words q 0 ≡ 2 ^ q in
    fresh_from words n (g.met.M.Machine.fitting c.args.machine.now).one_word_each (λ q h. all_below _ _ P n e
    (cases_from_all _ _ _ P (λ (j : ℕ). Unit {0}) c.all.ensures.ran (YieldsList-from_range 0 c.width.result n refl (omega (arith, c.width.ensures)))
    (λ x q k. search rules) (λ x q k. tt)) q h h)

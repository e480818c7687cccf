use Rattle.std.proofs.Common.{rules, tests, ℕ}
use Rattle.std.proofs.lemmas.Iterator.{YieldsList-from_slice, IsFirst-from_position}
use Rattle.std.proofs.lemmas.Iterator.Consumers.{YieldsList-from_enumerate}
use Rattle.replaying.specs.Words.{HasWord}
use Rattle.replaying.proofs.Between.{first_numbered}
use Rattle.replaying.proofs.words.first_other_word.Goals as goal

pub returns : goal.returns
returns g c =
    let has = HasWord (g.M.Chip.layout c.args.machine.now) (g.M.Machine.meaning c.args.machine.now) in
    let ws = c.args.words.now in
    first_numbered ws c.position.result has
    (IsFirst-from_position _ _ c.position.result (λ (e : ℕ × ℕ). has e.0 e.1 → ⊥) (λ (e : ℕ × ℕ). has e.0 e.1) c.position.ensures.ran
    (YieldsList-from_enumerate (YieldsList-from_slice ws (cc)) (cc)) (λ x q k. search (rules, tests)) (λ x q k. search (rules, tests)))

use Rattle.std.proofs.Common.{rules, tests, ◌≡◌, ◌<◌, true, false, length, ◌∙◌}
use Rattle.std.proofs.lemmas.Iterator.{first_from_Range}
use Rattle.chip.specs.Layout.{touches}
use Rattle.chip.specs.Chips.{ends_at}
use Rattle.chip.proofs.Joining.{found_joining}
use Rattle.chip.proofs.Chip.joins.Goals as goal

pub returns : goal.returns
returns g c =
    let l = g.Self.Chip.layout c.args.self.now in
    found_joining l c.args.a c.args.b _ _ c.find.result c.numbers.ensures.first (c.numbers.ensures.past_last ∙ c.couplers.ensures)
    (first_from_Range _ _ _ c.find.result
    (λ k. touches c.args.a c.args.b (ends_at l k) ≡ true)
    (λ k. k < length l.couplers → touches c.args.a c.args.b (ends_at l k) ≡ false)
    c.find.ensures.ran (λ k q w. search (rules, tests)) (λ k q w. search (rules, tests)))

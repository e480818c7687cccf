use Rattle.std.proofs.Common.{rules, tests, ◌≡◌, true, false, length}
use Rattle.std.proofs.lemmas.Iterator.{first_from_Range}
use Rattle.map.specs.Couplers.{ends_in, bad_coupler}
use Rattle.map.specs.BoundedLemmas.{least_found}
use Rattle.map.proofs.check.first_bad.Goals as goal

pub returns : goal.returns
returns c =
    let bad = bad_coupler c.args.places (ends_in c.args.couplers.now) in
    least_found bad (length c.args.couplers.now) c.find.result
    (first_from_Range _ _ _ c.find.result (λ k. bad k ≡ true) (λ k. bad k ≡ false) c.find.ensures.ran
    (λ k q w. search (rules, tests)) (λ k q w. search (rules, tests)))

use Rattle.std.proofs.Common.{rules, tests, ℕ, take, get_or, ◌∙◌, arith}
use Rattle.std.proofs.lemmas.Iterator.{YieldsList-from_slice}
use Rattle.std.proofs.lemmas.Iterator.Search.{any_from_yields_List}
use Rattle.chip.specs.Layout.{touches}
use Rattle.map.specs.BoundedLemmas.{any-take}
use Rattle.map.proofs.check.repeats.Goals as goal

pub returns : goal.returns
returns c =
    let es = c.args.couplers.now in
    let test = λ (e : ℕ × ℕ). touches e.0 e.1 (get_or es c.args.k (0, 0)) in
    any_from_yields_List test _ _ c.any.result c.any.ensures.ran (YieldsList-from_slice (take c.args.k es) c.iter.ensures.rest) (λ x b q h. search (rules, tests))
    ∙ any-take test es c.args.k (0, 0) (omega arith)

use Rattle.std.proofs.Common.{◌≡◌, ◌^◌, get_or, rules}
use Rattle.parity.proofs.Words.{fresh_from}
use Rattle.parity.proofs.fresh_words.Goals as goal

pub returns : goal.returns
returns c = fresh_from c.from_fn.result 64 c.from_fn.ensures.items.long
    (λ q h. let call = c.from_fn.ensures.items.at q 0 h in
    let made : get_or c.from_fn.result q 0 ≡ 2 ^ q = search rules in
    made)

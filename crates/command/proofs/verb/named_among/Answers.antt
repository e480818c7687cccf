use borrow.Author.Tests.{tests}
use Rattle.std.proofs.Common.{◌∙◌, rules}
use Rattle.std.specs.Str.{bytes_eq}
use Rattle.std.proofs.lemmas.Iterator.{YieldsList-from_slice}
use Rattle.std.proofs.lemmas.Iterator.Search.{find_from_yields_List}
use Rattle.command.specs.Verbs.{name_of}
use Rattle.command.proofs.Naming.{first_named}
use Rattle.command.proofs.verb.named_among.Goals as goal

pub returns : goal.returns
returns c =
    let found =
    find_from_yields_List (λ v. bytes_eq c.args.word.now (name_of v)) _ _ c.find.result c.find.ensures.ran (YieldsList-from_slice c.args.verbs.now cc) (λ x b q k. search (rules, tests)) in
    rw (c.copied.ensures ∙ found) (first_named c.args.word.now c.args.verbs.now)

-- A filling is known by how it is spelled.
use Rattle.std.proofs.Common.{◌≡◌, [], ◌∷◌, map, length, decimal, sym, refl, ap, ◌∙◌, subst, ⊎_elim, arith}
use Rattle.std.specs.List.{AllByRecursion}
use Rattle.std.proofs.lemmas.Fmt.{decimal_injective}
use Rattle.command.specs.declared.Command.{Command}
use Rattle.command.specs.declared.verb.Verb.{Verb}
use Rattle.command.specs.Verbs.{name_of}
use Rattle.command.specs.Commands.{plain, numeral, parts, spelling, spelled, Held}
use Rattle.command.specs.Shapes.{Shape, bare, one_word, one_number, two_numbers, shape, Filling, filled}
use Rattle.command.specs.Alike.{SaidApart}
use Rattle.command.proofs.Naming.{same_verb}
use Rattle.command.proofs.Spelling.{ByVerb, by_verb}

same_filling : (s : Shape) (x y : Filling s) → AllByRecursion Held (filled s x) → AllByRecursion Held (filled s y) → map spelling (filled s x) ≡ map spelling (filled s y) → filled s x ≡ filled s y
same_filling bare x y h k e = refl
same_filling one_word x y h k e = let d : x ≡ y = cc in ap (λ w. plain w ∷ []) d
same_filling one_number x y h k e =
    let d : decimal x ≡ decimal y = cc in
    ap (λ n. numeral n ∷ []) (decimal_injective x y h.0 k.0 d)
same_filling two_numbers x y h k e =
    let d : decimal x.0 ≡ decimal y.0 = cc in
    let f : decimal x.1 ≡ decimal y.1 = cc in
    let a = decimal_injective x.0 y.0 h.0 k.0 d in
    let b = decimal_injective x.1 y.1 h.1.0 k.1.0 f in
    (λ i. numeral (a i) ∷ numeral (b i) ∷ [])

-- fillings of one verb's shape, where the verbs are shown to be one
abbrev SameParts : Verb → Verb → Type 0
SameParts v u =
    (x : Filling (shape v)) (y : Filling (shape u)) → AllByRecursion Held (filled (shape v) x) → AllByRecursion Held (filled (shape u) y) →
    map spelling (filled (shape v) x) ≡ map spelling (filled (shape u) y) →
    plain (name_of v) ∷ filled (shape v) x ≡ plain (name_of u) ∷ filled (shape u) y

same_parts : (v u : Verb) → v ≡ u → SameParts v u
same_parts v u e =
    subst (SameParts v) e (λ x y h k s. ap (λ ps. plain (name_of v) ∷ ps) (same_filling (shape v) x y h k s))

same_cast : (c d : Command) (k : ByVerb c) (l : ByVerb d) → AllByRecursion Held (parts c) → AllByRecursion Held (parts d) → spelled c ≡ spelled d → parts c ≡ parts d
same_cast c d k l h g s =
    let e : name_of k.0 ∷ map spelling (filled (shape k.0) k.1) ≡ name_of l.0 ∷ map spelling (filled (shape l.0) l.1) = ap (map spelling) (sym k.2) ∙ s ∙ ap (map spelling) l.2 in
    let names : name_of k.0 ≡ name_of l.0 = cc in
    let rests : map spelling (filled (shape k.0) k.1) ≡ map spelling (filled (shape l.0) l.1) = cc in
    k.2 ∙ same_parts k.0 l.0 (same_verb k.0 l.0 names) k.1 l.1 (subst (AllByRecursion Held) k.2 h).1 (subst (AllByRecursion Held) l.2 g).1 rests ∙ sym l.2

none_some : {A : Type 0} (c d : Command) → parts c ≡ [] → ByVerb d → spelled c ≡ spelled d → A
none_some c d z l s = absurd (omega (arith, ap length (ap (map spelling) (sym z) ∙ s ∙ ap (map spelling) l.2)))

pub said_apart : SaidApart
said_apart ws c d (h, k) (g, l) =
    let s : spelled c ≡ spelled d = sym k ∙ l in
    ⊎_elim
    (λ y. ⊎_elim (λ z. y ∙ sym z) (λ l. none_some c d y l s) (by_verb d))
    (λ k. ⊎_elim (λ z. none_some d c z k (sym s)) (λ l. same_cast c d k l h g s) (by_verb d))
    (by_verb c)

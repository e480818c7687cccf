-- No two verbs have one name.
use Rattle.std.proofs.Common.{◌≡◌, ℕ, List, [], ◌∷◌, Some, None, Option, sym, refl, ap, ◌∙◌, MatchOption}
use Rattle.std.specs.Borrow.{Bor}
use Rattle.std.specs.List.{find, AllByRecursion}
use Rattle.std.specs.Option.{ok_or}
use Rattle.std.specs.Str.{bytes_eq}
use Rattle.std.proofs.lemmas.Bool.{cond_both}
use Rattle.std.proofs.lemmas.Bool.Decides.{not_from_Decides}
use Rattle.std.proofs.lemmas.Slice.Eq.{bytes_eq-Decides}
use Rattle.command.specs.declared.verb.Verb.{Verb}
use Rattle.command.specs.declared.verb.Mistake.TheVariants.{Command}
use Rattle.command.specs.declared.verb.Verb.TheVariants.{Grid, Map, Table, Tape, Out, In, Cnot, Words, Serves, Allowance}
use Rattle.command.specs.Verbs.{name_of, Names}

abbrev pub verbs : List Verb
verbs = Grid ∷ Map ∷ Table ∷ Tape ∷ Out ∷ In ∷ Cnot ∷ Words ∷ Serves ∷ Allowance ∷ []

named_name : (v : Verb) → find (λ u. bytes_eq (name_of v) (name_of u)) verbs ≡ Some v
named_name Grid = refl
named_name Map = refl
named_name Table = refl
named_name Tape = refl
named_name Out = refl
named_name In = refl
named_name Cnot = refl
named_name Words = refl
named_name Serves = refl
named_name Allowance = refl

pub same_verb : (v u : Verb) → name_of v ≡ name_of u → v ≡ u
same_verb v u e =
    let s : ◌≡◌ {A = Option Verb} (Some v) (Some u) = sym (named_name v) ∙ ap (λ w. find (λ u. bytes_eq w (name_of u)) verbs) e ∙ named_name u in
    cc

keeps : {A : Type 0} (o : Option A) (P P' : Type 0) (Q : A → Type 0) → MatchOption o P Q → (P → P') → MatchOption o P' Q
keeps None P P' Q h f = f h
keeps (Some x) P P' Q h f = h

-- the first of some verbs that a word names
pub first_named : (w : List ℕ) (vs : List Verb) → MatchOption (find (λ v. bytes_eq w (name_of v)) vs) (AllByRecursion (λ v. w ≡ name_of v → ⊥) vs) (λ v. w ≡ name_of v)
first_named w [] = tt
first_named w (v ∷ vs) =
    cond_both (bytes_eq w (name_of v)) _ _ (λ o. MatchOption o (AllByRecursion (λ v. w ≡ name_of v → ⊥) (v ∷ vs)) (λ v. w ≡ name_of v))
    (λ t. (bytes_eq-Decides w (name_of v)).0 t)
    (λ f. keeps (find (λ v. bytes_eq w (name_of v)) vs) _ _ (λ v. w ≡ name_of v) (first_named w vs) (λ rest. (not_from_Decides (bytes_eq w (name_of v)) (bytes_eq-Decides w (name_of v)) f, rest)))

-- the outcome of the search
pub names : (word : Bor (List ℕ)) (o : Option Verb) → MatchOption o ((v : Verb) → word.now ≡ name_of v → ⊥) (λ v. word.now ≡ name_of v) → Names word (ok_or o Command)
names word None none = (refl, none)
names word (Some v) same = same

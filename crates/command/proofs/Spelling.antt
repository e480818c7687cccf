-- A command's words are its verb's name and a filling of the verb's shape.
use Rattle.std.proofs.Common.{◌≡◌, ℕ, ◌⊎◌, List, [], ◌∷◌, map, length, get_or, Some, None, Err, Option, sym, refl, ap, ◌∙◌, subst, inl, inr, ⊎_elim, arith, MatchOption}
use Rattle.std.specs.List.{AllByRecursion}
use Rattle.std.specs.Option.{ok_or}
use Rattle.command.specs.declared.Command.{Command}
use Rattle.command.specs.declared.Command.TheVariants.{Nothing, Grid, Map, Table, Tape, Out, In, Cnot, Words, Serves, Allowance}
use Rattle.command.specs.declared.verb.Verb.{Verb}
use Rattle.command.specs.declared.verb.Verb.TheVariants as verb
use Rattle.command.specs.declared.verb.Mistake.{Mistake}
use Rattle.command.specs.declared.verb.Mistake.TheVariants.{Command as NoCommand, Usage}
use Rattle.command.specs.Verbs.{name_of}
use Rattle.command.specs.Commands.{plain, parts, spelling, Held, Says, SaysNone, Blames, Reads}
use Rattle.command.specs.Shapes.{bare, shape, Filling, filled, Fills, Unfilled}
use Rattle.command.proofs.Naming.{same_verb}

-- a command's verb and filling
abbrev pub ByVerb : Command → Type 0
ByVerb c = (v : Verb) × (x : Filling (shape v)) × (parts c ≡ plain (name_of v) ∷ filled (shape v) x)

pub by_verb : (c : Command) → (parts c ≡ []) ⊎ ByVerb c
by_verb Nothing = inl refl
by_verb (Grid rows columns) = inr (verb.Grid, (rows, columns), refl)
by_verb (Map file) = inr (verb.Map, file.now, refl)
by_verb Table = inr (verb.Table, tt, refl)
by_verb (Tape length) = inr (verb.Tape, length, refl)
by_verb (Out coupler) = inr (verb.Out, coupler, refl)
by_verb (In coupler) = inr (verb.In, coupler, refl)
by_verb (Cnot control target) = inr (verb.Cnot, (control, target), refl)
by_verb Words = inr (verb.Words, tt, refl)
by_verb (Serves coupler) = inr (verb.Serves, coupler, refl)
by_verb Allowance = inr (verb.Allowance, tt, refl)

some_none : (w : List ℕ) (ws : List (List ℕ)) → w ∷ ws ≡ [] → ⊥
some_none w ws e = omega (arith, ap length e)

-- the first word names no verb
pub unnamed : (ws later : List (List ℕ)) (w : List ℕ) → ws ≡ w ∷ later → ((v : Verb) → w ≡ name_of v → ⊥) → SaysNone ws
unnamed ws later w e none c (held, s) =
    ⊎_elim
    (λ z. some_none w later (sym e ∙ s ∙ ap (map spelling) z))
    (λ k. let same : w ∷ later ≡ name_of k.0 ∷ map spelling (filled (shape k.0) k.1) = sym e ∙ s ∙ ap (map spelling) k.2 in none k.0 (cc))
    (by_verb c)

-- it names a verb, and the later words do not fill the verb's shape
pub unfilled : (ws later : List (List ℕ)) (w : List ℕ) (v : Verb) → ws ≡ w ∷ later → w ≡ name_of v → Unfilled (shape v) later → SaysNone ws
unfilled ws later w v e n none c (held, s) =
    ⊎_elim
    (λ z. some_none w later (sym e ∙ s ∙ ap (map spelling) z))
    (λ k.
    let same : w ∷ later ≡ name_of k.0 ∷ map spelling (filled (shape k.0) k.1) = sym e ∙ s ∙ ap (map spelling) k.2 in
    let named : name_of v ≡ name_of k.0 = cc in
    let none' : Unfilled (shape k.0) later = subst (λ u. Unfilled (shape u) later) (same_verb v k.0 named) none in
    let held' : AllByRecursion Held (plain (name_of k.0) ∷ filled (shape k.0) k.1) = subst (AllByRecursion Held) k.2 held in
    let rest : later ≡ map spelling (filled (shape k.0) k.1) = cc in
    none' k.1 (held'.1, rest))
    (by_verb c)

-- the outcome of reading where the first word names no verb, and where it names one
pub read_unnamed : (ws later : List (List ℕ)) (w : List ℕ) (m : Mistake) → ws ≡ w ∷ later → (m ≡ NoCommand) × ((v : Verb) → w ≡ name_of v → ⊥) → Reads ws (Err m)
read_unnamed ws later w m e (is, none) = (unnamed ws later w e none, subst (Blames ws) (sym is) (λ v same. none v (sym (ap (λ l. get_or l 0 []) e) ∙ same)))

pub read_named : (ws later : List (List ℕ)) (w : List ℕ) (v : Verb) (o : Option Command) → ws ≡ w ∷ later → w ≡ name_of v → MatchOption o (Unfilled (shape v) later) (λ c. Says (name_of v ∷ later) c) → Reads ws (ok_or o (Usage v))
read_named ws later w v None e n h = (unfilled ws later w v e n h, ap (λ l. get_or l 0 []) e ∙ n)
read_named ws later w v (Some c) e n h = subst (λ l. Says l c) (sym (e ∙ ap (λ u. u ∷ later) n)) h

-- a command that is its verb's name alone
pub bare_tells : {v u : Verb} (d : Command) (ws : List (List ℕ)) (r : Option Command) → v ≡ u → shape u ≡ bare → parts d ≡ plain (name_of u) ∷ [] → MatchOption r (Unfilled bare ws) (λ c. Fills bare ws tt × (c ≡ d)) → MatchOption r (Unfilled (shape v) ws) (λ c. Says (name_of v ∷ ws) c)
bare_tells {v} {u} d ws None e b s h = subst (λ t. Unfilled t ws) (sym (ap shape e ∙ b)) h
bare_tells {v} {u} d ws (Some c) e b s h =
    let p : parts c ≡ plain (name_of u) ∷ [] = ap parts h.1 ∙ s in
    (subst (AllByRecursion Held) (sym p) (tt, tt), (λ i. name_of (e i) ∷ h.0.1 i) ∙ ap (map spelling) (sym p))

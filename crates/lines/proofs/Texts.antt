-- Texts one after another.
use Rattle.std.proofs.Common.{◌≡◌, ℕ, ◌+◌, ◌<◌, List, [], ◌∷◌, ◌++◌, map, length, get_or, take, codes, decimal, sym, refl, ap, ◌∙◌, append_assoc, append-nil}
use Rattle.std.proofs.lemmas.List.{take_more, length-map}
use Rattle.parity.specs.Words.{gate_of}
use Rattle.lines.specs.Lines.{texts, spaced_number, spaced_gate, plan_text}

texts_push : {A : Type 0} (f : A → List ℕ) (xs : List A) (x : A) → texts f (xs ++ x ∷ []) ≡ texts f xs ++ f x
texts_push f [] x = append-nil (f x)
texts_push f (y ∷ xs) x = ap (λ (l : List ℕ). f y ++ l) (texts_push f xs x) ∙ sym (append_assoc (f y) (texts f xs) (f x))

-- one more, behind a text
pub texts_more : {A : Type 0} (f : A → List ℕ) (before : List ℕ) (xs : List A) (i : ℕ) (d : A) → i < length xs → (before ++ texts f (take i xs)) ++ f (get_or xs i d) ≡ before ++ texts f (take (i + 1) xs)
texts_more f before xs i d h =
    append_assoc before (texts f (take i xs)) (f (get_or xs i d))
    ∙ ap (λ (l : List ℕ). before ++ l) (sym (texts_push f (take i xs) (get_or xs i d)) ∙ ap (texts f) (sym (take_more xs i d h)))

pub texts_map : {A B : Type 0} (f : B → List ℕ) (g : A → B) (xs : List A) → texts f (map g xs) ≡ texts (λ x. f (g x)) xs
texts_map f g [] = refl
texts_map f g (x ∷ xs) = ap (λ (l : List ℕ). f (g x) ++ l) (texts_map f g xs)

-- the parts of a plan's line, one after another
pub plan_parts : (es at l m n r : List ℕ) → l ≡ codes "plan: " ++ (decimal (length es) ++ codes " gates") → m ≡ l ++ texts (λ (e : ℕ). spaced_gate (gate_of e)) es
    → n ≡ m ++ codes ", wires at" → r ≡ n ++ texts spaced_number at → r ≡ plan_text (map gate_of es) at
plan_parts es at l m n r a b c d =
    let given = texts_map spaced_gate gate_of es in
    let all : r ≡ (((codes "plan: " ++ (decimal (length es) ++ codes " gates")) ++ texts spaced_gate (map gate_of es)) ++ codes ", wires at") ++ texts spaced_number at = cc in
    all ∙ simp (append_assoc, length-map)

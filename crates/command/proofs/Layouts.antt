-- A line's words, and the ways to lay it out.
use Rattle.std.proofs.Common.{◌≡◌, ℕ, true, false, eqb, List, [], ◌∷◌, ◌++◌, sym, ap, ◌∙◌, subst, ⊎_elim, arith}
use Rattle.std.proofs.lemmas.List.{append_assoc}
use Rattle.std.proofs.ByRecursion.{All-push}
use Rattle.std.proofs.lemmas.Bool.{cond-true, cond-false, cases_Bool, eqb-true}
use Rattle.command.specs.Words.{blank, runs, uncommented, words, Parted}
use Rattle.command.specs.Lines.{Word, Line, over, comment, gap, headed, WordsByGaps}
use Rattle.command.proofs.Splitting.{words_gap, words_word, words_marked, words_nil}

-- a line that was made of these words has them
pub made_of : {line : List ℕ} {ws : List (List ℕ)} → Line line ws → words line ≡ ws
made_of over = words_nil
made_of (comment text) = words_marked text
made_of (gap b rest ws e l) = words_gap b rest e ∙ made_of l
made_of (headed [] rest ws w p l) = absurd (let s = w.some in omega arith)
made_of (headed (b ∷ bs) rest ws w p l) = words_word b bs rest w.solid w.unmarked p ∙ ap (λ us. (b ∷ bs) ∷ us) (made_of l)

longer : (b : ℕ) (w : List ℕ) (c : ℕ) → Word (b ∷ w) → blank c ≡ false → Word (b ∷ (w ++ c ∷ []))
longer b w c h e = record {
  some = omega arith;
  solid = All-push (λ b. blank b ≡ false) (b ∷ w) c h.solid e;
  unmarked = h.unmarked;
}

-- a word before what is left
before : (b : ℕ) (w rest : List ℕ) (us : List (List ℕ)) → Word (b ∷ w) → Parted rest → Line rest (uncommented us) → Line ((b ∷ w) ++ rest) (uncommented ((b ∷ w) ∷ us))
before b w rest us h p l =
    subst (λ ws. Line ((b ∷ w) ++ rest) ws) (sym (cond-false _ _ _ h.unmarked)) (headed (b ∷ w) rest (uncommented us) h p l)

-- bytes that are laid out well in the midst of a word, whatever has come of it, and where no word has begun
abbrev Laid : List ℕ → Type 0
Laid bs = ((b : ℕ) (w : List ℕ) → Word (b ∷ w) → Line ((b ∷ w) ++ bs) (uncommented (runs (b ∷ w) bs))) × Line bs (words bs)

at_blank : (c : ℕ) (bs : List ℕ) → blank c ≡ true → Laid bs → Laid (c ∷ bs)
unfolding runs
at_blank c bs e l =
    let gone : Line (c ∷ bs) (words bs) = gap c bs (words bs) e l.1 in (
      λ b w h. subst (λ us. Line ((b ∷ w) ++ c ∷ bs) (uncommented us)) (sym (cond-true _ _ _ e)) (before b w (c ∷ bs) (runs [] bs) h e gone),
      subst (Line (c ∷ bs)) (sym (words_gap c bs e)) gone,
    )

at_mark : (c : ℕ) (bs : List ℕ) → c ≡ 35 → Line (c ∷ bs) (words (c ∷ bs))
at_mark c bs e =
    let P : ℕ → Type 0 = λ c. Line (c ∷ bs) (words (c ∷ bs)) in
    subst P (sym e) (subst (Line (35 ∷ bs)) (sym (words_marked bs)) (comment bs))

at_solid : (c : ℕ) (bs : List ℕ) → blank c ≡ false → Laid bs → Laid (c ∷ bs)
unfolding runs
at_solid c bs e l = (
  λ b w h.
      subst (λ us. Line ((b ∷ w) ++ c ∷ bs) (uncommented us)) (sym (cond-false _ _ _ e))
      (subst (λ line. Line line (uncommented (runs (b ∷ (w ++ c ∷ [])) bs))) (append_assoc (b ∷ w) (c ∷ []) bs) (l.0 b (w ++ c ∷ []) (longer b w c h e))),
  ⊎_elim
      (λ m. at_mark c bs (eqb-true c 35 m))
      (λ m. subst (λ us. Line (c ∷ bs) (uncommented us)) (sym (cond-false _ _ _ e)) (l.0 c [] (record { some = omega arith; solid = (e, tt); unmarked = m })))
      (cases_Bool (eqb c 35)),
)

laid : (bs : List ℕ) → Laid bs
unfolding runs
laid [] = (λ b w h. before b w [] [] h tt over, over)
laid (c ∷ bs) = ⊎_elim (λ e. at_blank c bs e (laid bs)) (λ e. at_solid c bs e (laid bs)) (cases_Bool (blank c))

pub words_by_gaps : WordsByGaps
words_by_gaps line ws = (λ l. made_of l, λ e. subst (Line line) e (laid line).1)

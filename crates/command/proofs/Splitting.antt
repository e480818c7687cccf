-- How the words of a line follow from its front.
use Rattle.std.proofs.Common.{◌≡◌, ℕ, zero, suc, ◌+◌, ◌-◌, ◌<◌, true, false, eqb, List, [], ◌∷◌, ◌++◌, length, get_or, take, drop, sym, refl, ap, ◌∙◌, subst, ⊎_elim, arith}
use Rattle.std.specs.List.{AllByRecursion}
use Rattle.std.proofs.lemmas.List.{append-nil, append_assoc, take-append-drop, drop_more, drop_all, length-drop, get_or-drop}
use Rattle.std.proofs.lemmas.Bool.{cond-true, cond-false, cond_both, both_ways, cases_lt, ne_eqb, eqb-true, eqb-false, or_parts, or_cases}
use Rattle.command.specs.Words.{blank, ended, runs, marked, uncommented, words, Front, Parted, wordless}

runs_gap : (b : ℕ) (bs : List ℕ) → blank b ≡ true → runs [] (b ∷ bs) ≡ runs [] bs
unfolding runs
runs_gap b bs e = cond-true _ _ _ e

runs_gaps : (gap rest : List ℕ) → AllByRecursion (λ b. blank b ≡ true) gap → runs [] (gap ++ rest) ≡ runs [] rest
runs_gaps [] rest a = refl
runs_gaps (b ∷ gap) rest a = runs_gap b (gap ++ rest) a.0 ∙ runs_gaps gap rest a.1

runs_on : (run w rest : List ℕ) → AllByRecursion (λ b. blank b ≡ false) w → runs run (w ++ rest) ≡ runs (run ++ w) rest
unfolding runs
runs_on run [] rest a = ap (λ r. runs r rest) (sym (append-nil run))
runs_on run (b ∷ w) rest a =
    cond-false _ _ _ a.0 ∙ runs_on (run ++ b ∷ []) w rest a.1 ∙ ap (λ r. runs r rest) (append_assoc run (b ∷ []) w)

runs_parted : (run rest : List ℕ) → Parted rest → runs run rest ≡ ended run (runs [] rest)
unfolding runs
runs_parted run [] p = refl
runs_parted run (b ∷ bs) p = cond-true _ _ _ p ∙ ap (ended run) (sym (runs_gap b bs p))

-- blanks at the front
pub words_gap : (b : ℕ) (bs : List ℕ) → blank b ≡ true → words (b ∷ bs) ≡ words bs
words_gap b bs e = ap uncommented (runs_gap b bs e)

-- a word at the front
pub words_word : (b : ℕ) (bs rest : List ℕ) → AllByRecursion (λ b. blank b ≡ false) (b ∷ bs) → marked (b ∷ bs) ≡ false → Parted rest → words ((b ∷ bs) ++ rest) ≡ (b ∷ bs) ∷ words rest
words_word b bs rest a m p =
    ap uncommented (runs_on [] (b ∷ bs) rest a ∙ runs_parted (b ∷ bs) rest p) ∙ cond-false _ _ _ m

-- a comment, which has come as far as the bytes `run`
pub words_comment : (run bs : List ℕ) → uncommented (runs (35 ∷ run) bs) ≡ []
unfolding runs
words_comment run [] = refl
words_comment run (b ∷ bs) =
    cond_both (blank b) _ _ (λ rs. uncommented rs ≡ []) (λ _. refl) (λ _. words_comment (run ++ b ∷ []) bs)

pub words_nil : words [] ≡ []
unfolding runs
words_nil = refl

pub words_marked : (bs : List ℕ) → words (35 ∷ bs) ≡ []
unfolding runs
words_marked bs = words_comment [] bs

-- the same at a front that was counted
pub past_gap : (line : List ℕ) (n : ℕ) → Front true line n → words (drop n line) ≡ words line
past_gap line n f =
    ap uncommented (sym (runs_gaps (take n line) (drop n line) f.all) ∙ ap (runs []) (take-append-drop n line))

pub parted_after : (line : List ℕ) (n : ℕ) → Front false line n → Parted (drop n line)
parted_after line n f =
    ⊎_elim
    (λ h. subst Parted (sym (drop_more line n 0 h)) (f.stops h))
    (λ h. subst Parted (sym (drop_all n line h)) tt)
    (cases_lt n (length line))

pub past_word : (line : List ℕ) (n : ℕ) → Front false line n → 0 < length line → blank (get_or line 0 0) ≡ false → (get_or line 0 0 ≡ 35 → ⊥) → words line ≡ take n line ∷ words (drop n line)
past_word [] n f h nb m = absurd (omega arith)
past_word (b ∷ bs) zero f h nb m = absurd (both_ways (blank b) nb (f.stops (omega arith)))
past_word (b ∷ bs) (suc n) f h nb m =
    ap (λ r. words (b ∷ r)) (sym (take-append-drop n bs)) ∙ words_word b (take n bs) (drop n bs) f.all (ne_eqb b 35 m) (parted_after (b ∷ bs) (suc n) f)

-- the rest of a line past its gap: where it has no word, and where one begins
pub none_first : (line rest : List ℕ) (n : ℕ) → Front true line n → rest ≡ drop n line → wordless rest ≡ true → words line ≡ []
none_first line rest n f e o = sym (past_gap line n f) ∙ ap words (sym e) ∙ none rest o
  where
    none : (rest : List ℕ) → wordless rest ≡ true → words rest ≡ []
    none [] o = words_nil
    none (b ∷ bs) o =
        ⊎_elim
        (λ z. absurd (omega (arith, eqb-true (suc (length bs)) 0 z)))
        (λ m. ap (λ c. words (c ∷ bs)) (eqb-true b 35 m) ∙ words_marked bs)
        (or_cases (eqb (suc (length bs)) 0) (eqb b 35) o)

pub word_first : (line rest : List ℕ) (n m : ℕ) → Front true line n → rest ≡ drop n line → Front false rest m → wordless rest ≡ false → words line ≡ take m rest ∷ words (drop m rest)
word_first line rest n m f e g o =
    let parts = or_parts (eqb (length rest) 0) (eqb (get_or rest 0 0) 35) o in
    let h : 0 < length rest = omega (arith, eqb-false (length rest) 0 parts.0) in
    let mark = eqb-false (get_or rest 0 0) 35 parts.1 in
    let l : length rest ≡ length line - n = ap length e ∙ length-drop n line in
    let z : n + 0 ≡ n = omega arith in
    let here : get_or rest 0 0 ≡ get_or line n 0 = ap (λ r. get_or r 0 0) e ∙ get_or-drop n line 0 0 ∙ ap (λ k. get_or line k 0) z in
    let nb : blank (get_or rest 0 0) ≡ false = ap blank here ∙ f.stops (omega arith) in
    sym (past_gap line n f) ∙ ap words (sym e) ∙ past_word rest m g h nb mark

-- Lines from the writer's side: words with gaps between them, and then perhaps a comment.
use Rattle.std.specs.Prelude.{◌≡◌, ℕ, ◌<◌, true, false, ◌↔◌, List, [], ◌∷◌, ◌++◌, length}
use Rattle.std.specs.List.{AllByRecursion}
use Rattle.command.specs.Words.{blank, marked, words, Parted}

-- some bytes, none of them a blank, and the first no comment mark
pub record Word (w : List ℕ) : Type 0 where
  pub some : 0 < length w
  pub solid : AllByRecursion (λ b. blank b ≡ false) w
  pub unmarked : marked w ≡ false

-- the line has these words
pub data Line : List ℕ → List (List ℕ) → Type 0 where
  over : Line [] []
  comment : (text : List ℕ) → Line (35 ∷ text) []
  gap : (b : ℕ) (rest : List ℕ) (ws : List (List ℕ)) → blank b ≡ true → Line rest ws → Line (b ∷ rest) ws
  headed : (w rest : List ℕ) (ws : List (List ℕ)) → Word w → Parted rest → Line rest ws → Line (w ++ rest) (w ∷ ws)

-- however a line is laid out, its words are those that it was made of
abbrev pub WordsByGaps : Type 0
WordsByGaps = (line : List ℕ) (ws : List (List ℕ)) → Line line ws ↔ (words line ≡ ws)

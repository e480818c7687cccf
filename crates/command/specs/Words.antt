-- The words of a line: its longest runs of bytes that are no blank, up to the comment.
use Rattle.std.specs.Prelude.{◌≡◌, ℕ, ◌<◌, ◌≤◌, Bool, true, false, cond, not, ◌||◌, List, [], ◌∷◌, ◌++◌, length, take, ◌==◌, slice_index}
use Rattle.std.specs.List.{AllByRecursion}

-- space, tab and CR
abbrev pub blank : ℕ → Bool
blank b = b == 32 || (b == 9 || b == 13)

-- a run that has ended, if it has any byte, before the later ones
abbrev pub ended : List ℕ → List (List ℕ) → List (List ℕ)
ended [] later = later
ended (b ∷ run) later = (b ∷ run) ∷ later

-- the runs of some bytes, where the bytes `run` stand right before them
unfoldable pub runs : List ℕ → List ℕ → List (List ℕ)
runs run [] = ended run []
runs run (b ∷ bs) = cond (blank b) (ended run (runs [] bs)) (runs (run ++ b ∷ []) bs)

-- the comment mark, #
abbrev pub marked : List ℕ → Bool
marked [] = false
marked (b ∷ bs) = b == 35

-- those before the first that begins with the comment mark
abbrev pub uncommented : List (List ℕ) → List (List ℕ)
uncommented [] = []
uncommented (run ∷ later) = cond (marked run) [] (run ∷ uncommented later)

abbrev pub words : List ℕ → List (List ℕ)
words line = uncommented (runs [] line)

-- the first n bytes are all blanks, or all none, and the next is not so
pub record Front (blanks : Bool) (line : List ℕ) (n : ℕ) : Type 0 where
  pub within : n ≤ length line
  pub all : AllByRecursion (λ b. blank b ≡ blanks) (take n line)
  pub stops : n < length line → blank (slice_index line n) ≡ not blanks

-- where a word has ended: at a blank or at the end of the line
abbrev pub Parted : List ℕ → Type 0
Parted [] = Unit {0}
Parted (b ∷ bs) = blank b ≡ true

-- what is left past a gap has no word: it is empty, or a comment
abbrev pub wordless : List ℕ → Bool
wordless rest = length rest == 0 || slice_index rest 0 == 35

-- The word at a place of a machine.
use Rattle.std.specs.Prelude.{◌≡◌, ℕ, ◌<◌, List, slice_index}
use Rattle.chip.specs.Layout.{Layout}
use Rattle.machine.specs.Meaning.{Meaning}
use Rattle.machine.specs.Calls.{word_at}

-- there is a place q, and it has the word
pub record HasWord (l : Layout) (m : Meaning) (q word : ℕ) : Type 0 where
  pub there : q < l.places
  pub same : word_at m q ≡ word

-- each place below n has the word that is given for it
abbrev pub HasWordsBelow : Layout → Meaning → List ℕ → ℕ → Type 0
HasWordsBelow l m words n = (q : ℕ) → q < n → HasWord l m q (slice_index words q)

-- A new machine.
use Rattle.std.specs.Prelude.{◌≡◌, ℕ, true, false, length, replicate, slice_index_or}
use Rattle.chip.specs.Layout.{Layout}
use Rattle.machine.specs.Meaning.{Meaning}
use Rattle.parity.specs.Words.{fresh}

-- fresh words and every coupler in service; the allowance does not count
pub record NewMachine (l : Layout) (m : Meaning) : Type 0 where
  pub fresh_words : m.words ≡ fresh l.places
  pub all_in_service : m.service ≡ replicate (length l.couplers) true

-- coupler k is in service
pub record InService (m : Meaning) (k : ℕ) : Type 0 where
  pub serves : slice_index_or m.service k false ≡ true

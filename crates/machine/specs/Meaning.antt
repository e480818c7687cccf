-- What a machine means beside its layout, and what an obeyed call makes of it.
use Rattle.std.specs.Prelude.{◌≡◌, ℕ, ◌-◌, ◌^◌, ◌<◌, Bool, true, List, length, replicate, slice_index, slice_set}
use Rattle.chip.specs.Layout.{Layout}
use Rattle.parity.specs.Words.{Gate, cnot, fresh}

pub record Meaning : Type 0 where
  -- for each coupler, whether it is in service
  pub service : List Bool
  -- the word at each place
  pub words : List ℕ
  -- how many gates the machine still takes
  pub allowance : ℕ

-- one mark for each coupler, one word for each place, and in a word no bit n or above
pub record Fitting (l : Layout) (s : Meaning) : Type 0 where
  pub one_mark_each : length s.service ≡ length l.couplers
  pub one_word_each : length s.words ≡ l.places
  pub words_below : (q : ℕ) → q < l.places → slice_index s.words q < 2 ^ l.places

-- coupler k put in or out of service
abbrev pub switched : Meaning → ℕ → Bool → Meaning
switched s k on = record { service = slice_set s.service k on; words = s.words; allowance = s.allowance }

-- a gate played
abbrev pub played : Meaning → Gate → Meaning
played s g = record { service = s.service; words = cnot g s.words; allowance = s.allowance - 1 }

-- a new machine: fresh words, all couplers in service
abbrev pub new : Layout → ℕ → Meaning
new l allowed = record { service = replicate (length l.couplers) true; words = fresh l.places; allowance = allowed }

-- What an obeyed flush leaves at the wires' new places.
use Rattle.std.specs.Prelude.{◌≡◌, ℕ, ◌-◌, ◌<◌, List, length, Ok, slice_index}
use Rattle.parity.specs.Sets.{xor_over}
use Rattle.parity.specs.Placements.{wires_to_places}
use Rattle.session.specs.State.{State}
use Rattle.session.specs.Flushes.{Flush}

-- each wire's qubit, the allowance, and everything that is not the flush's to change
pub record Carries (s t : State) (count : ℕ) : Type 0 where
  pub word : (w : ℕ) → w < s.session.places
      → slice_index t.machine.words (slice_index t.session.placement w) ≡ xor_over s.machine.words (wires_to_places s.session.placement (slice_index s.session.block w))
  pub allowance : t.machine.allowance ≡ s.machine.allowance - count
  pub service : t.machine.service ≡ s.machine.service
  pub layout : t.layout ≡ s.layout

abbrev pub FlushCarries : Type 0
FlushCarries = (s t : State) (buffer left : List ℕ) (count : ℕ) → length s.machine.words ≡ s.session.places → length left ≡ length buffer
    → Flush s buffer (Ok count) t left → Carries s t count

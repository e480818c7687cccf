-- The law over every list of calls.
use Rattle.std.specs.Prelude.{◌≡◌, ℕ, ◌+◌, ◌<◌, ◌≤◌, true, false, ◌↔◌, List, map, length, Err, Result, slice_index, slice_index_or}
use Rattle.chip.specs.Layout.{Sound}
use Rattle.machine.specs.OnCoupler.{OnCoupler}
use Rattle.parity.specs.Words.{Gate, replay}
use Rattle.parity.specs.Gates.{Each}
use Rattle.parity.specs.Placements.{Placement}
use Rattle.planner.specs.Plans.{room}
use Rattle.session_fault.specs.declared.SessionFault.{SessionFault}
use Rattle.session_fault.specs.declared.SessionFault.TheVariants.{Unreachable}
use Rattle.session.specs.State.{State, sized}
use Rattle.session.specs.New.{New}
use Rattle.session.specs.Flushes.{Flush}
use Rattle.runs.specs.Runs.{Event, Run}
use Rattle.runs.specs.Sheet.{Sheet, blank, fed, never, serving, record_by, outs, tally, take_one, give_one, write_one}

-- the sheet of a list of calls that began at s
abbrev pub sheet_of : State → List Event → Sheet
sheet_of s es = fed (blank s.session.places s.session.couplers) es

-- each wire has a place of its own, and the qubit there carries the wire's carried word
pub record Carried (t : State) (h : Sheet) : Type 0 where
  pub placed : Placement t.session.places t.session.placement
  pub word : (w : ℕ) → w < t.session.places → slice_index t.machine.words (slice_index t.session.placement w) ≡ slice_index h.carried w

-- gates on couplers in service, replayed from the machine's words, put every wanted word on a place of its own
pub record Puts (t : State) (h : Sheet) (gs : List Gate) (at : List ℕ) : Type 0 where
  pub on_couplers : Each (OnCoupler t.layout t.machine.service) gs
  pub placed : Placement t.session.places at
  pub word : (w : ℕ) → w < t.session.places → slice_index (replay gs t.machine.words) (slice_index at w) ≡ slice_index h.wanted w

-- a flush that comes next, with a buffer that is long enough, is unreachable exactly when no list of gates, of any length, does that
abbrev pub UnreachableExactly : State → Sheet → Type 0
UnreachableExactly t h = (buffer left : List ℕ) (r : Result ℕ SessionFault) (u : State)
    → room t.session.places ≤ length buffer → Flush t buffer r u left
    → (r ≡ Err Unreachable) ↔ ((gs : List Gate) (at : List ℕ) → Puts t h gs at → ⊥)

-- a coupler is in service exactly when its last obeyed call was a give-back, or there was none
abbrev pub Service : State → Sheet → Type 0
Service t h = (k : ℕ) → k < t.session.couplers → slice_index_or t.machine.service k false ≡ serving (slice_index_or h.lasts k never)

-- and its record is the one that its last obeyed call made
abbrev pub Records : State → Sheet → Type 0
Records t h = t.session.records ≡ map record_by h.lasts

-- obeyed take-outs are obeyed give-backs, obeyed write-offs, and couplers now out on a pass
abbrev pub Balance : List Event → Sheet → Type 0
Balance es h = tally take_one es ≡ tally give_one es + tally write_one es + outs h.lasts

pub record Holds (s : State) (es : List Event) (t : State) : Type 0 where
  pub same_chip : t.layout ≡ s.layout
  pub same_size : sized t ≡ true
  pub carried : Carried t (sheet_of s es)
  pub unreachable_exactly : UnreachableExactly t (sheet_of s es)
  pub service : Service t (sheet_of s es)
  pub records : Records t (sheet_of s es)
  pub balance : Balance es (sheet_of s es)

-- after every list of calls on a new session and a new machine
abbrev pub Law : Type 0
Law = (s t : State) (es : List Event) → Sound s.layout → New s → Run s es t → Holds s es t

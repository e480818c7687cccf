-- No pass that was handed out may go. Passes in slots can be ended: at the start, and after every script.
use Rattle.std.specs.Prelude.{◌≡◌, ℕ, ◌<◌, List, None, Ok, slice_index_or}
use Rattle.chip.specs.Layout.{Sound}
use Rattle.session.specs.declared.pass.Pass.{Pass}
use Rattle.session.specs.State.{State}
use Rattle.session.specs.New.{New}
use Rattle.session.specs.Outages.{TakeOut}
use Rattle.runs.specs.Runs.{Event}
use Rattle.runs.specs.Sheet.{outs}
use Rattle.runs.specs.Law.{sheet_of}
use Rattle.script.specs.declared.order.Turn.{Turn}
use Rattle.script.specs.Slots.{Slots}
use Rattle.script.specs.Turns.{Bench, Turns}
use Rattle.closing.specs.Good.{Good, filled_count}

-- a pass may go only if it names coupler 256 or above, and none that is handed out does
abbrev pub HandedOutStays : Type 0
HandedOutStays = (s t : State) (k : ℕ) (p : Pass) → Sound s.layout → TakeOut s k (Ok p) t → p.coupler < 256

abbrev pub StaysGood : Type 0
StaysGood = (b c : Bench) (ts : List Turn) (es : List Event) → Turns b ts c es → Good b.state b.slots → Good c.state c.slots

abbrev pub StartsGood : Type 0
StartsGood = (s : State) (h : Slots) → New s → ((i : ℕ) → slice_index_or h i None ≡ None) → Good s h

-- the passes in slots are as many as the couplers that the sheet has out on a pass
abbrev pub AsManyAsOut : Type 0
AsManyAsOut = (b c : Bench) (ts : List Turn) (es : List Event) → Sound b.state.layout → New b.state → ((i : ℕ) → slice_index_or b.slots i None ≡ None) → Turns b ts c es
    → filled_count c.slots ≡ outs (sheet_of b.state es).lasts

-- The parity sheet: what a tester who hears the calls, and whether each was obeyed, would write down.
use Rattle.std.specs.Prelude.{ℕ, ◌+◌, Bool, true, false, List, [], ◌∷◌, replicate, slice_set}
use Rattle.parity.specs.Words.{fresh, cnot}
use Rattle.planner.specs.Blocks.{traded}
use Rattle.session.specs.declared.records.CouplerRecord.{CouplerRecord}
use Rattle.session.specs.declared.records.CouplerRecord.TheVariants.{In, Out, WrittenOff}
use Rattle.runs.specs.Runs.{Call, cx, swap, take_out, give_back, write_off, flush, Event}

-- the last obeyed take-out, give-back or write-off of a coupler
pub data Last : Type 0 where
  never : Last
  taken_out : Last
  given_back : Last
  written_off : Last

-- for each wire the word that it wants and the word that its qubit carries; for each coupler its last call
pub record Sheet : Type 0 where
  pub wanted : List ℕ
  pub carried : List ℕ
  pub lasts : List Last

-- at first both words of wire w are bit w alone
abbrev pub blank : ℕ → ℕ → Sheet
blank n m = record { wanted = fresh n; carried = fresh n; lasts = replicate m never }

abbrev pub wants : Sheet → List ℕ → Sheet
wants h ws = record { wanted = ws; carried = h.carried; lasts = h.lasts }

abbrev pub settles : Sheet → Sheet
settles h = record { wanted = h.wanted; carried = h.wanted; lasts = h.lasts }

abbrev pub notes : Sheet → ℕ → Last → Sheet
notes h k l = record { wanted = h.wanted; carried = h.carried; lasts = slice_set h.lasts k l }

-- an obeyed call
abbrev pub fed_obeyed : Call → Sheet → Sheet
fed_obeyed (cx a b) h = wants h (cnot (a, b) h.wanted)
fed_obeyed (swap a b) h = wants h (traded a b h.wanted)
fed_obeyed (take_out k) h = notes h k taken_out
fed_obeyed (give_back p) h = notes h p.coupler given_back
fed_obeyed (write_off p) h = notes h p.coupler written_off
fed_obeyed (flush long) h = settles h

-- a call that was refused leaves the sheet as it is
abbrev pub fed_call : Call → Bool → Sheet → Sheet
fed_call c true h = fed_obeyed c h
fed_call c false h = h

abbrev pub feed : Event → Sheet → Sheet
feed e h = fed_call e.call e.obeyed h

abbrev pub fed : Sheet → List Event → Sheet
fed h [] = h
fed h (e ∷ es) = fed (feed e h) es

-- ---- what the last call of a coupler says of it

-- in service: a give-back, or none
abbrev pub serving : Last → Bool
serving never = true
serving taken_out = false
serving given_back = true
serving written_off = false

abbrev pub record_by : Last → CouplerRecord
record_by never = In
record_by taken_out = Out
record_by given_back = In
record_by written_off = WrittenOff

-- out on a pass: a take-out
abbrev pub out_one : Last → ℕ
out_one never = 0
out_one taken_out = 1
out_one given_back = 0
out_one written_off = 0

abbrev pub outs : List Last → ℕ
outs [] = 0
outs (l ∷ ls) = out_one l + outs ls

-- ---- counting obeyed calls

abbrev pub take_one : Call → ℕ
take_one (cx a b) = 0
take_one (swap a b) = 0
take_one (take_out k) = 1
take_one (give_back p) = 0
take_one (write_off p) = 0
take_one (flush long) = 0

abbrev pub give_one : Call → ℕ
give_one (cx a b) = 0
give_one (swap a b) = 0
give_one (take_out k) = 0
give_one (give_back p) = 1
give_one (write_off p) = 0
give_one (flush long) = 0

abbrev pub write_one : Call → ℕ
write_one (cx a b) = 0
write_one (swap a b) = 0
write_one (take_out k) = 0
write_one (give_back p) = 0
write_one (write_off p) = 1
write_one (flush long) = 0

abbrev pub if_obeyed : Bool → ℕ → ℕ
if_obeyed true n = n
if_obeyed false n = 0

-- how many of the obeyed calls are of a kind
abbrev pub tally : (Call → ℕ) → List Event → ℕ
tally kind [] = 0
tally kind (e ∷ es) = if_obeyed e.obeyed (kind e.call) + tally kind es

-- What a session is known by, and a session beside the machine that a call is given.
use Rattle.std.specs.Prelude.{ℕ, Bool, ◌&&◌, List, length, ◌==◌}
use Rattle.chip.specs.Layout.{Layout}
use Rattle.machine.specs.Meaning.{Meaning}
use Rattle.session.specs.declared.records.CouplerRecord.{CouplerRecord}

-- a session: its sizes and number, the word and the place of each wire, the record of each coupler
pub record View : Type 0 where
  pub places : ℕ
  pub couplers : ℕ
  pub number : ℕ
  pub block : List ℕ
  pub placement : List ℕ
  pub records : List CouplerRecord

pub record State : Type 0 where
  pub session : View
  pub layout : Layout
  pub machine : Meaning

abbrev pub beside : View → Layout → Meaning → State
beside v l m = record { session = v; layout = l; machine = m }

-- the machine's places and couplers are as many as the session's
abbrev pub sized : State → Bool
sized s = s.layout.places == s.session.places && length s.layout.couplers == s.session.couplers

-- another block
abbrev pub with_block : View → List ℕ → View
with_block v block = record {
  places = v.places;
  couplers = v.couplers;
  number = v.number;
  block = block;
  placement = v.placement;
  records = v.records;
}

-- other records
abbrev pub with_records : View → List CouplerRecord → View
with_records v records = record {
  places = v.places;
  couplers = v.couplers;
  number = v.number;
  block = v.block;
  placement = v.placement;
  records = records;
}

-- other couplers in service
abbrev pub with_service : Meaning → List Bool → Meaning
with_service m service = record { service = service; words = m.words; allowance = m.allowance }

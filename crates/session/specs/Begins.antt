-- A new block, with the wires at new places.
use Rattle.std.specs.Prelude.{ℕ, List}
use Rattle.parity.specs.Words.{fresh}
use Rattle.session.specs.State.{View}

abbrev pub begun : View → List ℕ → View
begun v placement = record {
  places = v.places;
  couplers = v.couplers;
  number = v.number;
  block = fresh v.places;
  placement = placement;
  records = v.records;
}

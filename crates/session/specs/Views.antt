-- A session as its calls' relations see it.
use Rattle.std.specs.Prelude.{length, vec_items, vec_len}
use Rattle.chip.specs.Layout.{Layout}
use Rattle.machine.specs.Meaning.{Meaning}
use Rattle.planner.specs.Views.{words_of, places_of}
use Rattle.session.specs.declared.store.Session.{Session}
use Rattle.session.specs.State.{View, State, beside}

abbrev pub view : Session → View
view s = record {
  places = length (words_of s.block);
  couplers = vec_len s.records.items;
  number = s.number;
  block = words_of s.block;
  placement = places_of s.places;
  records = vec_items s.records.items;
}

abbrev pub state : Session → Layout → Meaning → State
state s l m = beside (view s) l m

-- What a table machine means.
use Rattle.std.specs.Prelude.{ℕ, ◌%◌, ◌^◌, List, map, take}
use Rattle.chip.specs.Layout.{Layout}
use Rattle.machine.specs.declared.marks.Marks.{Marks}
use Rattle.machine.specs.Meaning.{Meaning}
use Rattle.machine.specs.Service.{service_of}
use Rattle.table.specs.declared.store.TableMachine.{TableMachine}

-- what words, marks and an allowance mean: the words of the chip's places count, and of a word its bits below n
abbrev pub meaning_of : Layout → List ℕ → Marks → ℕ → Meaning
meaning_of l ws marks left = record {
  service = service_of l marks;
  words = map (λ w. w % 2 ^ l.places) (take l.places ws);
  allowance = left;
}

-- Words are kept for 64 places.
abbrev pub table_meaning : {C : Type 0} → Layout → TableMachine C → Meaning
table_meaning l m = meaning_of l m.words m.service m.left

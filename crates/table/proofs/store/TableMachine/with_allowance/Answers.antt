use Rattle.std.proofs.Common.{refl, rules}
use Rattle.table.specs.declared.store.TableMachine.{TableMachine}
use Rattle.table.specs.Tables.{new_is}
use Rattle.table.proofs.store.TableMachine.with_allowance.Goals as goal

pub returns : goal.returns
returns g c =
    let made : TableMachine g.row.C.Denot = record {
      chip = c.args.chip;
      words = c.fresh_words.result;
      service = c.all_in_service.result;
      left = c.args.left;
      word_room = search rules;
    } in
    record {
      same_chip = refl;
      new = new_is (g.C.Chip.layout c.args.chip) made (g.met.C.Chip.sound c.args.chip) c.fresh_words.ensures c.all_in_service.ensures;
    }

use Rattle.std.proofs.Common.{◌≡◌, None, Option, sym, ap, ◌∙◌}
use Rattle.chip.specs.Answers.{answered, kept}
use Rattle.chip.proofs.Answers.{answered_ok}
use Rattle.machine.specs.declared.fault.MachineFault.{MachineFault}
use Rattle.machine.specs.Meaning.{played}
use Rattle.machine.specs.Calls.{cnot_fault}
use Rattle.machine.proofs.OnCouplers.{obeyed}
use Rattle.table.specs.Table.{table_meaning}
use Rattle.table.specs.Tables.{cnot_is}
use Rattle.table.proofs.acts.TableMachineMachine.cnot.Goals as goal

pub returns : goal.returns
returns g c =
    let s = c.args.self.now in
    let l = g.C.Chip.layout s.chip in
    let was = table_meaning l s in
    let free : cnot_fault l was c.args.c c.args.t ≡ None = answered_ok (cnot_fault l was c.args.c c.args.t) tt tt c.check_cnot.result c.check_cnot.ensures c.in_ok-check_cnot.was in
    let ends = (obeyed l was c.args.c c.args.t (g.met.C.Chip.sound s.chip) free).ends in
    let a = c.add_word.ensures in
    record {
      answer = sym (ap (λ (o : Option MachineFault). answered o tt) free);
      leaves =
          ap (λ k. table_meaning (g.C.Chip.layout k) c.add_word.new.self) a.chip
          ∙ cnot_is l s c.add_word.new.self c.args.c c.args.t ends.from ends.to (record { words = a.words; left = a.left; service = a.service })
          ∙ sym (ap (λ (o : Option MachineFault). kept o (played was (c.args.c, c.args.t)) was) free);
      same_chip = ap g.C.Chip.layout a.chip;
    }

use Rattle.std.proofs.Common.{◌≡◌, ◌<◌, None, Option, sym, refl, ap, ◌∙◌, arith}
use Rattle.chip.specs.Answers.{answered, kept}
use Rattle.chip.proofs.Answers.{answered_ok}
use Rattle.machine.specs.declared.fault.MachineFault.{MachineFault}
use Rattle.machine.specs.Meaning.{played}
use Rattle.machine.specs.Calls.{cnot_fault}
use Rattle.machine.proofs.OnCouplers.{obeyed}
use Rattle.tape.specs.Tape.{tape_meaning}
use Rattle.tape.specs.Tapes.{cnot_is}
use Rattle.tape.proofs.acts.TapeMachineMachine.cnot.Goals as goal

pub returns : goal.returns
returns g c =
    let s = c.args.self.now in
    let l = g.C.Chip.layout s.chip in
    let so = g.met.C.Chip.sound s.chip in
    let was = tape_meaning l s in
    let free : cnot_fault l was c.args.c c.args.t ≡ None = answered_ok (cnot_fault l was c.args.c c.args.t) tt tt c.check_cnot.result c.check_cnot.ensures c.in_ok-check_cnot.was in
    let ends = (obeyed l was c.args.c c.args.t so free).ends in
    let low : c.args.t < 64 = let a = ends.to in let b = so.at_most_64 in omega arith in
    let a = c.keep.ensures in
    record {
      answer = sym (ap (λ (o : Option MachineFault). answered o tt) free);
      leaves =
          ap (λ k. tape_meaning (g.C.Chip.layout k) c.keep.new.self) a.chip
          ∙ cnot_is l s c.keep.new.self c.args.c c.args.t _ low refl (record { entries = a.entries; room = a.room; service = a.service })
          ∙ sym (ap (λ (o : Option MachineFault). kept o (played was (c.args.c, c.args.t)) was) free);
      same_chip = ap g.C.Chip.layout a.chip;
    }

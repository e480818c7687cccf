use Rattle.std.proofs.Common.{◌≡◌, Some, Err, Option, sym, ap, ◌∙◌}
use Rattle.std.specs.Option.{option_map, option_copied_mut}
use Rattle.std.proofs.lemmas.Result.{err_from_is_err_and}
use Rattle.chip.specs.Answers.{kept}
use Rattle.chip.proofs.Answers.{answered_err}
use Rattle.machine.specs.declared.fault.MachineFault.{MachineFault}
use Rattle.machine.specs.Calls.{cnot_fault}
use Rattle.machine.specs.Meaning.{played}
use Rattle.device.specs.Machines.{chip_layout, any_meaning}
use Rattle.simulation.specs.Statuses.{status_of, machine_of}
use Rattle.simulation.proofs.Statuses.{refused}
use Rattle.simulation.proofs.setup.Setup.cnot.Goals as goal

pub returns-in_err-cnot : goal.returns-in_err-cnot
returns-in_err-cnot c =
    let m = c.in_ok-machine.machine.now in
    let there : c.args.self.now.machine ≡ Some m = sym c.as_mut.ensures.value ∙ ap option_copied_mut c.in_ok-machine.ensures.ok_part in
    let f = c.in_err-cnot.field-0.0 in
    let fault = cnot_fault (chip_layout m) (any_meaning m) c.args.c c.args.t in
    let is : fault ≡ Some f = answered_err fault tt f c.cnot.result c.cnot.ensures.answer c.in_err-cnot.was in
    let p = err_from_is_err_and c.from_residual-in_err-cnot.result c.from_residual-in_err-cnot.ensures.1 in
    refused (status_of c.args.self.now) (machine_of m) (machine_of c.cnot.new.self) (λ l e. cnot_fault l e c.args.c c.args.t) _ _ f c.from_residual-in_err-cnot.result
    (ap (option_map machine_of) there) is c.cnot.ensures.same_chip
    (c.cnot.ensures.leaves ∙ ap (λ (o : Option MachineFault). kept o (played (any_meaning m) (c.args.c, c.args.t)) (any_meaning m)) is)
    (p.1 ∙ ap Err p.2)

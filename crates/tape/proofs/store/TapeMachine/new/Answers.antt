use Rattle.std.proofs.Common.{refl, rules, arith}
use Rattle.tape.specs.declared.store.TapeMachine.{TapeMachine}
use Rattle.tape.specs.Tapes.{new_is}
use Rattle.tape.proofs.store.TapeMachine.new.Goals as goal

pub returns : goal.returns
returns g c =
    let made : TapeMachine g.row.C.Denot = record {
      chip = c.args.chip;
      tape = c.in-Ok.tape;
      service = c.all_in_service.result;
      short = let e = c.in-Ok.ensures.exact in omega arith;
    } in (
      search rules,
      refl,
      new_is (g.C.Chip.layout c.args.chip) made c.args.length (g.met.C.Chip.sound c.args.chip)
          c.in-Ok.ensures.items c.in-Ok.ensures.exact c.all_in_service.ensures,
    )

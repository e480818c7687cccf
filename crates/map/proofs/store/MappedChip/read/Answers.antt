use Rattle.std.proofs.Common.{sym, ap, ◌∙◌, arith, rules}
use Rattle.map.specs.File.{bad_fault}
use Rattle.map.proofs.Reading.{Paired, fault_read, layout_read, sound_read, read_as}
use Rattle.map.proofs.store.MappedChip.read.Goals as goal

pub returns-in-Some : goal.returns-in-Some
returns-in-Some c =
    let pairs : Paired c.args.file.now c.paired-room.result =
    record { header = search rules; whole = c.if-rest-m.false; few = omega (arith, c.paired-room.ensures.room); ends = c.paired-room.ensures.ends } in
    fault_read _ _ pairs (omega arith) (omega arith) (omega arith) ∙ ap bad_fault (sym c.in-Some.ensures)

pub with_couplers-requires : goal.with_couplers-requires
with_couplers-requires c =
    let pairs : Paired c.args.file.now c.paired-room.result =
    record { header = search rules; whole = c.if-rest-m.false; few = omega (arith, c.paired-room.ensures.room); ends = c.paired-room.ensures.ends } in
    sound_read _ _ pairs (omega arith) (omega arith) (omega arith) (sym c.in_default-first_bad.ensures)

pub returns : goal.returns
returns c =
    let pairs : Paired c.args.file.now c.paired-room.result =
    record { header = search rules; whole = c.if-rest-m.false; few = omega (arith, c.paired-room.ensures.room); ends = c.paired-room.ensures.ends } in
    let good = fault_read _ _ pairs (omega arith) (omega arith) (omega arith) ∙ ap bad_fault (sym c.in_default-first_bad.ensures) in
    read_as c.args.file.now c.with_couplers.result good (layout_read _ _ pairs) c.with_couplers.ensures

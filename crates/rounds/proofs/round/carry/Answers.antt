use Rattle.std.proofs.Common.{◌≡◌, ℕ, List, [], ◌∷◌, ◌++◌, map, length, get_or, sym, ap, ◌∙◌, subst, arith}
use Rattle.parity.specs.Words.{Gate, gate_of}
use Rattle.parity.specs.Gates.{acts, TwoPlaces, Each}
use Rattle.parity.specs.Pairing.{turned}
use Rattle.parity.specs.Entries.{gates_in}
use Rattle.parity.proofs.Pairing.{turned_append}
use Rattle.parity.proofs.Entries.{gates_whole, gates_in_none, gates_in_next, each_at}
use Rattle.rounds.specs.Duals.{Moved}
use Rattle.rounds.proofs.Moving.{moved_append, moved_one}
use Rattle.rounds.proofs.round.carry.Goals as goal

pub loop-e-init : goal.loop-e-init
loop-e-init c =
    let e = gates_in_none c.args.entries.now 0 in (
      (λ v. ap (λ (gs : List Gate). acts gs (get_or c.args.straight.now v 0)) (sym e)),
      (λ v. ap (λ (gs : List Gate). acts (turned gs) (get_or c.args.reversed.now v 0)) (sym e)),
    )

pub act_on_each-requires : goal.act_on_each-requires
act_on_each-requires c =
    let es = c.args.entries.now in
    (subst (TwoPlaces 64) (sym c.ends_of-c.ensures)
    (each_at (TwoPlaces 64) es 0 c.loop-e.e-index (length es) (omega arith) (omega arith) (omega arith) (subst (Each (TwoPlaces 64)) (sym (gates_whole es)) c.requires))).from

pub loop-e-preserved : goal.loop-e-preserved
loop-e-preserved c =
    let o = c.args.entries.now in
    let i : ℕ = 0 in
    let k = c.loop-e.e-index in
    let g : Gate = c.ends_of-c.result in
    let h : Gate = (g.1, g.0) in
    let e = gates_in_next o i k (omega arith) (omega arith) ∙ ap (λ (f : Gate). gates_in o i k ++ f ∷ []) (sym c.ends_of-c.ensures) in (
      subst (λ (gs : List Gate). Moved gs c.args.straight.now c.act_on_each.new.sets) (sym e)
          (moved_append (gates_in o i k) (g ∷ []) c.args.straight.now c.loop-e.straight c.act_on_each.new.sets
          c.loop-e.invariant.0 (moved_one g c.loop-e.straight c.act_on_each.new.sets c.act_on_each.ensures)),
      subst (λ (gs : List Gate). Moved gs c.args.reversed.now c.act_on_each-in-loop-e.new.sets) (sym (ap turned e ∙ turned_append (gates_in o i k) (g ∷ [])))
          (moved_append (turned (gates_in o i k)) (h ∷ []) c.args.reversed.now c.loop-e.reversed c.act_on_each-in-loop-e.new.sets
          c.loop-e.invariant.1 (moved_one h c.loop-e.reversed c.act_on_each-in-loop-e.new.sets c.act_on_each-in-loop-e.ensures)),
    )

pub returns : goal.returns
returns c =
    let es = c.args.entries.now in
    let whole : gates_in es 0 c.loop-e.e-index ≡ map gate_of es = ap (gates_in es 0) (omega arith) ∙ gates_whole es in
    record {
      moved = subst (λ (gs : List Gate). Moved gs c.args.straight.now c.loop-e.straight) whole c.loop-e.invariant.0;
      moved_turned = subst (λ (gs : List Gate). Moved (turned gs) c.args.reversed.now c.loop-e.reversed) whole c.loop-e.invariant.1;
    }

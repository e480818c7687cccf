use Rattle.std.proofs.Common.{◌≡◌, ℕ, ◌+◌, ◌<◌, [], ◌∷◌, ◌++◌, length, get_or, drop, set, sym, refl, ap, ◌∙◌, subst, ap₂, arith}
use Rattle.std.proofs.lemmas.List.{take-set, drop-set-lt}
use Rattle.parity.specs.Words.{Gate, gate_of}
use Rattle.parity.specs.Gates.{TwoPlaces, Each}
use Rattle.parity.specs.Pairing.{turned}
use Rattle.parity.specs.Entries.{gates_in}
use Rattle.parity.proofs.Pairing.{turned_append}
use Rattle.parity.proofs.Entries.{gates_whole, gates_in_none, gates_in_append, gates_in_next, gates_in_set, each_at, get_d_behind, back_kept}
use Rattle.rounds.proofs.round.turn.Goals as goal

pub loop-e-init : goal.loop-e-init
loop-e-init c =
    let e = gates_in_none c.args.entries.now 0 in
    (refl, e ∙ ap turned (sym e))

pub loop-e-preserved : goal.loop-e-preserved
loop-e-preserved c =
    let o = c.args.entries.now in
    let s = c.loop-e.entries in
    let k = c.loop-e.e-index in
    let y = c.turned_entry.result in
    let inv = c.loop-e.invariant in
    let same = get_d_behind s o k inv.0 in
    let g : Gate = gate_of (get_or s k 0) in
    let lt : k < length s = omega arith in
    let f : TwoPlaces 64 g = subst (λ (m : ℕ). TwoPlaces 64 (gate_of m)) (sym same)
    (each_at (TwoPlaces 64) o 0 k (length o) (omega arith) (omega arith) (omega arith) (subst (Each (TwoPlaces 64)) (sym (gates_whole o)) c.requires)) in
    let back : drop (k + 1) s ≡ drop (k + 1) o = back_kept o s k (k + 1) (omega arith) inv.0 in
    let was : gates_in o 0 (k + 1) ≡ gates_in o 0 k ++ g ∷ [] =
    gates_in_next o 0 k (omega arith) (omega arith) ∙ ap (λ (m : ℕ). gates_in o 0 k ++ gate_of m ∷ []) (sym same) in (
      drop-set-lt (k + 1) s k y (omega arith) ∙ back,
      gates_in_append s (set s k y) 0 k (k + 1) (omega arith) (omega arith) (omega arith) (take-set s k y)
          ∙ ap₂ ◌++◌ inv.1 (gates_in_set s k y (g.1, g.0) lt f.from (c.turned_entry.ensures f.from))
          ∙ sym (ap turned was ∙ turned_append (gates_in o 0 k) (g ∷ [])),
    )

pub returns : goal.returns
returns c =
    let o = c.args.entries.now in
    let s = c.loop-e.entries in
    sym (gates_whole s) ∙ ap (gates_in s 0) (omega arith) ∙ c.loop-e.invariant.1 ∙ ap turned (ap (gates_in o 0) (omega arith) ∙ gates_whole o)

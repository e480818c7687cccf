-- Playing gate by gate.
use Rattle.std.proofs.Common.{◌≡◌, ℕ, ◌+◌, ◌<◌, ◌≤◌, List, [], ◌∷◌, map, length, get_or, drop, Some, None, Ok, Err, Option, Result, sym, refl, ap, ◌∙◌, ap₂, add-one, arith, drop-cons}
use lib.ListN.{length-map}
use Rattle.std.proofs.lemmas.List.{at_drop_all}
use Rattle.std.proofs.lemmas.Bool.{le-leb}
use Rattle.chip.specs.Answers.{kept}
use Rattle.chip.specs.Layout.{Layout, Sound}
use Rattle.chip.proofs.Answers.{answered_ok, answered_err}
use Rattle.parity.specs.Words.{Gate, cnot, entry, gate_of, replay}
use Rattle.parity.proofs.Words.{rereads}
use Rattle.machine.specs.declared.fault.MachineFault.{MachineFault}
use Rattle.machine.specs.Meaning.{Meaning, played}
use Rattle.machine.specs.Calls.{cnot_fault}
use Rattle.machine.specs.OnCoupler.{OnCouplers}
use Rattle.machine.proofs.OnCouplers.{ends_of, on_coupler_obeys}
use Rattle.play.specs.Playing.{Turn, onward, outcome, replayed, PlayedWhole}

abbrev fault : Layout → Meaning → ℕ → Option MachineFault
fault l s e = cnot_fault l s (gate_of e).0 (gate_of e).1

outcome_step : (l : Layout) (s : Meaning) (es : List ℕ) (i : ℕ) → i < length es
    → outcome l s (drop i es) ≡ onward (fault l s (get_or es i 0)) (outcome l (played s (gate_of (get_or es i 0))) (drop (i + 1) es)) s
outcome_step l s es i h = rw (add-one, drop-cons es i 0) refl

-- one gate that was obeyed
pub step_obeyed : (l k : Layout) (s t : Meaning) (r : Result (Unit {0}) MachineFault) (es : List ℕ) (i : ℕ)
    → i < length es → k ≡ l → Turn k s t (get_or es i 0) r → r ≡ Ok tt → outcome l s (drop i es) ≡ outcome l t (drop (i + 1) es)
step_obeyed l k s t r es i h same turn ok =
    let free : fault k s (get_or es i 0) ≡ None = answered_ok (fault k s (get_or es i 0)) tt tt r turn.answer ok in
    let now : fault l s (get_or es i 0) ≡ None = ap (λ (y : Layout). fault y s (get_or es i 0)) (sym same) ∙ free in
    let after : t ≡ played s (gate_of (get_or es i 0)) = turn.leaves ∙ ap (λ (o : Option MachineFault). kept o (played s (gate_of (get_or es i 0))) s) free in
    outcome_step l s es i h
    ∙ ap (λ (o : Option MachineFault). onward o (outcome l (played s (gate_of (get_or es i 0))) (drop (i + 1) es)) s) now
    ∙ ap (λ (y : Meaning). outcome l y (drop (i + 1) es)) (sym after)

-- a gate that was refused ends the playing
pub step_refused : (l k : Layout) (s t : Meaning) (r : Result (Unit {0}) MachineFault) (f : MachineFault) (es : List ℕ) (i : ℕ)
    → i < length es → k ≡ l → Turn k s t (get_or es i 0) r → r ≡ Err f → outcome l s (drop i es) ≡ (Err f, t)
step_refused l k s t r f es i h same turn bad =
    let found : fault k s (get_or es i 0) ≡ Some f = answered_err (fault k s (get_or es i 0)) tt f r turn.answer bad in
    let now : fault l s (get_or es i 0) ≡ Some f = ap (λ (y : Layout). fault y s (get_or es i 0)) (sym same) ∙ found in
    let after : t ≡ s = turn.leaves ∙ ap (λ (o : Option MachineFault). kept o (played s (gate_of (get_or es i 0))) s) found in
    outcome_step l s es i h
    ∙ ap (λ (o : Option MachineFault). onward o (outcome l (played s (gate_of (get_or es i 0))) (drop (i + 1) es)) s) now
    ∙ ap (λ (y : Meaning). (Err f, y)) (sym after)

pub outcome_done : (l : Layout) (s : Meaning) (es : List ℕ) (i : ℕ) → length es ≤ i → outcome l s (drop i es) ≡ (Ok tt, s)
outcome_done l s es i h = at_drop_all (outcome l s) es i h

pub played_whole : PlayedWhole
played_whole l s [] so on h = ap (λ (a : ℕ). (Ok tt, record { service = s.service; words = s.words; allowance = a })) (omega arith)
played_whole l s (g ∷ gs) so on h =
    let ends = ends_of l g.0 g.1 on.0.coupler so on.0.joins in
    let low : g.1 < 64 = let a = ends.to in let b = so.at_most_64 in omega arith in
    let again : gate_of (entry g) ≡ g = rereads g low in
    let enough = le-leb 1 s.allowance (omega arith) in
    let free : cnot_fault l s g.0 g.1 ≡ None = on_coupler_obeys l s g so on.0 ∙ (rw enough refl) in
    ap (λ (x : Gate). onward (cnot_fault l s x.0 x.1) (outcome l (played s x) (map entry gs)) s) again
    ∙ ap (λ (o : Option MachineFault). onward o (outcome l (played s g) (map entry gs)) s) free
    ∙ played_whole l (played s g) gs so on.1 (omega arith)
    ∙ ap (λ (a : ℕ). (Ok tt, record { service = s.service; words = replay gs (cnot g s.words); allowance = a })) (omega arith)

entries_again : (es : List ℕ) → map entry (map gate_of es) ≡ es
entries_again [] = refl
entries_again (e ∷ es) = ap₂ (λ (x : ℕ) (l : List ℕ). x ∷ l) (omega arith) (entries_again es)

-- gates on couplers within the allowance are played whole
pub all_played : (l : Layout) (m : Meaning) (es : List ℕ) → Sound l → OnCouplers l m.service (map gate_of es) → length es ≤ m.allowance
    → outcome l m es ≡ (Ok tt, replayed m (map gate_of es))
all_played l m es so on few =
    let many = length-map es gate_of in
    ap (outcome l m) (sym (entries_again es)) ∙ played_whole l m (map gate_of es) so on (omega arith)

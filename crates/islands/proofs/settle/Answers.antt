use Rattle.std.proofs.Common.{◌≡◌, ℕ, ◌+◌, ◌^◌, set, ap, ◌∙◌, arith}
use lib.Bits.{bit_xor}
use Rattle.parity.specs.Words.{entry}
use Rattle.parity.proofs.Masks.{set_from, clear_from}
use Rattle.islands.proofs.Gathering.{settled_none, settled_one, settled_two}
use Rattle.islands.proofs.settle.Goals as goal

pub returns-then-not-has : goal.returns-then-not-has
returns-then-not-has c =
    settled_none c.args.u c.args.p c.args.x c.args.k c.args.out.now (clear_from c.args.x c.args.u c.if-not-has.ensures)

pub returns-then-has : goal.returns-then-has
returns-then-has c =
    let u = c.args.u in
    let p = c.args.p in
    let x = c.args.x in
    let left : c.flip.result ≡ bit_xor x (2 ^ u) = c.flip.ensures.place c.requires.places.0 in
    let wrote : c.write_gate-end.new.out ≡ set c.args.out.now c.args.k (entry (u, p)) = c.write_gate-end.ensures.wrote in
    let counted : c.write_gate-end.result ≡ c.args.k + 1 = c.write_gate-end.ensures.counted in
    simp (left, wrote, counted)
    (settled_one u p x c.args.k c.args.out.now c.requires.apart c.requires.places.1 (omega arith)
    (set_from x u c.if-not-has.ensures) (set_from x p c.if-has.ensures))

pub returns-else-has : goal.returns-else-has
returns-else-has c =
    let u = c.args.u in
    let p = c.args.p in
    let x = c.args.x in
    let k = c.args.k in
    let left : c.flip-else-has-2.result ≡ bit_xor (bit_xor x (2 ^ p)) (2 ^ u) =
    c.flip-else-has-2.ensures.place c.requires.places.0 ∙ ap (λ (y : ℕ). bit_xor y (2 ^ u)) (c.flip-else-has.ensures.place c.requires.places.1) in
    let mid : c.write_gate-mid.result ≡ k + 1 = c.write_gate-mid.ensures.counted in
    let wrote : c.write_gate-end-else-has.new.out ≡ set (set c.args.out.now k (entry (p, u))) (k + 1) (entry (u, p)) =
    c.write_gate-end-else-has.ensures.wrote ∙ ap (λ (j : ℕ). set c.write_gate-mid.new.out j (entry (u, p))) mid ∙ ap (λ l. set l (k + 1) (entry (u, p))) c.write_gate-mid.ensures.wrote in
    let counted : c.write_gate-end-else-has.result ≡ k + 2 = c.write_gate-end-else-has.ensures.counted ∙ ap (λ (j : ℕ). j + 1) mid ∙ omega arith in
    simp (left, wrote, counted)
    (settled_two u p x k c.args.out.now c.requires.apart c.requires.places.0 c.requires.places.1 (omega arith)
    (set_from x u c.if-not-has.ensures) (clear_from x p c.if-has.ensures))

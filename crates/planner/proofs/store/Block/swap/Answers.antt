use Rattle.std.proofs.Common.{◌≡◌, length, None, Option, sym, ap, ◌∙◌, subst, arith}
use Rattle.chip.specs.Answers.{answered, kept}
use Rattle.chip.proofs.Answers.{answered_ok}
use Rattle.planner.specs.declared.fault.WireFault.{WireFault}
use Rattle.planner.specs.Blocks.{wire_fault, traded}
use Rattle.planner.specs.Views.{words_of, duals_of}
use Rattle.planner.proofs.Duality.{Dual, block_dual, traded_dual, two_wires, length_traded}
use Rattle.planner.proofs.store.Block.swap.Goals as goal

pub invariant_of-self : goal.invariant_of-self
invariant_of-self c =
    let s = c.args.self.now in
    let a = c.args.a in
    let b = c.args.b in
    let n = length (words_of s) in
    let free : wire_fault n a b ≡ None = answered_ok (wire_fault n a b) tt tt c.check_wires.result (subst (λ m. c.check_wires.result ≡ answered (wire_fault m a b) tt) c.len.ensures.value c.check_wires.ensures) c.in_ok-check_wires.was in
    let two = two_wires n a b free in
    let same : length c.exchange.new.words.items ≡ n = ap length c.exchange.ensures ∙ length_traded (words_of s) a b in
    let dual_same : length c.exchange-2.new.words.items ≡ n = ap length c.exchange-2.ensures ∙ length_traded (duals_of s) a b ∙ s.as_many in
    let d = traded_dual n (words_of s) (duals_of s) a b (block_dual s) (omega arith) (omega (arith, s.as_many)) two.0 two.1 two.2 in
    let e = subst (λ m. Dual m c.exchange.new.words.items c.exchange-2.new.words.items) (sym same)
    (subst (λ xs. Dual n xs c.exchange-2.new.words.items) (sym c.exchange.ensures) (subst (Dual n (traded a b (words_of s))) (sym c.exchange-2.ensures) d)) in
    record {
      as_many = dual_same ∙ sym same;
      some = omega (arith, s.some);
      few = omega (arith, s.few);
      words_below = e.words_below;
      duals_below = e.duals_below;
      paired = e.paired;
    }

pub returns : goal.returns
returns c =
    let s = c.args.self.now in
    let a = c.args.a in
    let b = c.args.b in
    let n = length (words_of s) in
    let free : wire_fault n a b ≡ None = answered_ok (wire_fault n a b) tt tt c.check_wires.result (subst (λ m. c.check_wires.result ≡ answered (wire_fault m a b) tt) c.len.ensures.value c.check_wires.ensures) c.in_ok-check_wires.was in
    record {
      answer = sym (ap (λ (o : Option WireFault). answered o tt) free);
      leaves = c.exchange.ensures ∙ sym (ap (λ (o : Option WireFault). kept o (traded a b (words_of s)) (words_of s)) free);
      same_size = ap length c.exchange.ensures ∙ length_traded (words_of s) a b;
    }

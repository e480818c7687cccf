use Rattle.std.proofs.Common.{◌≡◌, ℕ, ◌<◌, length, get_or, refl, sym, ap, ◌∙◌, subst, arith, get_or-take}
use Rattle.planner.specs.declared.store.Places.{Places}
use Rattle.planner.specs.Views.{places_of}
use Rattle.planner.proofs.Duality.{some_same}
use Rattle.planner.proofs.store.Places.new.Goals as goal

pub invariant_of-result : goal.invariant_of-result
invariant_of-result c =
    let n = c.args.n in
    let long = c.truncate.ensures.len in
    let all = c.from-at.ensures.1 in
    let new = c.truncate.new.self.items in
    let each : length new ≡ n = omega arith in
    let at : (w : ℕ) → w < n → get_or new w 0 ≡ w =
    λ w h. ap (λ l. get_or l w 0) c.truncate.ensures.items ∙ get_or-take n c.from-at.result.items w 0 h ∙ ap (λ l. get_or l w 0) c.from-at.ensures.0 ∙ c.own_numbers.ensures w (omega arith) in
    record {
      some = omega arith;
      few = omega arith;
      placed = record {
        one_each = refl;
        below = λ w h. let e = at w (omega arith) in omega arith;
        apart = λ v w hv hw e. sym (at v (omega arith)) ∙ e ∙ at w (omega arith);
      };
    }

pub returns : goal.returns
returns c = record {
  some = λ p e. subst (λ (z : Places). (length (places_of z) ≡ c.args.n) × ((w : ℕ) → w < c.args.n → get_or (places_of z) w 0 ≡ w)) (some_same e) (
    omega (arith, c.truncate.ensures.len, c.from-at.ensures.1),
    (λ w h. ap (λ l. get_or l w 0) c.truncate.ensures.items ∙ get_or-take c.args.n c.from-at.result.items w 0 h
        ∙ ap (λ l. get_or l w 0) c.from-at.ensures.0 ∙ c.own_numbers.ensures w (omega arith)),
  );
  none = λ e. absurd cc;
}

use Rattle.std.proofs.Common.{◌≡◌, ℕ, ◌<◌, ◌≤◌, ◌↔◌, length, Err, ◌∙◌, subst}
use Rattle.machine.specs.OnCoupler.{OnCoupler}
use Rattle.planner.specs.declared.fault.PlanFault.TheVariants.{SizeMismatch, BufferTooShort, Unreachable}
use Rattle.planner.specs.Plans.{room, PlanIn, NoPlan}
use Rattle.planner.specs.Views.{neighbours_of, words_of, places_of, SizesAre}
use Rattle.planner.proofs.Couplers.{plan_over, none_over, some_over}
use Rattle.planner.proofs.plan.plan_over.Goals as goal

pub returns : goal.returns
returns g c =
    let l = g.M.Chip.layout c.args.machine.now in
    let service = (g.M.Machine.meaning c.args.machine.now).service in
    let a = c.args.adjacency.now in
    let b = c.args.block.now in
    let p = c.args.places.now in
    let before = c.args.out.now in
    let after = c.plan.new.out in
    let s = c.requires.shows in
    let e = c.plan.ensures in
    let same = s.places in
    let n = length (neighbours_of a) in
    let no = none_over l service (neighbours_of a) n (words_of b) (places_of p) s in
    record {
      planned = λ q z. (let t = e.planned q z in (
        t.0 ∙ same,
        subst (λ (n : ℕ). PlanIn (OnCoupler l service) n (words_of b) (places_of p) before after q.gates (places_of q.places)) same
            (plan_over l service (neighbours_of a) n (words_of b) (places_of p) before after q.gates (places_of q.places) s t.1),
      ));
      unreachable_exactly = subst (λ (n : ℕ). (c.plan.result ≡ Err Unreachable) ↔ (SizesAre n b p × (room n ≤ length before) × NoPlan (OnCoupler l service) n (words_of b) (places_of p))) same
          ((λ z. let t = e.unreachable_exactly.0 z in (t.0, t.1, no.0 t.2)), (λ t. e.unreachable_exactly.1 (t.0, t.1, no.1 t.2)));
      needs_two_islands = λ z. some_over l service (neighbours_of a) (words_of b) (places_of p) s (e.needs_two_islands z);
      short_exactly = λ needed. subst (λ (n : ℕ). (c.plan.result ≡ Err (BufferTooShort needed)) ↔ (SizesAre n b p × (length before < room n) × (needed ≡ room n))) same (e.short_exactly needed);
      mismatch_exactly = subst (λ (n : ℕ). (c.plan.result ≡ Err SizeMismatch) ↔ (SizesAre n b p → ⊥)) same e.mismatch_exactly;
      refused_untouched = e.refused_untouched;
    }

use Rattle.std.proofs.Common.{◌≡◌, ℕ, ◌≤◌, length, Some, None, Option, Ok, Err, sym, refl, ◌∙◌, subst, arith}
use Rattle.std.specs.Option.{ok_or}
use Rattle.parity.specs.Entries.{gates_in}
use Rattle.planner.specs.declared.fault.PlanFault.TheVariants.{Unreachable}
use Rattle.planner.specs.declared.fault.PlanFault.{PlanFault}
use Rattle.planner.specs.declared.plan.Planned.{Planned}
use Rattle.planner.specs.Plans.{room}
use Rattle.planner.specs.Views.{neighbours_of, places_of, SizesAre}
use Rattle.planner.proofs.plan.plan.Goals as goal

pub plan_sized-requires : goal.plan_sized-requires
plan_sized-requires c =
    record {
      sizes = (omega arith, omega arith);
      room = subst (λ (m : ℕ). room m ≤ length c.args.out.now) c.places-n.ensures c.if-out-needed.false;
    }

some_plan : {A F : Type 0} (r : Option A) (f : F) (p : A) → ok_or r f ≡ Ok p → r ≡ Some p
some_plan (Some q) f p e = cc
some_plan None f p e = absurd cc

no_plan : {A F : Type 0} (r : Option A) (f g : F) → ok_or r f ≡ Err g → (r ≡ None) × (g ≡ f)
no_plan (Some q) f g e = absurd cc
no_plan None f g e = (refl, cc)

refused_if_none : (r : Option Planned) → ((p : Planned) → r ≡ Some p → ⊥) → ok_or r Unreachable ≡ Err Unreachable
refused_if_none (Some p) never = absurd (never p refl)
refused_if_none None never = refl

pub returns : goal.returns
returns c =
    let n = length (neighbours_of c.args.adjacency.now) in
    let sizes : SizesAre n c.args.block.now c.args.places.now = (omega arith, omega arith) in
    let enough : room n ≤ length c.args.out.now = subst (λ (m : ℕ). room m ≤ length c.args.out.now) c.places-n.ensures c.if-out-needed.false in
    let value = c.ok_or.ensures.value in
    let refused : (f : PlanFault) → c.ok_or.result ≡ Err f → (c.plan_sized.result ≡ None) × (f ≡ Unreachable) =
    λ f e. no_plan c.plan_sized.result Unreachable f (sym value ∙ e) in
    record {
      planned = λ p e. c.plan_sized.ensures.planned p (some_plan c.plan_sized.result Unreachable p (sym value ∙ e));
      unreachable_exactly = (
        (λ e. (sizes, enough, c.plan_sized.ensures.unreachable (refused Unreachable e).0)),
        (λ t. value ∙ refused_if_none c.plan_sized.result (λ p e. t.2 (gates_in c.plan_sized.new.out 0 p.gates) (places_of p.places) (c.plan_sized.ensures.planned p e).1.reaches)),
      );
      needs_two_islands = λ e. c.plan_sized.ensures.needs_two_islands (refused Unreachable e).0;
      short_exactly = λ needed. ((λ e. absurd (let k = (refused _ e).1 in cc)), (λ t. absurd (let h = t.1 in omega arith)));
      mismatch_exactly = ((λ e. absurd (let k = (refused _ e).1 in cc)), (λ no. absurd (no sizes)));
      refused_untouched = λ f e. c.plan_sized.ensures.untouched (refused f e).0;
    }

-- What a flush has once a plan stands in the buffer.
use Rattle.std.specs.Prelude.{◌≡◌, ℕ, ◌≤◌, true, List, length}
use Rattle.planner.specs.Plans.{room}
use Rattle.planner.specs.Views.{places_of}
use Rattle.planner.specs.declared.plan.Planned.{Planned}
use Rattle.session.specs.State.{State, sized}
use Rattle.session.specs.Flushes.{HasPlan}

pub record PlannedFor (s : State) (before after : List ℕ) (p : Planned) : Type 0 where
  pub size : sized s ≡ true
  pub long_enough : room s.session.places ≤ length before
  pub plan : HasPlan s before after p.gates (places_of p.places)
  pub wires : length (places_of p.places) ≡ s.session.places

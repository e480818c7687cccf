use Rattle.rounds.proofs.Keeping.{Kept}
use Rattle.rounds.proofs.plan.Given as goal

abbrev pub invariant-loop-w : goal.invariant-loop-w
invariant-loop-w l =
    Kept l.adj l.initial.wanted l.initial.duals l.initial.out l.live l.waiting l.wanted l.duals l.out l.at

abbrev pub decreases-loop-w : goal.decreases-loop-w
decreases-loop-w l = l.waiting

use Rattle.parity.specs.Pairing.{turned}
use Rattle.parity.specs.Entries.{gates_in}
use Rattle.rounds.specs.Duals.{Moved}
use Rattle.rounds.proofs.round.carry.Given as goal

abbrev pub invariant-loop-e : goal.invariant-loop-e
invariant-loop-e l =
    Moved (gates_in l.entries 0 l.e-index) l.initial.straight l.straight
    × Moved (turned (gates_in l.entries 0 l.e-index)) l.initial.reversed l.reversed

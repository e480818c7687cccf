use Rattle.std.proofs.Common.{◌≡◌, drop}
use Rattle.parity.specs.Pairing.{turned}
use Rattle.parity.specs.Entries.{gates_in}
use Rattle.rounds.proofs.round.turn.Given as goal

abbrev pub invariant-loop-e : goal.invariant-loop-e
invariant-loop-e l =
    (drop l.e-index l.entries ≡ drop l.e-index l.initial.entries)
    × (gates_in l.entries 0 l.e-index ≡ turned (gates_in l.initial.entries 0 l.e-index))

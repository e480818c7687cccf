use Rattle.std.proofs.Common.{◌≡◌, map, drop}
use Rattle.parity.specs.Words.{gate_of, replay}
use Rattle.parity.proofs.replay_entries.Given as goal

abbrev pub invariant-loop-e : goal.invariant-loop-e
invariant-loop-e l = replay (map gate_of l.entries) l.initial.words ≡ replay (map gate_of (drop l.e-index l.entries)) l.words

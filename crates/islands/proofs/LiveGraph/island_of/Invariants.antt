use Rattle.std.proofs.Common.{◌≡◌, ℕ, ◌-◌, ◌^◌, ◌<◌, length, get_or}
use Rattle.parity.specs.Sets.{bit}
use Rattle.islands.specs.Graphs.{Reach}
use Rattle.islands.proofs.LiveGraph.island_of.Given as goal

-- what is seen is reached, and the live neighbours of what is done are seen
abbrev pub invariant-loop-q : goal.invariant-loop-q
invariant-loop-q l =
    (l.seen < 2 ^ length l.self.rows.now)
    × (bit l.seen l.start ≡ 1)
    × ((q : ℕ) → bit l.seen q ≡ 1 → Reach l.self.rows.now l.self.live l.start q)
    × (l.done < 2 ^ 64)
    × ((q r : ℕ) → bit l.done q ≡ 1 → bit (get_or l.self.rows.now q 0) r ≡ 1 → bit l.self.live r ≡ 1 → bit l.seen r ≡ 1)

abbrev pub decreases-loop-q : goal.decreases-loop-q
decreases-loop-q l = 2 ^ 64 - l.done

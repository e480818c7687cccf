-- What is reached.
use Rattle.std.proofs.Common.{◌≡◌, ℕ, List, get_or}
use Rattle.parity.specs.Sets.{bit}
use Rattle.islands.specs.Graphs.{Reach, here, there}

-- a set with s in it, and with each live neighbour of its places, has all that is reached from s
pub reach_closed : (adj : List ℕ) (live s seen : ℕ) → bit seen s ≡ 1
    → ((q r : ℕ) → bit seen q ≡ 1 → bit (get_or adj q 0) r ≡ 1 → bit live r ≡ 1 → bit seen r ≡ 1)
    → {q : ℕ} → Reach adj live s q → bit seen q ≡ 1
reach_closed adj live s seen h c here = h
reach_closed adj live s seen h c (there {q} {r} p a b) = c q r (reach_closed adj live s seen h c p) a b

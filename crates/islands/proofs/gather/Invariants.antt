use Rattle.std.proofs.Common.{◌≡◌, length, take, drop}
use Rattle.islands.proofs.Gathering.{Gathering}
use Rattle.islands.proofs.gather.Given as goal

-- the places that are left are the first after the root
abbrev pub invariant-loop-u : goal.invariant-loop-u
invariant-loop-u l =
    let left = l.u-iterator.iter.rest.now in
    (left ≡ take (length left) (drop 1 l.order)) × Gathering l.order l.parent l.word l.initial.out l.out l.at l.k (length left) l.x

use Rattle.std.proofs.Common.{◌≡◌, ◌≤◌, replicate, None, vec_items, vec_len, vec_capacity}
use Rattle.closing.proofs.slots.add_empty.Given as goal

abbrev pub invariant-loop : goal.invariant-loop
invariant-loop l = (vec_items l.slots ≡ replicate l.counter None) × (vec_len l.slots ≡ l.counter) × (l.n ≤ vec_capacity l.slots)

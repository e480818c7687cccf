-- Reaching places, and ways.
use Rattle.std.proofs.Common.{◌≡◌, ℕ, ◌^◌, ◌<◌, List, length, ◌∙◌, subst}
use lib.Bits.{bit_xor}
use Rattle.parity.specs.Sets.{bit}
use Rattle.parity.proofs.Bits.{flip_other}
use Rattle.islands.specs.Graphs.{Reach, here, there}
use Rattle.rounds.specs.Ways.{Graph, Way, stay, step, OneIsland}

pub reach_trans : {adj : List ℕ} {live a b c : ℕ} → Reach adj live a b → Reach adj live b c → Reach adj live a c
reach_trans p here = p
reach_trans p (there q e l) = there (reach_trans p q) e l

pub reach_live : {adj : List ℕ} {live a b : ℕ} → bit live a ≡ 1 → Reach adj live a b → bit live b ≡ 1
reach_live h here = h
reach_live h (there p e l) = l

pub reach_back : {adj : List ℕ} {live a b : ℕ} → Graph adj → bit live a ≡ 1 → Reach adj live a b → Reach adj live b a
reach_back g h here = here
reach_back g h (there {q} {r} p e l) = reach_trans (there here (g.both q r e) (reach_live h p)) (reach_back g h p)

-- a way that does not come to r goes on without it
pub reach_past : {adj : List ℕ} {live a b : ℕ} (x : ℕ) → Graph adj → bit live a ≡ 1 → (Reach adj live x a → ⊥)
    → Reach adj live a b → Reach adj (bit_xor live (2 ^ x)) a b
reach_past x g h out here = here
reach_past {adj} {live} {a} x g h out (there {q} {r} p e l) =
    there (reach_past x g h out p) e
    (flip_other live x r (λ z. out (reach_back g h (subst (Reach adj live a) z (there p e l)))) ∙ l)

-- with each place alive
pub reach_way : {adj : List ℕ} {live a b : ℕ} → Reach adj live a b → Way adj a b
reach_way here = stay
reach_way (there p e l) = step (reach_way p) e

pub way_reach : {adj : List ℕ} {live a b : ℕ} → Graph adj → ((q : ℕ) → q < length adj → bit live q ≡ 1) → Way adj a b → Reach adj live a b
way_reach g all stay = here
way_reach g all (step {q} {r} p e) = there (way_reach g all p) e (all r (g.below q r e))

pub way_trans : {adj : List ℕ} {a b c : ℕ} → Way adj a b → Way adj b c → Way adj a c
way_trans p stay = p
way_trans p (step q e) = step (way_trans p q) e

pub way_back : {adj : List ℕ} {a b : ℕ} → Graph adj → Way adj a b → Way adj b a
way_back g stay = stay
way_back g (step {q} {r} p e) = way_trans (step stay (g.both q r e)) (way_back g p)

-- in a larger word the same ways go
pub reach_more : {adj : List ℕ} {small large a b : ℕ} → ((q : ℕ) → bit small q ≡ 1 → bit large q ≡ 1) → Reach adj small a b → Reach adj large a b
reach_more h here = here
reach_more h (there {q} {r} p e l) = there (reach_more h p) e (h r l)

-- a set whose places are all reached from one lies on one island
pub one_island_from : (adj : List ℕ) (live start x : ℕ) → Graph adj → ((q : ℕ) → bit x q ≡ 1 → Reach adj live start q) → OneIsland adj x
one_island_from adj live start x g all p q a b = way_trans (way_back g (reach_way (all p a))) (reach_way (all q b))

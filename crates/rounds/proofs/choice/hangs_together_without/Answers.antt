use Rattle.std.proofs.Common.{◌≡◌, ◌≢◌, ℕ, ◌^◌, ◌<◌, ◌≤◌, length, sym, ap, ◌∙◌, lt_of_lt_of_le}
use lib.Bits.{bit_xor}
use Rattle.std.proofs.lemmas.Bool.{eqb-true}
use Rattle.parity.specs.Sets.{bit}
use Rattle.parity.proofs.Bits.{zero_one, bit_none, bit_pow_same, bit_pow_other, place_below, flip_other}
use Rattle.parity.proofs.Counts.{below_all}
use Rattle.islands.specs.Graphs.{Reach}
use Rattle.rounds.proofs.Ways.{reach_trans, reach_back, reach_more}
use Rattle.rounds.proofs.choice.hangs_together_without.Goals as goal

-- the places of the island but r, taken away as a set of one place
abbrev Without : (live one rest : ℕ) → Type 0
Without live one rest = ((q : ℕ) → bit rest q ≡ 1 → (bit live q ≡ 1) × (bit one q ≡ 0)) × ((q : ℕ) → bit live q ≡ 1 → bit one q ≡ 0 → bit rest q ≡ 1)

-- the other places are left
left : (live one rest r q : ℕ) → one ≡ 2 ^ r → Without live one rest → q ≢ r → bit live q ≡ 1 → bit rest q ≡ 1
left live one rest r q e w n o = w.1 q o (ap (λ z. bit z q) e ∙ bit_pow_other r q n)

-- no more is left than the other places
no_more : (live one rest r q : ℕ) → one ≡ 2 ^ r → Without live one rest → bit rest q ≡ 1 → bit (bit_xor live (2 ^ r)) q ≡ 1
no_more live one rest r q e w o =
    let there = w.0 q o in
    flip_other live r q (λ s. zero_one (bit one q) there.1 (ap (λ z. bit z q) e ∙ ap (λ z. bit (2 ^ z) q) (sym s) ∙ bit_pow_same q)) ∙ there.0

-- a place of an island is below 64
low : (n live r : ℕ) → n ≤ 64 → live < 2 ^ n → bit live r ≡ 1 → r < 64
low n live r small inside has = lt_of_lt_of_le (place_below n live r inside has) small

pub invariant_of-others : goal.invariant_of-others
invariant_of-others c = record {
  small = c.args.island.now.small;
  inside = below_all (length c.args.island.now.rows.now) c.without-rest.result
      (λ q o. place_below (length c.args.island.now.rows.now) c.args.island.now.live q c.args.island.now.inside (c.without-rest.ensures.only q o).0);
}

pub island_of-requires : goal.island_of-requires
island_of-requires c =
    place_below (length c.args.island.now.rows.now) c.args.island.now.live c.in-Some.q c.args.island.now.inside
    (c.without-rest.ensures.only c.in-Some.q c.in-Some.ensures.inside).0

pub returns-in-None : goal.returns-in-None
returns-in-None c _ _ has x y nx ny a b =
    let rest = c.without-rest.result in
    let one = c.single.ensures.place (low (length c.args.island.now.rows.now) c.args.island.now.live c.args.r c.args.island.now.small c.args.island.now.inside has) in
    zero_one (bit rest x) (ap (λ z. bit z x) c.in-None.ensures ∙ bit_none x)
    (left c.args.island.now.live c.single.result rest c.args.r x one (c.without-rest.ensures.only, c.without-rest.ensures.all) nx a)

pub returns-in-Some : goal.returns-in-Some
returns-in-Some c e graph has x y nx ny a b =
    let live = c.args.island.now.live in
    let adj = c.args.island.now.rows.now in
    let r = c.args.r in
    let rest = c.without-rest.result in
    let w : Without live c.single.result rest = (c.without-rest.ensures.only, c.without-rest.ensures.all) in
    let one = c.single.ensures.place (low (length adj) live r c.args.island.now.small c.args.island.now.inside has) in
    let same : c.island_of.result ≡ rest = eqb-true c.island_of.result rest (sym c.found_all.ensures ∙ e) in
    let at : (q : ℕ) → (q ≢ r) → bit live q ≡ 1 → Reach adj rest c.in-Some.q q =
    λ q n o. c.island_of.ensures.only_reached q (ap (λ z. bit z q) same ∙ left live c.single.result rest r q one w n o) in
    reach_more (λ q o. no_more live c.single.result rest r q one w o)
    (reach_trans (reach_back graph c.in-Some.ensures.inside (at x nx a)) (at y ny b))

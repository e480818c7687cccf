use Rattle.std.proofs.Common.{◌≡◌, ℕ, ◌-◌, ◌^◌, ◌<◌, length, sym, ap, ◌∙◌, subst}
use lib.Bits.{bit_and}
use Rattle.parity.specs.Sets.{bit}
use Rattle.parity.proofs.Bits.{zero_one, bit_none, place_below, set_unless}
use Rattle.parity.proofs.Counts.{some_place}
use Rattle.parity.proofs.Masks.{and_in, and_parts}
use Rattle.rounds.proofs.Ways.{way_reach, one_island_from}
use Rattle.rounds.proofs.Costs.{all_below_has, all_below_low}
use Rattle.rounds.proofs.looks.straddles.Goals as goal

-- every place below n is in the set of all places below n
has_all : (n live q : ℕ) → live ≡ 2 ^ n - 1 → q < n → bit live q ≡ 1
has_all n live q e h = ap (λ (x : ℕ). bit x q) e ∙ all_below_has n q h

pub island_of-requires : goal.island_of-requires
island_of-requires c =
    let n = length c.args.graph.now.rows.now in
    let live = c.args.graph.now.live in
    let low : live < 2 ^ n = subst (λ (x : ℕ). x < 2 ^ n) (sym c.requires.all_live) (all_below_low n) in
    place_below n live c.in-Some.q low (and_parts c.args.x live c.in-Some.q c.in-Some.ensures.inside).1

pub returns-in-Some-clause-yes : goal.returns-in-Some-clause-yes
returns-in-Some-clause-yes c e _ =
    let n = length c.args.graph.now.rows.now in
    let live = c.args.graph.now.live in
    let far = some_place c.off_island.result (c.any.ensures.yes e) in
    let two = c.off_island.ensures.only far.0 far.1 in
    record {
      from = c.in-Some.q;
      to = far.0;
      has_from = (and_parts c.args.x live c.in-Some.q c.in-Some.ensures.inside).0;
      has_to = (and_parts c.args.x live far.0 two.0).0;
      no_way = λ way. zero_one (bit c.island_of.result far.0) two.1
          (c.island_of.ensures.all_reached far.0 (way_reach c.requires.graph (λ q h. has_all n live q c.requires.all_live h) way));
    }

pub returns-in-Some-clause-no : goal.returns-in-Some-clause-no
returns-in-Some-clause-no c e low =
    let n = length c.args.graph.now.rows.now in
    let x = c.args.x in
    let live = c.args.graph.now.live in
    let isl = c.island_of.result in
    let none = c.any.ensures.no e in
    one_island_from c.args.graph.now.rows.now live c.in-Some.q x c.requires.graph
    (λ q o. c.island_of.ensures.only_reached q (set_unless isl q (λ z.
    zero_one (bit c.off_island.result q) (ap (λ (y : ℕ). bit y q) none ∙ bit_none q)
    (c.off_island.ensures.all q (and_in x live q o (has_all n live q c.requires.all_live (place_below n x q low o))) z))))

pub returns-in-None-clause-no : goal.returns-in-None-clause-no
returns-in-None-clause-no c _ low p _ a _ =
    let n = length c.args.graph.now.rows.now in
    let live = c.args.graph.now.live in
    zero_one (bit (bit_and c.args.x live) p) (ap (λ (y : ℕ). bit y p) c.in-None.ensures ∙ bit_none p)
    (and_in c.args.x live p a (has_all n live p c.requires.all_live (place_below n c.args.x p low a)))

use Rattle.std.proofs.Common.{◌≡◌, ℕ, ◌^◌, ◌<◌, List, map, length, get_or, sym, ap, ◌∙◌, subst, arith}
use Rattle.std.proofs.lemmas.List.{length-map}
use Rattle.parity.specs.Placements.{wires_to_places}
use Rattle.rounds.specs.Ways.{Graph, OneIsland}
use Rattle.rounds.specs.Exactness.{FirstStraddling}
use Rattle.planner.specs.Views.{neighbours_of, words_of, places_of, SizesAre}
use Rattle.planner.proofs.Asking.{words_below, placed}
use Rattle.planner.proofs.Planning.{wanted_below}
use Rattle.planner.proofs.reason.first_sized.Goals as goal

pub first_straddling-requires : goal.first_straddling-requires
first_straddling-requires c =
    let a = c.args.adjacency.now in
    let b = c.args.block.now in
    let p = c.args.places.now in
    let same = c.as_slice.ensures.value in
    let n = length c.as_slice.result.now in
    let s : SizesAre n b p = subst (λ (l : List ℕ). SizesAre (length l) b p) (sym same) c.requires.sizes in
    let e = c.as_slice-2.ensures.value ∙ c.carry_to_places-wanted.ensures ∙ ap (map (wires_to_places (places_of p))) c.words.ensures in
    record {
      small = omega arith;
      graph = subst Graph (sym same) a.graph;
      below = λ w. subst (λ (l : List ℕ). get_or l w 0 < 2 ^ n) (sym e) (wanted_below n (words_of b) (places_of p) (placed n b p s) (words_below n b p s) w);
    }

pub returns : goal.returns
returns c =
    let a = c.args.adjacency.now in
    let b = c.args.block.now in
    let p = c.args.places.now in
    let same = c.as_slice.ensures.value in
    let sets = c.as_slice-2.result.now in
    let wanted = map (wires_to_places (places_of p)) (words_of b) in
    let e : sets ≡ wanted = c.as_slice-2.ensures.value ∙ c.carry_to_places-wanted.ensures ∙ ap (map (wires_to_places (places_of p))) c.words.ensures in
    let all : length sets ≡ length (neighbours_of a) = ap length e ∙ length-map (words_of b) (wires_to_places (places_of p)) ∙ c.requires.sizes.0 in
    record {
      first = λ w z. subst (λ (adj : List ℕ). FirstStraddling adj wanted w) same (subst (λ (l : List ℕ). FirstStraddling c.as_slice.result.now l w) e (c.first_straddling.ensures.straddles w z));
      none = λ z w h. subst (λ (adj : List ℕ). OneIsland adj (get_or wanted w 0)) same
          (subst (λ (l : List ℕ). OneIsland c.as_slice.result.now (get_or l w 0)) e (c.first_straddling.ensures.none z w (omega (arith, all))));
    }

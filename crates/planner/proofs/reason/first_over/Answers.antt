use Rattle.std.proofs.Common.{◌≡◌, ℕ, ◌<◌, map, length, get_or, sym, ◌∙◌, subst, arith}
use Rattle.std.proofs.lemmas.List.{length-map}
use Rattle.parity.specs.Placements.{wires_to_places}
use Rattle.rounds.specs.Ways.{OneIsland, Straddles}
use Rattle.planner.specs.Views.{neighbours_of, words_of, places_of, SizesAre}
use Rattle.planner.proofs.Asking.{words_below, placed}
use Rattle.planner.proofs.Planning.{wanted_at}
use Rattle.planner.proofs.Couplers.{straddles_over, one_island_over}
use Rattle.planner.proofs.reason.first_over.Goals as goal

pub first_sized-requires : goal.first_sized-requires
first_sized-requires g c =
    record {
      sizes = (omega (arith, c.wires.ensures, c.places-n.ensures), omega (arith, c.wires-else-wires-n.ensures, c.places-n.ensures));
    }

pub returns : goal.returns
returns g c =
    let l = g.M.Chip.layout c.args.machine.now in
    let service = (g.M.Machine.meaning c.args.machine.now).service in
    let b = c.args.block.now in
    let p = c.args.places.now in
    let adj = neighbours_of c.args.adjacency.now in
    let shows = c.requires.shows in
    let sizes : SizesAre (length adj) b p = (sym c.wires.ensures ∙ c.if-wires-n.false ∙ c.places-n.ensures, sym c.wires-else-wires-n.ensures ∙ c.if-wires-n-2.false ∙ c.places-n.ensures) in
    let same : length (map (wires_to_places (places_of p)) (words_of b)) ≡ l.places = length-map (words_of b) (wires_to_places (places_of p)) ∙ sizes.0 ∙ shows.places in
    let at = wanted_at (length adj) (words_of b) (places_of p) (placed (length adj) b p sizes) (words_below (length adj) b p sizes) in
    record {
      first = λ w z. (let t = c.first_sized.ensures.first w z in record {
        below = subst (λ (m : ℕ). w < m) same t.below;
        on_two = straddles_over l service adj (wires_to_places (places_of p) (get_or (words_of b) w 0)) shows (subst (Straddles adj) (at w) t.straddles);
        before = λ v h. one_island_over l service adj (wires_to_places (places_of p) (get_or (words_of b) v 0)) shows (subst (OneIsland adj) (at v) (t.before v h));
      });
      none = λ z t w h. one_island_over l service adj (wires_to_places (places_of p) (get_or (words_of b) w 0)) shows
          (subst (OneIsland adj) (at w) (c.first_sized.ensures.none z w (subst (λ (m : ℕ). w < m) (sym shows.places) h)));
    }

-- The start and the end of a plan.
use Rattle.std.proofs.Common.{◌≡◌, ℕ, ◌+◌, ◌-◌, ◌*◌, ◌^◌, ◌<◌, ◌≤◌, List, length, get_or, sym, refl, ap, ◌∙◌, subst, zero-le, arith}
use lib.Count.{ones}
use Rattle.parity.specs.Words.{Gate, replay}
use Rattle.parity.specs.Sets.{bit, xor_over}
use Rattle.parity.specs.Gates.{acts, TwoPlaces, Each}
use Rattle.parity.specs.Pairing.{turned}
use Rattle.parity.specs.Entries.{gates_in}
use Rattle.parity.proofs.Bits.{zero_one, bit_none, bit_pow_same, place_below, place_is}
use Rattle.parity.proofs.Counts.{ones_pow, single_place}
use Rattle.parity.proofs.Xors.{get_d_map_zero}
use Rattle.parity.proofs.Each.{each_map, each_turned}
use Rattle.parity.proofs.Gates.{acts_none, acts_below, single_places_deliver}
use Rattle.parity.proofs.Entries.{gates_in_none}
use Rattle.islands.specs.Graphs.{OnEdge}
use Rattle.rounds.specs.Ways.{Graph, Way, stay, OneIsland, Straddles}
use Rattle.rounds.specs.Duals.{Moved, Paired}
use Rattle.rounds.specs.Plans.{OwnPlaces, Busy, AllSingle, Planned}
use Rattle.rounds.specs.Exactness.{Reachable, Refused, Exact}
use Rattle.rounds.proofs.Moving.{moved_map}
use Rattle.rounds.proofs.Ways.{way_reach}
use Rattle.rounds.proofs.Costs.{all_below_has, all_below_low}
use Rattle.rounds.proofs.Straddling.{straddling_never_single, edge_two_places}
use Rattle.rounds.proofs.Filling.{duals_same}
use Rattle.rounds.proofs.Standing.{Standing, paired_apart}
use Rattle.rounds.proofs.Keeping.{Kept}

single_one_island : (adj : List ℕ) (x : ℕ) → ones x ≡ 1 → OneIsland adj x
single_one_island adj x h p q a b =
    let s = single_place x h in
    let ep : s.0 ≡ p = place_is s.0 p (ap (λ (y : ℕ). bit y p) (sym s.1) ∙ a) in
    let eq : s.0 ≡ q = place_is s.0 q (ap (λ (y : ℕ). bit y q) (sym s.1) ∙ b) in
    subst (Way adj p) (sym ep ∙ eq) stay

-- before the first round
pub start_standing : (adj A B : List ℕ) (live : ℕ) → live ≡ 2 ^ length adj - 1 → Graph adj → ((w : ℕ) → get_or A w 0 < 2 ^ length adj)
    → Paired (length adj) A B → ((w : ℕ) → w < length adj → OneIsland adj (get_or A w 0)) → Standing adj live live A B
start_standing adj A B live e g low paired whole =
    let alive : (q : ℕ) → q < length adj → bit live q ≡ 1 = λ q h. ap (λ (x : ℕ). bit x q) e ∙ all_below_has (length adj) q h in
    let below : live < 2 ^ length adj = subst (λ (x : ℕ). x < 2 ^ length adj) (sym e) (all_below_low (length adj)) in
    record {
      paired = paired;
      alive = λ v o p b. alive p (place_below (length adj) (get_or A v 0) p (low v) b);
      on_island = λ v o p q a b. way_reach g alive (whole v (place_below (length adj) live v below o) p q a b);
      done = λ v h z. zero_one (bit live v) z (alive v h);
    }

acts_nothing : (out : List ℕ) (x : ℕ) → acts (gates_in out 0 0) x ≡ x
acts_nothing out x = ap (λ (gs : List Gate). acts gs x) (gates_in_none out 0)

-- what a plan brings to a place
delivers_from : (adj xs ys : List ℕ) (gs : List Gate) → Graph adj → Each (OnEdge adj) gs → Moved gs xs ys
    → (ws : List ℕ) → length ws ≡ length adj → (w p : ℕ) → get_or ys w 0 ≡ 2 ^ p → get_or (replay gs ws) p 0 ≡ xor_over ws (get_or xs w 0)
delivers_from adj xs ys gs h e m ws len w p l =
    single_places_deliver gs ws (get_or xs w 0) p
    (subst (λ (n : ℕ). Each (TwoPlaces n) gs) (sym len) (each_map (OnEdge adj) (TwoPlaces (length adj)) (edge_two_places adj h) gs e)) (sym (m w) ∙ l)

turned_nothing : (out : List ℕ) (x : ℕ) → acts (turned (gates_in out 0 0)) x ≡ x
turned_nothing out x = ap (λ (gs : List Gate). acts (turned gs) x) (gates_in_none out 0)

-- nothing to do
pub idle_planned : (adj xs ys out : List ℕ) → Graph adj → length xs ≡ length adj → length ys ≡ length adj
    → ((w : ℕ) → get_or xs w 0 < 2 ^ length adj) → ((w : ℕ) → get_or ys w 0 < 2 ^ length adj) → Paired (length adj) xs ys
    → AllSingle (length xs) xs → Planned adj xs xs ys ys out out 0
idle_planned adj xs ys out g len leny low lowy paired one =
    let each : AllSingle (length adj) xs = λ w h. one w (subst (λ (m : ℕ). w < m) (sym len) h) in
    let edges : Each (OnEdge adj) (gates_in out 0 0) = subst (Each (OnEdge adj)) (sym (gates_in_none out 0)) tt in
    let own : OwnPlaces (length adj) xs = record {
      single = λ w h. let s = single_place (get_or xs w 0) (each w h) in
          (s.0, place_below (length adj) (get_or xs w 0) s.0 (low w) (ap (λ (x : ℕ). bit x s.0) s.1 ∙ bit_pow_same s.0), s.1);
      apart = paired_apart (length adj) xs ys paired;
    } in
    record {
      one_island = λ w h. single_one_island adj (get_or xs w 0) (each w h);
      wrote = record { forward = zero-le; few = zero-le; front = refl; back = refl };
      on_edges = edges;
      on_busy_islands = subst (Each (λ h. Busy adj xs h.0)) (sym (gates_in_none out 0)) tt;
      moved = moved_map (gates_in out 0 0) xs xs refl (λ v. sym (acts_nothing out (get_or xs v 0)));
      duals_moved = moved_map (turned (gates_in out 0 0)) ys ys refl (λ v. sym (turned_nothing out (get_or ys v 0)));
      duals_are_sets = duals_same (length adj) xs ys len leny own paired lowy;
      own_places = own;
      delivers = delivers_from adj xs xs (gates_in out 0 0) g edges (λ v. sym (acts_nothing out (get_or xs v 0)));
      idle_only_single = λ _. each;
      single_idle = λ _. refl;
    }

-- after the last round
pub end_planned : (adj xs A ds B was out : List ℕ) (live waiting k : ℕ) → Graph adj → length xs ≡ length adj → length ds ≡ length adj
    → ((w : ℕ) → get_or ds w 0 < 2 ^ length adj) → length A ≡ length xs → length B ≡ length ds → waiting ≡ 0
    → Kept adj xs ds was live waiting A B out k
    → ((w : ℕ) → w < length adj → OneIsland adj (get_or xs w 0)) → (AllSingle (length adj) xs → k ≡ 0)
    → Planned adj xs A ds B was out k
end_planned adj xs A ds B was out live waiting k g lenx lends lowd len lend z kept whole rest =
    let s = kept.standing in
    let gs = gates_in out 0 k in
    let few : k ≤ 0 + 2 * (length adj * (length adj - 1)) = (let p = kept.paid in omega arith) in
    let done : (w : ℕ) → w < length adj → (p : ℕ) × (p < length adj) × (get_or A w 0 ≡ 2 ^ p) =
    λ w h. (let d = s.done w h (ap (λ (x : ℕ). bit x w) z ∙ bit_none w) in (d.0, d.1, d.3)) in
    let own : OwnPlaces (length adj) A = record { single = done; apart = paired_apart (length adj) A B s.paired } in
    let two : Each (TwoPlaces (length adj)) (turned gs) =
    each_turned (OnEdge adj) (TwoPlaces (length adj)) (λ h e. let f = edge_two_places adj g h e in record { apart = λ x. f.apart (sym x); from = f.to; to = f.from }) gs kept.on_edges in
    record {
      one_island = whole;
      wrote = record { forward = zero-le; few = few; front = refl; back = kept.back };
      on_edges = kept.on_edges;
      on_busy_islands = kept.on_busy_islands;
      moved = moved_map gs xs A len kept.moved;
      duals_moved = moved_map (turned gs) ds B lend kept.duals_moved;
      duals_are_sets = duals_same (length adj) A B (len ∙ lenx) (lend ∙ lends) own s.paired
          (λ w. subst (λ (x : ℕ). x < 2 ^ length adj) (sym (kept.duals_moved w)) (acts_below (length adj) (turned gs) (get_or ds w 0) two (lowd w)));
      own_places = own;
      delivers = delivers_from adj xs A gs g kept.on_edges kept.moved;
      idle_only_single = λ e w h.
          let d = done w h in
          ap ones (sym (acts_nothing out (get_or xs w 0)) ∙ ap (λ (m : ℕ). acts (gates_in out 0 m) (get_or xs w 0)) (sym e) ∙ sym (kept.moved w) ∙ d.2) ∙ ones_pow d.0;
      single_idle = rest;
    }

pub planned_reachable : (adj xs ys ds es was out : List ℕ) (k : ℕ) → Planned adj xs ys ds es was out k → Reachable adj xs
planned_reachable adj xs ys ds es was out k p =
    let at : (w : ℕ) → acts (gates_in out 0 k) (get_or xs w 0) ≡ get_or ys w 0 =
    λ w. sym (ap (λ (zs : List ℕ). get_or zs w 0) p.moved ∙ get_d_map_zero (acts (gates_in out 0 k)) (acts_none (gates_in out 0 k)) xs w) in
    record {
      gates = gates_in out 0 k;
      on_edges = p.on_edges;
      single = λ w h. let d = p.own_places.single w h in (d.0, d.1, at w ∙ d.2);
      apart = λ w v hw hv e. p.own_places.apart w v hw hv (sym (at w) ∙ e ∙ at v);
    }

pub planned_exact : (adj xs ys ds es was out : List ℕ) (k : ℕ) → Planned adj xs ys ds es was out k → Exact adj xs
planned_exact adj xs ys ds es was out k p = record { only = λ _. p.one_island; enough = λ _. planned_reachable adj xs ys ds es was out k p }

pub straddling_refused : (adj xs : List ℕ) → Graph adj → ((w : ℕ) × (w < length adj) × Straddles adj (get_or xs w 0)) → Refused adj xs
straddling_refused adj xs g s =
    record { wire = s; never = λ gs e l. let p = l s.0 s.1 in straddling_never_single adj (get_or xs s.0 0) gs p.0 g s.2 e p.1 }

pub refused_exact : (adj xs : List ℕ) → Refused adj xs → Exact adj xs
refused_exact adj xs r =
    let s = r.wire.2 in
    record {
      only = λ p. absurd (r.never p.gates p.on_edges (λ w h. let d = p.single w h in (d.0, d.2)));
      enough = λ whole. absurd (s.no_way (whole r.wire.0 r.wire.1 s.from s.to s.has_from s.has_to));
    }

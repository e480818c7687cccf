-- Plans for wanted sets are plans for the block.
use Rattle.std.proofs.Common.{◌≡◌, ℕ, ◌^◌, ◌<◌, ◌≤◌, List, map, length, get_or, sym, ap, ◌∙◌, subst, ap₂, arith}
use lib.Count.{ones}
use lib.Pow.{pow-lt}
use Rattle.parity.specs.Words.{Gate, fresh, replay}
use Rattle.parity.specs.Gates.{acts, TwoPlaces, Each}
use Rattle.parity.specs.Pairing.{dot}
use Rattle.parity.specs.Entries.{gates_in, Wrote}
use Rattle.parity.specs.Placements.{Placement, wires_to_places}
use Rattle.parity.proofs.Words.{length_fresh}
use Rattle.parity.proofs.Xors.{xor_over_none, xor_over_one, get_d_map_zero, fresh_xors_are_sets}
use Rattle.parity.proofs.Each.{each_map}
use Rattle.parity.proofs.Gates.{acts_below, xors_survive_gates, xors_tell_sets_apart}
use Rattle.parity.proofs.Placements.{places_below}
use Rattle.islands.specs.Graphs.{OnEdge}
use Rattle.rounds.specs.Ways.{Graph, Straddles}
use Rattle.rounds.specs.Duals.{Paired}
use Rattle.rounds.specs.Plans.{Planned, AllSingle}
use Rattle.rounds.specs.Exactness.{Refused}
use Rattle.rounds.proofs.Straddling.{edge_two_places}
use Rattle.planner.specs.Plans.{room, Renames, Reaches, NoPlan, PlanIn, Lowest}
use Rattle.planner.specs.Reasons.{SomeStraddles}
use Rattle.planner.proofs.Carrying.{pairing_carried, single_carried, carried_single}

module _ (n : ℕ) (words at : List ℕ) (p : Placement n at) (low : (w : ℕ) → w < n → get_or words w 0 < 2 ^ n) where
  -- what a wire wants
  pub wanted_at : (w : ℕ) → get_or (map (wires_to_places at) words) w 0 ≡ wires_to_places at (get_or words w 0)
  wanted_at w = get_d_map_zero (wires_to_places at) (xor_over_none (map (λ (q : ℕ). 2 ^ q) at)) words w

  pub wanted_below : (w : ℕ) → get_or (map (wires_to_places at) words) w 0 < 2 ^ n
  wanted_below w =
      subst (λ (x : ℕ). x < 2 ^ n) (sym (wanted_at w)) (places_below n at (get_or words w 0) (λ v h. p.below v (subst (λ (m : ℕ). v < m) p.one_each h)))

  pub wanted_paired : (duals : List ℕ) → Paired n words duals → Paired n (map (wires_to_places at) words) (map (wires_to_places at) duals)
  wanted_paired duals d =
      let dual_at : (w : ℕ) → get_or (map (wires_to_places at) duals) w 0 ≡ wires_to_places at (get_or duals w 0) =
      λ w. get_d_map_zero (wires_to_places at) (xor_over_none (map (λ (q : ℕ). 2 ^ q) at)) duals w in
      record {
        own = λ w h. ap₂ dot (wanted_at w) (dual_at w) ∙ pairing_carried n at p (get_or words w 0) (get_or duals w 0) (low w h) ∙ d.own w h;
        other = λ w v hw hv ne. ap₂ dot (wanted_at w) (dual_at v) ∙ pairing_carried n at p (get_or words w 0) (get_or duals v 0) (low w hw) ∙ d.other w v hw hv ne;
      }

  -- words with one bit are wanted sets with one place
  renames : AllSingle n (map (wires_to_places at) words) → Renames n words
  renames h w l = carried_single n at p (get_or words w 0) (low w l) (ap ones (sym (wanted_at w)) ∙ h w l)

  all_single : Renames n words → AllSingle n (map (wires_to_places at) words)
  all_single h w l = ap ones (wanted_at w) ∙ single_carried n at p (get_or words w 0) (low w l) (h w l)

  -- a plan for the wanted sets is one for the block
  pub planned_in : (adj ys ds es before after new : List ℕ) (k : ℕ) → length adj ≡ n → n ≤ 64 → length ys ≡ n → length new ≡ n
      → Planned adj (map (wires_to_places at) words) ys ds es before after k → Lowest ys new
      → PlanIn (OnEdge adj) n words at before after k new
  planned_in adj ys ds es before after new k len small leny each pl lo =
      let own : (w : ℕ) → w < n → (q : ℕ) × (q < n) × (get_or ys w 0 ≡ 2 ^ q) =
      λ w h. (let o = pl.own_places.single w (omega arith) in (o.0, omega (arith, o.1), o.2)) in
      let new_at : (w : ℕ) (h : w < n) → get_or new w 0 ≡ (own w h).0 =
      λ w h. lo.singles w (own w h).0 (omega arith) (omega (arith, (own w h).1)) (own w h).2 in
      record {
        wrote = subst (λ (m : ℕ). Wrote before after 0 k (room m)) len pl.wrote;
        reaches = record {
          on_couplers = pl.on_edges;
          placed = record {
            one_each = each;
            below = λ w h. subst (λ (q : ℕ). q < n) (sym (new_at w h)) (own w h).1;
            apart = λ v w hv hw e. pl.own_places.apart v w (omega arith) (omega arith)
                ((own v hv).2 ∙ ap (λ (q : ℕ). 2 ^ q) (sym (new_at v hv) ∙ e ∙ new_at w hw) ∙ sym (own w hw).2);
          };
          delivers = λ w h.
              ap (λ (q : ℕ). get_or (replay (gates_in after 0 k) (fresh n)) q 0) (new_at w h)
              ∙ pl.delivers (fresh n) (length_fresh n ∙ sym len) w (own w h).0 (own w h).2
              ∙ fresh_xors_are_sets n (get_or (map (wires_to_places at) words) w 0) (wanted_below w) ∙ wanted_at w;
        };
        idle_exactly = (
          (λ e. renames (subst (λ (m : ℕ). AllSingle m (map (wires_to_places at) words)) len (pl.idle_only_single e))),
          (λ r. pl.single_idle (subst (λ (m : ℕ). AllSingle m (map (wires_to_places at) words)) (sym len) (all_single r))),
        );
      }

  -- what delivers turns each wanted set into a single place
  pub delivered_single : (adj : List ℕ) (gs : List Gate) (new : List ℕ) → Graph adj → length adj ≡ n → Reaches (OnEdge adj) n words at gs new
      → (w : ℕ) → w < n → acts gs (get_or (map (wires_to_places at) words) w 0) ≡ 2 ^ get_or new w 0
  delivered_single adj gs new g len r w h =
      let x = get_or (map (wires_to_places at) words) w 0 in
      let two : Each (TwoPlaces n) gs = subst (λ (m : ℕ). Each (TwoPlaces m) gs) len (each_map (OnEdge adj) (TwoPlaces (length adj)) (edge_two_places adj g) gs r.on_couplers) in
      xors_tell_sets_apart n gs (acts gs (get_or (map (wires_to_places at) words) w 0)) (2 ^ get_or new w 0) two
      (acts_below n gs (get_or (map (wires_to_places at) words) w 0) two (wanted_below w)) (pow-lt (r.placed.below w h))
      (xors_survive_gates gs (fresh n) (get_or (map (wires_to_places at) words) w 0) (subst (λ (m : ℕ). Each (TwoPlaces m) gs) (sym (length_fresh n)) two)
      ∙ fresh_xors_are_sets n (get_or (map (wires_to_places at) words) w 0) (wanted_below w) ∙ wanted_at w
      ∙ sym (xor_over_one (replay gs (fresh n)) (get_or new w 0) ∙ r.delivers w h))

  -- so there is no plan where a set straddles
  pub refused_none : (adj : List ℕ) → Graph adj → length adj ≡ n → Refused adj (map (wires_to_places at) words) → NoPlan (OnEdge adj) n words at
  refused_none adj g len f gs new r =
      f.never gs r.on_couplers (λ w h. (get_or new w 0, delivered_single adj gs new g len r w (subst (λ (m : ℕ). w < m) len h)))

  -- and some word straddles
  pub refused_some : (adj : List ℕ) → Refused adj (map (wires_to_places at) words) → SomeStraddles adj words at
  refused_some adj f =
      let t = f.wire in
      record { wire = t.0; below = t.1; straddles = subst (Straddles adj) (wanted_at t.0) t.2 }

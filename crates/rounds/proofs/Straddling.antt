-- A set that straddles islands does so after any gates on edges.
use Rattle.std.proofs.Common.{◌≡◌, ℕ, ◌≢◌, List, [], ◌∷◌, length, get_or, sym, ap, ◌∙◌, subst, inl, inr}
use Rattle.std.proofs.lemmas.Bool.{cases_eq}
use Rattle.parity.specs.Words.{Gate}
use Rattle.parity.specs.Sets.{bit}
use Rattle.parity.specs.Gates.{act, acts, TwoPlaces, Each}
use Rattle.parity.proofs.Bits.{zero_one, bit_cases, place_is}
use Rattle.parity.proofs.Gates.{act_other, act_still}
use Rattle.islands.specs.Graphs.{OnEdge}
use Rattle.rounds.specs.Ways.{Graph, Way, stay, step}
use Rattle.rounds.specs.Exactness.{StraddlingStays, StraddlingNeverSingle}
use Rattle.rounds.proofs.Ways.{way_trans, way_back}

-- an edge, as it stands at its first place
edge_out : {adj : List ℕ} → Graph adj → (g : Gate) → OnEdge adj g → bit (get_or adj g.0 0) g.1 ≡ 1
edge_out h g (inl e) = e
edge_out h g (inr e) = h.both g.1 g.0 e

-- a gate on an edge keeps a set on the island of s that has a place there
act_keeps : {adj : List ℕ} → Graph adj → (s x : ℕ) (g : Gate) → OnEdge adj g → (a : ℕ) → bit x a ≡ 1 → Way adj s a → (b : ℕ) × (bit (act g x) b ≡ 1) × Way adj s b
act_keeps {adj} h s x g e a o w = elim (bit_cases x g.1) [
  | inl z ↦ (a, ap (λ (y : ℕ). bit y a) (act_still g x z) ∙ o, w)
  | inr i ↦ elim (cases_eq a g.0) [
    | inr n ↦ (a, act_other g x a n ∙ o, w)
    | inl k ↦
        let ne : g.1 ≢ g.0 = λ c. zero_one (bit (get_or adj g.0 0) g.1) (ap (bit (get_or adj g.0 0)) c ∙ h.loopless g.0) (edge_out h g e) in
        (g.1, act_other g x g.1 ne ∙ i, step (subst (Way adj s) k w) (edge_out h g e))
  ]
]

acts_keep : {adj : List ℕ} → Graph adj → (s x : ℕ) (gs : List Gate) → Each (OnEdge adj) gs → (a : ℕ) → bit x a ≡ 1 → Way adj s a
    → (b : ℕ) × (bit (acts gs x) b ≡ 1) × Way adj s b
acts_keep h s x [] e a o w = (a, o, w)
acts_keep h s x (g ∷ gs) e a o w =
    let k = act_keeps h s x g e.0 a o w in
    acts_keep h s (act g x) gs e.1 k.0 k.1 k.2

pub straddling_stays : StraddlingStays
straddling_stays adj x gs g s e =
    let a = acts_keep g s.from x gs e s.from s.has_from stay in
    let b = acts_keep g s.to x gs e s.to s.has_to stay in
    record {
      from = a.0;
      to = b.0;
      has_from = a.1;
      has_to = b.1;
      no_way = λ w. s.no_way (way_trans (way_trans a.2 w) (way_back g b.2));
    }

pub straddling_never_single : StraddlingNeverSingle
straddling_never_single adj x gs p g s e l =
    let t = straddling_stays adj x gs g s e in
    let a : p ≡ t.from = place_is p t.from (ap (λ (y : ℕ). bit y t.from) (sym l) ∙ t.has_from) in
    let b : p ≡ t.to = place_is p t.to (ap (λ (y : ℕ). bit y t.to) (sym l) ∙ t.has_to) in
    t.no_way (subst (Way adj t.from) (sym a ∙ b) stay)

-- a gate on an edge is between two places
pub edge_two_places : (adj : List ℕ) → Graph adj → (g : Gate) → OnEdge adj g → TwoPlaces (length adj) g
edge_two_places adj h g e =
    let a = edge_out h g e in
    record {
      apart = λ k. zero_one (bit (get_or adj g.0 0) g.1) (ap (bit (get_or adj g.0 0)) k ∙ h.loopless g.0) a;
      from = h.below g.1 g.0 (h.both g.0 g.1 a);
      to = h.below g.0 g.1 a;
    }

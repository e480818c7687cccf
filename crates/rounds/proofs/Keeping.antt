-- What the loop of a plan keeps, from wire to wire.
use Rattle.std.proofs.Common.{◌≡◌, ℕ, ◌+◌, ◌-◌, ◌*◌, ◌^◌, ◌<◌, ◌≤◌, ◌≢◌, List, length, get_or, drop, sym, refl, ap, ◌∙◌, subst, inl, inr, zero-le, arith}
use lib.Bits.{bit_xor, xor_lt}
use lib.Count.{ones}
use lib.Pow.{pow-lt}
use Rattle.parity.specs.Words.{Gate}
use Rattle.parity.specs.Sets.{bit}
use Rattle.parity.specs.Gates.{Each}
use Rattle.parity.specs.Pairing.{turned}
use Rattle.parity.specs.Entries.{gates_in}
use Rattle.parity.proofs.Bits.{bit_cases, place_below}
use Rattle.parity.proofs.Counts.{ones_less, ones_pow}
use Rattle.parity.proofs.Each.{each_map}
use Rattle.parity.proofs.Pairing.{turned_append}
use Rattle.parity.proofs.Entries.{gates_in_append, each_more, back_kept}
use Rattle.islands.specs.Graphs.{Reach, OnEdge, OnIsland}
use Rattle.rounds.specs.Ways.{Graph}
use Rattle.rounds.specs.Duals.{Moved}
use Rattle.rounds.specs.Rounds.{AtRest, ByRound, Given, Told}
use Rattle.rounds.specs.Plans.{Busy}
use Rattle.rounds.proofs.Moving.{moved_append}
use Rattle.rounds.proofs.Ways.{reach_way, way_trans, way_back}
use Rattle.rounds.proofs.Costs.{cost_paid}
use Rattle.rounds.proofs.Standing.{Standing, Touched, retire, touch, rest, rest_touch}

pub record Kept (adj xs ds was : List ℕ) (live waiting : ℕ) (A B out : List ℕ) (at : ℕ) : Type 0 where
  pub standing : Standing adj live waiting A B
  pub live_below : live < 2 ^ length adj
  pub waiting_below : waiting < 2 ^ length adj
  pub touched : Touched adj xs A waiting
  pub on_edges : Each (OnEdge adj) (gates_in out 0 at)
  pub on_busy_islands : Each (λ g. Busy adj xs g.0) (gates_in out 0 at)
  pub moved : Moved (gates_in out 0 at) xs A
  pub duals_moved : Moved (turned (gates_in out 0 at)) ds B
  pub back : drop at out ≡ drop at was
  pub paid : at + 2 * (ones live * (ones live - 1)) ≤ 2 * (length adj * (length adj - 1))

-- with a set on it that is no single place, an island is busy
busy_island : (adj xs A B : List ℕ) (live waiting r : ℕ) → Graph adj → Standing adj live waiting A B → Touched adj xs A waiting → length A ≡ length adj
    → (v : ℕ) → v < length A → ones (get_or A v 0) ≢ 1 → (p : ℕ) → bit (get_or A v 0) p ≡ 1 → Reach adj live r p
    → (q : ℕ) → Reach adj live r q → Busy adj xs q
busy_island adj xs A B live waiting r g s t len v h many p b i q j =
    let hv : v < length adj = subst (λ (m : ℕ). v < m) len h in
    let way = way_trans (way_back g (reach_way i)) (reach_way j) in
    elim (bit_cases waiting v) [
      | inl z ↦ let d = s.done v hv z in absurd (many (ap ones d.3 ∙ ones_pow d.0))
      | inr o ↦ elim (t v o) [
        | inl e ↦ record {
          wire = v;
          place = p;
          below = hv;
          many = λ k. many (ap ones e ∙ k);
          has = ap (λ (x : ℕ). bit x p) (sym e) ∙ b;
          way = way;
        }
        | inr f ↦ let y = f p b in record {
          wire = y.wire;
          place = y.place;
          below = y.below;
          many = y.many;
          has = y.has;
          way = way_trans y.way way;
        }
      ]
    ]

module _ (adj xs ds was : List ℕ) (live waiting w r : ℕ) (A A' B B' out out' : List ℕ) (at end : ℕ)
    (g : Graph adj) (k : Kept adj xs ds was live waiting A B out at) (len : length A ≡ length adj)
    (room : 2 * (length adj * (length adj - 1)) ≤ length out)
    (o : bit waiting w ≡ 1) (rn : r < length adj) (lr : bit live r ≡ 1)
    (told : Told adj live r) where
  live_less : bit_xor live (2 ^ r) < 2 ^ length adj
  live_less = xor_lt (length adj) live (2 ^ r) k.live_below (pow-lt rn)

  waiting_less : bit_xor waiting (2 ^ w) < 2 ^ length adj
  waiting_less = xor_lt (length adj) waiting (2 ^ w) k.waiting_below (pow-lt (place_below (length adj) waiting w k.waiting_below o))

  by_rest : AtRest adj live w r A A B B out out at at → Kept adj xs ds was (bit_xor live (2 ^ r)) (bit_xor waiting (2 ^ w)) A B out at
  by_rest s = record {
    standing = rest adj A B live waiting w r g k.standing len k.waiting_below o lr rn s.single s.others told;
    live_below = live_less;
    waiting_below = waiting_less;
    touched = rest_touch adj A B live waiting w r g k.standing len k.waiting_below o lr rn s.single s.others told xs k.touched;
    on_edges = k.on_edges;
    on_busy_islands = k.on_busy_islands;
    moved = k.moved;
    duals_moved = k.duals_moved;
    back = k.back;
    paid = cost_paid at at (ones live) (ones (bit_xor live (2 ^ r))) (2 * (length adj * (length adj - 1))) k.paid (ones_less live r lr) (omega arith);
  }

  by_round : ByRound adj live w r A A' B B' out out' at end → Kept adj xs ds was (bit_xor live (2 ^ r)) (bit_xor waiting (2 ^ w)) A' B' out' end
  by_round s =
      let gs = gates_in out' at end in
      let b = s.round in
      let ol : at ≤ length out = (let p = k.paid in omega arith) in
      let app = gates_in_append out out' 0 at end zero-le b.wrote.forward ol b.wrote.front in
      let y = s.busy in
      let busy = busy_island adj xs A B live waiting r g k.standing k.touched len y.0 y.1 y.2 y.3.0 y.3.1 y.3.2 in
      record {
        standing = retire adj A B A' B' live waiting w r gs g k.standing k.waiting_below o lr rn s.can_go b.two_places b.on_island b.moved b.duals_moved b.brought b.dual_alone told;
        live_below = live_less;
        waiting_below = waiting_less;
        touched = touch adj A B A' B' live waiting w r gs g k.standing k.waiting_below o lr rn s.can_go b.two_places b.on_island b.moved b.duals_moved b.brought b.dual_alone told xs busy k.touched;
        on_edges = each_more (OnEdge adj) out out' 0 at end zero-le b.wrote.forward ol b.wrote.front k.on_edges b.on_edges;
        on_busy_islands = each_more (λ h. Busy adj xs h.0) out out' 0 at end zero-le b.wrote.forward ol b.wrote.front k.on_busy_islands
            (each_map (OnIsland adj live r) (λ h. Busy adj xs h.0) (λ h f. busy h.0 f.0) gs b.on_island);
        moved = subst (λ (ks : List Gate). Moved ks xs A') (sym app) (moved_append (gates_in out 0 at) gs xs A A' k.moved b.moved);
        duals_moved = subst (λ (ks : List Gate). Moved ks ds B') (sym (ap turned app ∙ turned_append (gates_in out 0 at) gs))
            (moved_append (turned (gates_in out 0 at)) (turned gs) ds B B' k.duals_moved b.duals_moved);
        back = b.wrote.back ∙ back_kept was out at end b.wrote.forward k.back;
        paid = cost_paid at end (ones live) (ones (bit_xor live (2 ^ r))) (2 * (length adj * (length adj - 1))) k.paid (ones_less live r lr) b.wrote.few;
      }

  same : AtRest adj live w r A A' B B' out out' at end → AtRest adj live w r A A B B out out at at
  same s = record { sets = refl; duals = refl; entries = refl; stays = refl; single = s.single; others = s.others }

  pub kept_given : Given adj live w r A A' B B' out out' at end
      → Kept adj xs ds was (bit_xor live (2 ^ r)) (bit_xor waiting (2 ^ w)) A' B' out' end
  kept_given (inr s) = by_round s
  kept_given (inl s) =
      subst (λ (X : List ℕ). Kept adj xs ds was (bit_xor live (2 ^ r)) (bit_xor waiting (2 ^ w)) X B' out' end) (sym s.sets)
      (subst (λ (X : List ℕ). Kept adj xs ds was (bit_xor live (2 ^ r)) (bit_xor waiting (2 ^ w)) A X out' end) (sym s.duals)
      (subst (λ (X : List ℕ). Kept adj xs ds was (bit_xor live (2 ^ r)) (bit_xor waiting (2 ^ w)) A B X end) (sym s.entries)
      (subst (λ (m : ℕ). Kept adj xs ds was (bit_xor live (2 ^ r)) (bit_xor waiting (2 ^ w)) A B out m) (sym s.stays) (by_rest (same s)))))

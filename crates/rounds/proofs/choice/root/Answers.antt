use borrow.Author.Tests.{tests}
use Rattle.std.proofs.Common.{rules, ◌≡◌, ◌≢◌, ℕ, Option, Some, None, Bor, ◌-◌, ◌^◌, ◌<◌, List, length, get_or, sym, subst, ap, ◌∙◌, inl, inr, arith}
use Rattle.std.specs.Option.{MatchOption, option_copied, unwrap_or}
use Rattle.std.specs.List.{AllWithin, HoldsAt}
use lib.Bits.{bit_xor}
use Rattle.std.proofs.lemmas.Bool.{cases_eq}
use Rattle.std.proofs.lemmas.Iterator.{YieldsList-from_slice, first_from_find}
use Rattle.parity.specs.Sets.{bit}
use Rattle.parity.proofs.Bits.{zero_one, place_below, flip_other, flip_off}
use Rattle.parity.proofs.Counts.{below_all}
use Rattle.islands.specs.Graphs.{Reach}
use Rattle.islands.specs.Trees.{TreeOrder}
use Rattle.islands.proofs.Trees.{tree_reached}
use Rattle.rounds.specs.Ways.{Graph}
use Rattle.rounds.specs.Rounds.{CanGo}
use Rattle.rounds.proofs.Ways.{reach_live, reach_trans, reach_more}
use Rattle.rounds.proofs.Standing.{last_place_can_go}
use Rattle.rounds.proofs.choice.root.Goals as goal

-- a place of start's island that can go
record Fits (adj : List ℕ) (live start r : ℕ) : Type 0 where
  below : r < length adj
  alive : bit live r ≡ 1
  reached : Reach adj live start r
  can_go : CanGo adj live r

-- without r the other places of the island reach one another
abbrev Hangs : (adj : List ℕ) (island r : ℕ) → Type 0
Hangs adj island r = Graph adj → bit island r ≡ 1 → (x y : ℕ) → x ≢ r → y ≢ r → bit island x ≡ 1 → bit island y ≡ 1 → Reach adj (bit_xor island (2 ^ r)) x y

module _ (adj : List ℕ) (live start island : ℕ) (order parent : List ℕ) (graph : Graph adj) (tree : TreeOrder adj live start order parent (length order)) (alive : bit live start ≡ 1)
    (only : (q : ℕ) → bit island q ≡ 1 → Reach adj live start q) (all : (q : ℕ) → Reach adj live start q → bit island q ≡ 1) where
  last_fits : Fits adj live start (get_or order (length order - 1) 0)
  last_fits =
      let some : 0 < length order = tree.some in
      let i : length order - 1 < length order = omega arith in
      let p = tree_reached tree alive (length order - 1) i in
      record { below = tree.below (length order - 1) i; alive = reach_live alive p; reached = p; can_go = last_place_can_go adj live start order parent (length order) graph tree alive }

  hanging_fits : (i r : ℕ) → i < length order → get_or order i 0 ≡ r → Hangs adj island r → Fits adj live start r
  hanging_fits i r low same hangs =
      let p = subst (Reach adj live start) same (tree_reached tree alive i low) in
      let on : (q : ℕ) → Reach adj live r q → bit island q ≡ 1 = λ q s. all q (reach_trans p s) in
      record {
        below = subst (λ (q : ℕ). q < length adj) same (tree.below i low);
        alive = reach_live alive p;
        reached = p;
        can_go = λ x y nx ny px py. reach_more
            (λ q o. elim (cases_eq q r) [
              | inl e ↦ zero_one (bit (bit_xor island (2 ^ r)) q) (ap (bit (bit_xor island (2 ^ r))) e ∙ flip_off island r (all r p)) o
              | inr m ↦ flip_other live r q m ∙ reach_live alive (only q (sym (flip_other island r q m) ∙ o))
            ])
            (hangs graph (all r p) x y nx ny (on x px) (on y py));
      }

  found_fits : (found : Option (Bor ℕ)) → MatchOption found (AllWithin (λ _. Unit {0}) order 0 (length order)) (λ x. Hangs adj island x.now × (i : ℕ) × (i < length order) × HoldsAt (λ y. y ≡ x.now) order i × AllWithin (λ _. Unit {0}) order 0 i)
      → Fits adj live start (unwrap_or (option_copied found) (get_or order (length order - 1) 0))
  found_fits None _ = last_fits
  found_fits (Some x) f = hanging_fits f.1 x.now f.2 (f.3 0) f.0

pub invariant_of-island : goal.invariant_of-island
invariant_of-island c = record {
  small = c.args.graph.now.small;
  inside = below_all (length c.args.graph.now.rows.now) c.island_of.result
      (λ q o. place_below (length c.args.graph.now.rows.now) c.args.graph.now.live q c.args.graph.now.inside (reach_live c.requires.alive (c.island_of.ensures.only_reached q o)));
}

pub returns : goal.returns
returns c =
    let adj = c.args.graph.now.rows.now in
    let live = c.args.graph.now.live in
    let tree = c.tree_order-tree.result in
    let order = tree.order.items in
    let last = get_or order (length order - 1) 0 in
    let island = c.island_of.result in
    let found =
    first_from_find _ _ c.find.result (Hangs adj island) (λ _. Unit {0}) c.find.ensures.ran (YieldsList-from_slice order (c.iter.ensures.rest ∙ c.deref.ensures.0))
    (λ x q k. search (rules, tests)) (λ x q k. search (rules, tests)) in
    let f = found_fits adj live c.args.start island order tree.parent c.requires.graph c.tree_order-tree.ensures.tree c.requires.alive
    c.island_of.ensures.only_reached c.island_of.ensures.all_reached c.find.result found in
    let end : get_or c.deref-2.result.now (c.len.result - 1) 0 ≡ last =
    ap (λ l. get_or l (c.len.result - 1) 0) c.deref-2.ensures.0 ∙ ap (λ m. get_or order (m - 1) 0) c.len.ensures.value in
    let at = subst (Fits adj live c.args.start) (sym (c.unwrap_or.ensures ∙ ap (λ o. unwrap_or o (get_or c.deref-2.result.now (c.len.result - 1) 0)) c.copied.ensures ∙ ap (unwrap_or (option_copied c.find.result)) end)) f in
    record { below = at.below; alive = at.alive; reached = at.reached; can_go = at.can_go }

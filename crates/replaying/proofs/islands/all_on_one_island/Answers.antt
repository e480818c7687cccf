use Rattle.std.proofs.Common.{rules, ◌≡◌, ◌∙◌, sym, refl, get_or, subst, below_more, arith}
use Rattle.replaying.specs.Islands.{HavePlaces, OnOneIsland, places_below}
use Rattle.replaying.proofs.islands.all_on_one_island.Goals as goal
use Rattle.replaying.proofs.islands.all_on_one_island.Goals.{then-reachable, else-reachable}

pub loop-word-preserved : goal.loop-word-preserved
loop-word-preserved c =
    let i = c.loop-word.word-index in
    let at = c.args.at.now in
    let names = c.args.names.now in
    let words = c.args.words.now in
    let word = get_or words i 0 in
    let have : HavePlaces at word = c.in_ok-set.ensures.there.0 refl in
    let is : c.in_ok-set.set ≡ places_below at word 64 = c.in_ok-set.ensures.places in (
      below_more (λ k. HavePlaces at (get_or words k 0)) _ c.loop-word.invariant.0 have,
      elim c.if-reachable.branch [
        | then-reachable w ↦ (
          λ t. below_more (λ k. OnOneIsland names (places_below at (get_or words k 0) 64)) _ (c.loop-word.invariant.1.0 w.if-reachable.true)
              (subst (OnOneIsland names) is (w.on_one_island-reachable.ensures.0 (sym w.reachable-is ∙ t))),
          λ h. w.reachable-is ∙ w.on_one_island-reachable.ensures.1 (subst (OnOneIsland names) (sym is) (h i (omega arith))),
        )
        | else-reachable w ↦ (λ t. search rules, λ h. let all = c.loop-word.invariant.1.1 (λ k less. h k (omega arith)) in search rules)
      ],
    )

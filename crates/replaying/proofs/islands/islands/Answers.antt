use Rattle.std.proofs.Common.{rules, arith, ℕ, ◌≡◌, ◌+◌, take, subst, sym, ◌∙◌}
use Rattle.replaying.specs.Islands.{NamesIslands}
use Rattle.replaying.proofs.Naming.{own_names, passed_over, taken, ends_there, none_there}
use Rattle.replaying.proofs.islands.islands.Goals as goal
use Rattle.replaying.proofs.islands.islands.Goals.{in-true-Ok, then-serves+in-Err-1, else-serves}

pub loop-k-init : goal.loop-k-init
loop-k-init g c = own_names (g.C.Chip.layout c.args.chip.now) c.from_fn-names.result (λ p h. let call = c.from_fn-names.ensures.items.at p 0 h in search rules)

pub loop-k-preserved : goal.loop-k-preserved
loop-k-preserved g c =
    let l = g.C.Chip.layout c.args.chip.now in
    let s = c.args.service.now in
    let k = c.loop-k.k in
    elim c.if-serves.branch [
      | in-true-Ok w ↦
          subst (NamesIslands l (take (k + 1) s)) (sym w.names-is)
          (taken l s k w.in-true-Ok.left w.in-true-Ok.right c.loop-k.names w.merge.new.names (g.met.C.Chip.sound c.args.chip.now)
          (ends_there l k w.in-true-Ok.left w.in-true-Ok.right (sym w.in-true-Ok.is-1 ∙ c.ends.ensures)) w.in-true-Ok.is-0 c.loop-k.invariant w.merge.ensures)
      | then-serves+in-Err-1 w ↦
          subst (NamesIslands l (take (k + 1) s)) (sym w.names-is) (passed_over l s k c.loop-k.names (λ there t. let no = none_there l k in grind arith) c.loop-k.invariant)
      | else-serves w ↦
          subst (NamesIslands l (take (k + 1) s)) (sym w.names-is) (passed_over l s k c.loop-k.names (λ there t. let no : ◌≡◌ {A = ℕ} 0 1 = cc in omega arith) c.loop-k.invariant)
    ]

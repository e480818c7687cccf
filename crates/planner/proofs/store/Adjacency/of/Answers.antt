use Rattle.std.proofs.Common.{◌≡◌, ℕ, ◌+◌, ◌<◌, length, take, replicate, sym, ap, ◌∙◌, subst, arith}
use Rattle.std.proofs.lemmas.List.{take-replicate}
use Rattle.arrayvec.proofs.ArrayVecLemmas.{items-with_items}
use Rattle.chip.specs.Chips.{ends_at}
use Rattle.planner.specs.Adjacent.{Added}
use Rattle.planner.proofs.Neighbours.{Rows, no_rows, serving_some, rows_joined, rows_skipped, rows_show, shows_graph}
use Rattle.planner.proofs.store.Adjacency.of.Goals as goal

pub loop-k-init : goal.loop-k-init
loop-k-init g c =
    let l = g.M.Chip.layout c.args.machine.now in
    let service = (g.M.Machine.meaning c.args.machine.now).service in
    let few = (g.met.M.Chip.sound c.args.machine.now).at_most_64 in
    let zeros : c.from-rows.result.items ≡ replicate 64 0 = c.from-rows.ensures.0 in
    let empty : c.truncate.new.self.items ≡ replicate l.places 0 =
    c.truncate.ensures.items ∙ ap (take c.width.result) zeros ∙ take-replicate c.width.result 64 0 (omega (arith, c.width.ensures))
    ∙ ap (λ n. replicate n 0) c.width.ensures in
    subst (λ rows. Rows l service rows 0) (sym empty) (no_rows l service)

pub join-requires : goal.join-requires
join-requires g c =
    let l = g.M.Chip.layout c.args.machine.now in
    let k = c.loop-k.k in
    let h : k < length l.couplers = omega arith in
    let e : ends_at l k ≡ (c.in-Some.left, c.in-Some.right) = (serving_some l (g.M.Machine.meaning c.args.machine.now).service k (c.in-Some.left, c.in-Some.right) (c.in-Some.ensures h)).1 in
    let so = g.met.M.Chip.sound c.args.machine.now in
    let a = so.left_below k h in
    let b = so.right_below k h in
    let m = c.loop-k.invariant.wide in
    let x : (ends_at l k).0 ≡ c.in-Some.left = ap (λ (p : ℕ × ℕ). p.0) e in
    let y : (ends_at l k).1 ≡ c.in-Some.right = ap (λ (p : ℕ × ℕ). p.1) e in
    let f = so.at_most_64 in
    let same : length c.deref_mut.result.now ≡ length c.loop-k.rows.items = ap length c.deref_mut.ensures.value in
    (omega arith, (omega arith, omega arith))

pub loop-k-preserved : goal.loop-k-preserved
loop-k-preserved g c =
    let l = g.M.Chip.layout c.args.machine.now in
    let service = (g.M.Machine.meaning c.args.machine.now).service in
    let k = c.loop-k.k in
    let h : k < length l.couplers = omega arith in
    elim c.match-serving.branch [
      | goal.in-Some w ↦
          let d = subst (λ xs. Added xs w.join.new.rows w.in-Some.left w.in-Some.right) w.deref_mut.ensures.value w.join.ensures in
          let now = ap (λ v. v.items) w.rows-is ∙ items-with_items c.loop-k.rows w.join.new.rows d.rows in
          subst (λ rows. Rows l service rows (k + 1)) (sym now)
          (rows_joined l service c.loop-k.rows.items w.join.new.rows k w.in-Some.left w.in-Some.right h (w.in-Some.ensures h) c.loop-k.invariant d)
      | goal.in_default w ↦ subst (λ rows. Rows l service rows (k + 1)) (sym (ap (λ v. v.items) w.rows-is))
          (rows_skipped l service c.loop-k.rows.items k (w.in_default.ensures h) c.loop-k.invariant)
    ]

pub invariant_of-result : goal.invariant_of-result
invariant_of-result g c =
    let l = g.M.Chip.layout c.args.machine.now in
    let service = (g.M.Machine.meaning c.args.machine.now).service in
    let so = g.met.M.Chip.sound c.args.machine.now in
    let m = so.at_most_64 in
    let wide = c.loop-k.invariant.wide in
    record {
      few = omega arith;
      graph = shows_graph l service c.loop-k.rows.items so (rows_show l service c.loop-k.rows.items c.loop-k.k (omega arith) c.loop-k.invariant);
    }

pub returns : goal.returns
returns g c =
    rows_show (g.M.Chip.layout c.args.machine.now) (g.M.Machine.meaning c.args.machine.now).service c.loop-k.rows.items c.loop-k.k (omega arith) c.loop-k.invariant

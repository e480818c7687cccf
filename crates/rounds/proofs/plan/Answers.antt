use Rattle.std.proofs.Common.{◌≡◌, ℕ, Option, Some, None, is_some, true, false, ◌+◌, ◌-◌, ◌*◌, ◌^◌, ◌<◌, ◌≤◌, List, length, get_or, sym, refl, ap, ◌∙◌, subst, inl, arith}
use lib.Bits.{bit_xor}
use lib.Count.{ones, ones-ones}
use Rattle.std.proofs.lemmas.Bool.{both_ways, false≢true, true≢false}
use Rattle.parity.specs.Words.{Gate}
use Rattle.parity.specs.Gates.{acts, Each}
use Rattle.parity.specs.Pairing.{turned}
use Rattle.parity.proofs.Bits.{place_below}
use Rattle.parity.proofs.Counts.{ones_less, some_place}
use Rattle.parity.proofs.Pairing.{dot_some}
use Rattle.parity.proofs.Entries.{gates_in_none}
use Rattle.islands.specs.Graphs.{OnEdge}
use Rattle.rounds.specs.Plans.{Busy, Planned}
use Rattle.rounds.proofs.Costs.{flip_less, cost_round, all_below_low}
use Rattle.rounds.proofs.Keeping.{Kept, kept_given}
use Rattle.rounds.proofs.Ending.{start_standing, idle_planned, end_planned, planned_exact, straddling_refused, refused_exact}
use Rattle.rounds.proofs.plan.Goals as goal

-- nothing to do
pub returns-then-all_single : goal.returns-then-all_single
returns-then-all_single c =
    let p = idle_planned c.args.adj.now c.args.wanted.now c.args.duals.now c.args.out.now c.requires.graph c.requires.lengths.0 c.requires.lengths.1 c.requires.sets_below c.requires.duals_below c.requires.paired
    (c.if-all_single.ensures.yes refl) in
    record {
      planned = λ k e. (let z : 0 ≡ k = cc in
          subst (Planned c.args.adj.now c.args.wanted.now c.args.wanted.now c.args.duals.now c.args.duals.now c.args.out.now c.args.out.now) z p);
      refused = λ e. absurd cc;
      exact = planned_exact c.args.adj.now c.args.wanted.now c.args.wanted.now c.args.duals.now c.args.duals.now c.args.out.now c.args.out.now 0 p;
      nothing_touched = λ e. absurd cc;
    }

-- the first set that straddles, where one was found
found : (o : Option ℕ) → is_some o ≡ true → (w : ℕ) × (o ≡ Some w)
found (Some w) _ = (w, refl)
found None e = absurd (false≢true e)

not_found : (o : Option ℕ) → is_some o ≡ false → o ≡ None
not_found (Some w) e = absurd (true≢false e)
not_found None _ = refl

pub returns-then-is_some : goal.returns-then-is_some
returns-then-is_some c =
    let f = found c.first_straddling.result (sym c.if-is_some.ensures) in
    let w = f.0 in
    let s = c.first_straddling.ensures.straddles w f.1 in
    let no_way = straddling_refused c.args.adj.now c.args.wanted.now c.requires.graph (w, subst (λ (m : ℕ). w < m) c.requires.lengths.0 s.below, s.straddles) in
    record {
      planned = λ k e. absurd cc;
      refused = λ _. no_way;
      exact = refused_exact c.args.adj.now c.args.wanted.now no_way;
      nothing_touched = λ _. (refl, refl, refl);
    }

-- the rounds
pub loop-w-init : goal.loop-w-init
loop-w-init c =
    let adj = c.args.adj.now in
    let n = length adj in
    let live = c.all_below-live.result in
    let e = c.all_below-live.ensures.places c.requires.small in
    let below : live < 2 ^ n = subst (λ (x : ℕ). x < 2 ^ n) (sym e) (all_below_low n) in
    let k : ones live ≡ n = ap ones e ∙ ones-ones n in
    let none = gates_in_none c.args.out.now 0 in
    record {
      standing = start_standing adj c.args.wanted.now c.args.duals.now live e c.requires.graph c.requires.sets_below c.requires.paired
          (λ w h. c.first_straddling.ensures.none (not_found c.first_straddling.result (sym c.if-is_some.ensures)) w (subst (λ (m : ℕ). w < m) (sym c.requires.lengths.0) h));
      live_below = below;
      waiting_below = below;
      touched = λ v _. inl refl;
      on_edges = subst (Each (OnEdge adj)) (sym none) tt;
      on_busy_islands = subst (Each (λ g. Busy adj c.args.wanted.now g.0)) (sym none) tt;
      moved = λ v. ap (λ (gs : List Gate). acts gs (get_or c.args.wanted.now v 0)) (sym none);
      duals_moved = λ v. ap (λ (gs : List Gate). acts (turned gs) (get_or c.args.duals.now v 0)) (sym none);
      back = refl;
      paid = subst (λ (m : ℕ). 0 + 2 * (m * (m - 1)) ≤ 2 * (n * (n - 1))) (sym k) (omega arith);
    }

pub give-r-requires : goal.give-r-requires
give-r-requires c =
    let adj = c.args.adj.now in
    let live = c.loop-w.live in
    let k = c.loop-w.invariant in
    let s = k.standing in
    let w = c.in-Some.w in
    let o = c.in-Some.ensures in
    let h = place_below (length adj) c.loop-w.waiting w k.waiting_below o in
    let x = get_or c.loop-w.wanted w 0 in
    let p = some_place x (dot_some x (get_or c.loop-w.duals w 0) (s.paired.own w h)) in
    let paid = cost_round c.loop-w.at (ones live) (ones (bit_xor live (2 ^ p.0))) (2 * (length adj * (length adj - 1))) k.paid (ones_less live p.0 (s.alive w o p.0 p.1)) in
    record {
      graph = c.requires.graph;
      wire = (omega (arith, c.requires.lengths.0), omega (arith, c.requires.lengths.1));
      alive = s.alive w o;
      on_island = s.on_island w o;
      paired = s.paired.own w h;
      room = omega arith;
    }

pub loop-w-smaller : goal.loop-w-smaller
loop-w-smaller c =
    let h = place_below (length c.args.adj.now) c.loop-w.waiting c.in-Some.w c.loop-w.invariant.waiting_below c.in-Some.ensures in
    subst (λ (x : ℕ). bit_xor c.loop-w.waiting x < c.loop-w.waiting) (sym (c.single-waiting.ensures.place (omega (arith, c.requires.small))))
    (flip_less c.loop-w.waiting c.in-Some.w c.in-Some.ensures)

pub loop-w-preserved : goal.loop-w-preserved
loop-w-preserved c =
    let adj = c.args.adj.now in
    let xs = c.args.wanted.now in
    let live = c.loop-w.live in
    let waiting = c.loop-w.waiting in
    let A = c.give-r.new.wanted in
    let B = c.give-r.new.duals in
    let out = c.give-r.new.out in
    let w = c.in-Some.w in
    let r = c.give-r.result.0 in
    let end = c.give-r.result.1 in
    let e = c.give-r.ensures in
    let h = place_below (length adj) waiting w c.loop-w.invariant.waiting_below c.in-Some.ensures in
    let b : r < length adj = e.below in
    subst (λ (x : ℕ). Kept adj xs c.args.duals.now c.args.out.now (bit_xor live x) (bit_xor waiting c.single-waiting.result) A B out end)
    (sym (c.single-live.ensures.place (omega (arith, c.requires.small))))
    (subst (λ (x : ℕ). Kept adj xs c.args.duals.now c.args.out.now (bit_xor live (2 ^ r)) (bit_xor waiting x) A B out end)
    (sym (c.single-waiting.ensures.place (omega (arith, c.requires.small))))
    (kept_given adj xs c.args.duals.now c.args.out.now live waiting w r c.loop-w.wanted A c.loop-w.duals B c.loop-w.out out c.loop-w.at end
    c.requires.graph c.loop-w.invariant (c.loop-w.auto.wanted ∙ c.requires.lengths.0) (omega arith) c.in-Some.ensures e.below e.alive e.told e.given))

-- each wire has its place
pub returns : goal.returns
returns c =
    let adj = c.args.adj.now in
    let xs = c.args.wanted.now in
    let at = c.loop-w.at in
    let p = end_planned adj xs c.loop-w.wanted c.args.duals.now c.loop-w.duals c.args.out.now c.loop-w.out c.loop-w.live c.loop-w.waiting at
    c.requires.graph c.requires.lengths.0 c.requires.lengths.1 c.requires.duals_below c.loop-w.auto.wanted c.loop-w.auto.duals c.in_default.ensures c.loop-w.invariant
    (λ w h. c.first_straddling.ensures.none (not_found c.first_straddling.result (sym c.if-is_some.ensures)) w (subst (λ (m : ℕ). w < m) (sym c.requires.lengths.0) h))
    (λ one. absurd (both_ways c.all_single.result c.if-all_single.false (c.all_single.ensures.no (λ w h. one w (subst (λ (m : ℕ). w < m) c.requires.lengths.0 h))))) in
    record {
      planned = λ k e. (let z : at ≡ k = cc in
          subst (Planned adj xs c.loop-w.wanted c.args.duals.now c.loop-w.duals c.args.out.now c.loop-w.out) z p);
      refused = λ e. absurd cc;
      exact = planned_exact adj xs c.loop-w.wanted c.args.duals.now c.loop-w.duals c.args.out.now c.loop-w.out at p;
      nothing_touched = λ e. absurd cc;
    }

use Rattle.std.proofs.Common.{rules, ◌≡◌, ℕ, ◌-◌, ◌^◌, ◌<◌, ◌≤◌, bit_and, slice_index, take, Ok, ap, ◌∙◌, arith, get_or-take}
use Rattle.std.proofs.lemmas.Bool.{lt-ltb}
use Rattle.table.specs.Tables.{word_is}
use Rattle.table.proofs.acts.TableMachineMachine.word.Goals as goal

pub returns : goal.returns
returns g c =
    let s = c.args.self.now in
    let l = g.C.Chip.layout s.chip in
    let so = g.met.C.Chip.sound s.chip in
    let n = c.width-n.result in
    let few : n ≤ 64 = let a = so.at_most_64 in omega arith in
    let below : c.args.q < n = search rules in
    let inside : c.args.q < l.places = omega arith in
    let at : c.in_ok-word.word.now ≡ slice_index (take n s.words) c.args.q = search rules in
    let mask : c.all_below.result ≡ 2 ^ n - 1 = c.all_below.ensures.places few in
    rw (lt-ltb c.args.q l.places inside)
    (ap Ok (ap (λ (w : ℕ). bit_and w c.all_below.result) (at ∙ get_or-take n s.words c.args.q 0 below)
    ∙ word_is l s.words c.args.q c.all_below.result inside (simp c.width-n.ensures at mask)))

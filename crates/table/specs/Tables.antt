-- The table's words and marks as a machine's meaning.
use Rattle.std.specs.Prelude.{◌≡◌, ℕ, ◌-◌, ◌%◌, ◌^◌, ◌<◌, ◌≤◌, Bool, true, List, map, length, take, set, replicate, bit_and, bit_xor, slice_index, slice_index_or, slice_set}
use Rattle.std.proofs.Common.{sym, ap, ap₂, ◌∙◌, mod-lt, mod-eq_of_lt, arith, get_or-take, pow_pos}
use Rattle.std.proofs.Math.ListN.{get_or-map}
use Rattle.std.proofs.Math.Seq.{take-set-lt}
use Rattle.std.proofs.Math.Pow.{pow-lt}
use Rattle.std.proofs.lemmas.Nat.{xor_comm, xor_mod, and_mask}
use Rattle.std.proofs.lemmas.List.{length-map, length-take, map-set}
use Rattle.chip.specs.Layout.{Layout, Sound}
use Rattle.parity.specs.Words.{cnot, fresh}
use Rattle.parity.proofs.Words.{length_fresh, get_d_fresh, fresh_from}
use Rattle.machine.specs.declared.marks.Marks.{Marks}
use Rattle.machine.specs.Meaning.{Fitting, played, new}
use Rattle.machine.specs.Service.{service_of}
use Rattle.machine.proofs.Services.{one_mark_each, all_in}
use Rattle.table.specs.declared.store.TableMachine.{TableMachine}
use Rattle.table.specs.Table.{meaning_of, table_meaning}

-- the words of n places, bits n and above cut off
abbrev low : ℕ → List ℕ → List ℕ
low n ws = map (λ (w : ℕ). w % 2 ^ n) (take n ws)

get_d_low : (n q : ℕ) (ws : List ℕ) → q < n → slice_index (low n ws) q ≡ slice_index ws q % 2 ^ n
get_d_low n q ws h =
    let z : 0 % 2 ^ n ≡ 0 = mod-eq_of_lt (pow_pos n) in
    ap (λ (d : ℕ). slice_index_or (low n ws) q d) (sym z) ∙ get_or-map (λ (w : ℕ). w % 2 ^ n) (take n ws) q 0 ∙ ap (λ (w : ℕ). w % 2 ^ n) (get_or-take n ws q 0 h)

length_low : (n : ℕ) (ws : List ℕ) → n ≤ length ws → length (low n ws) ≡ n
length_low n ws h = length-map (take n ws) (λ (w : ℕ). w % 2 ^ n) ∙ (let e = length-take n ws in omega arith)

pub fits_of : (l : Layout) (ws : List ℕ) (marks : Marks) (left : ℕ) → Sound l → length ws ≡ 64 → Fitting l (meaning_of l ws marks left)
fits_of l ws marks left so wide =
    let a = so.at_most_64 in
    record {
      one_mark_each = one_mark_each l marks so;
      one_word_each = length_low l.places ws (omega arith);
      words_below = λ q h. let e = get_d_low l.places q ws h in let m = mod-lt (slice_index ws q) (pow_pos l.places) in omega arith;
    }

low_fresh : (n : ℕ) → n ≤ 64 → low n (fresh 64) ≡ fresh n
low_fresh n h =
    fresh_from (low n (fresh 64)) n (length_low n (fresh 64) (let e = length_fresh 64 in omega arith))
    (λ q lt. get_d_low n q (fresh 64) lt ∙ ap (λ (w : ℕ). w % 2 ^ n) (get_d_fresh 64 q (omega arith)) ∙ mod-eq_of_lt (pow-lt lt))

pub new_of : (l : Layout) (ws : List ℕ) (marks : Marks) (left : ℕ) → Sound l → ws ≡ fresh 64 → marks.marks ≡ replicate 256 true
    → meaning_of l ws marks left ≡ new l left
new_of l ws marks left so e all =
    ap₂ (λ (on : List Bool) (w : List ℕ). record { service = on; words = w; allowance = left })
    (all_in l marks so all)
    (ap (low l.places) e ∙ low_fresh l.places so.at_most_64)

pub word_is : (l : Layout) (ws : List ℕ) (q mask : ℕ) → q < l.places → mask ≡ 2 ^ l.places - 1
    → bit_and (slice_index ws q) mask ≡ slice_index (low l.places ws) q
word_is l ws q mask h e = ap (bit_and (slice_index ws q)) e ∙ and_mask (slice_index ws q) l.places ∙ sym (get_d_low l.places q ws h)

pub cnot_of : (l : Layout) (ws : List ℕ) (marks : Marks) (left c t : ℕ) → c < l.places → t < l.places
    → meaning_of l (slice_set ws t (bit_xor (slice_index ws t) (slice_index ws c))) marks (left - 1) ≡ played (meaning_of l ws marks left) (c, t)
cnot_of l ws marks left c t hc ht =
    ap (λ (w : List ℕ). record { service = service_of l marks; words = w; allowance = left - 1 }) words
  where
    words : low l.places (slice_set ws t (bit_xor (slice_index ws t) (slice_index ws c))) ≡ cnot (c, t) (low l.places ws)
    words =
        ap (map (λ (w : ℕ). w % 2 ^ l.places)) (take-set-lt l.places ws t (bit_xor (slice_index ws t) (slice_index ws c)) ht)
        ∙ map-set (λ (w : ℕ). w % 2 ^ l.places) (take l.places ws) t (bit_xor (slice_index ws t) (slice_index ws c))
        ∙ ap (set (low l.places ws) t)
        (xor_mod (slice_index ws t) (slice_index ws c) l.places
        ∙ xor_comm (slice_index ws t % 2 ^ l.places) (slice_index ws c % 2 ^ l.places)
        ∙ ap₂ bit_xor (sym (get_d_low l.places c ws hc)) (sym (get_d_low l.places t ws ht)))

-- ---- the same of a machine

pub fits : {C : Type 0} (l : Layout) (m : TableMachine C) → Sound l → Fitting l (table_meaning l m)
fits l m so = fits_of l m.words m.service m.left so m.word_room

pub new_is : {C : Type 0} (l : Layout) (m : TableMachine C) → Sound l → m.words ≡ fresh 64 → m.service.marks ≡ replicate 256 true
    → table_meaning l m ≡ new l m.left
new_is l m so e all = new_of l m.words m.service m.left so e all

-- m is s after the gate (c, t)
pub record Adds {C : Type 0} (s m : TableMachine C) (c t : ℕ) : Type 0 where
  pub words : m.words ≡ slice_set s.words t (bit_xor (slice_index s.words t) (slice_index s.words c))
  pub left : m.left ≡ s.left - 1
  pub service : m.service ≡ s.service

pub cnot_is : {C : Type 0} (l : Layout) (s m : TableMachine C) (c t : ℕ) → c < l.places → t < l.places → Adds s m c t
    → table_meaning l m ≡ played (table_meaning l s) (c, t)
cnot_is l s m c t hc ht adds =
    ap (λ (marks : Marks). meaning_of l m.words marks m.left) adds.service
    ∙ ap₂ (λ (ws : List ℕ) (left : ℕ). meaning_of l ws s.service left) adds.words adds.left
    ∙ cnot_of l s.words s.service s.left c t hc ht

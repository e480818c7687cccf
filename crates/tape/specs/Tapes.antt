-- The tape's gates as a machine's meaning.
use Rattle.std.specs.Prelude.{◌≡◌, ℕ, ◌+◌, ◌-◌, ◌*◌, ◌<◌, Bool, true, List, [], ◌∷◌, ◌++◌, map, length, take, replicate, vec_capacity, vec_items}
use Rattle.std.proofs.Common.{sym, ap, ap₂, ◌∙◌, arith, length-append}
use Rattle.std.proofs.Math.Seq.{take-append_seam}
use Rattle.std.proofs.lemmas.List.{map-append}
use Rattle.chip.specs.Layout.{Layout, Sound}
use Rattle.parity.specs.Words.{Gate, cnot, fresh, gate_of, replay}
use Rattle.parity.proofs.Words.{length_fresh, take_fresh, length_replay, below_fresh, below_replay, replay_append, rereads}
use Rattle.machine.specs.declared.marks.Marks.{Marks}
use Rattle.machine.specs.Meaning.{Fitting, played, new}
use Rattle.machine.specs.Service.{service_of}
use Rattle.machine.proofs.Services.{one_mark_each, all_in}
use Rattle.tape.specs.declared.store.TapeMachine.{TapeMachine}
use Rattle.tape.specs.Tape.{meaning_of, tape_meaning}

pub fits_of : (l : Layout) (entries : List ℕ) (long : ℕ) (marks : Marks) → Sound l → Fitting l (meaning_of l entries long marks)
fits_of l entries long marks so =
    record {
      one_mark_each = one_mark_each l marks so;
      one_word_each = length_replay (map gate_of entries) (fresh l.places) ∙ length_fresh l.places;
      words_below = λ q h. below_replay l.places (map gate_of entries) (fresh l.places) (below_fresh l.places) q;
    }

pub new_of : (l : Layout) (entries : List ℕ) (long : ℕ) (marks : Marks) → Sound l → entries ≡ [] → marks.marks ≡ replicate 256 true
    → meaning_of l entries long marks ≡ new l long
new_of l entries long marks so none all =
    let left : long - length entries ≡ long = let e = ap length none in omega arith in
    let words : replay (map gate_of entries) (fresh l.places) ≡ fresh l.places = ap (λ (es : List ℕ). replay (map gate_of es) (fresh l.places)) none in
    ap (λ (on : List Bool). record { service = on; words = replay (map gate_of entries) (fresh l.places); allowance = long - length entries }) (all_in l marks so all)
    ∙ ap₂ (λ (w : List ℕ) (a : ℕ). record { service = replicate (length l.couplers) true; words = w; allowance = a }) words left

-- one more entry is one more gate
pub cnot_of : (l : Layout) (entries more : List ℕ) (long : ℕ) (marks : Marks) (c t e : ℕ) → t < 64 → e ≡ 64 * c + t → more ≡ entries ++ e ∷ []
    → meaning_of l more long marks ≡ played (meaning_of l entries long marks) (c, t)
cnot_of l entries more long marks c t e h is grown =
    let gate : gate_of e ≡ (c, t) = ap gate_of is ∙ rereads (c, t) h in
    let gates : map gate_of more ≡ map gate_of entries ++ (c, t) ∷ [] =
    ap (map gate_of) grown ∙ map-append gate_of entries (e ∷ []) ∙ ap (λ (g : Gate). map gate_of entries ++ g ∷ []) gate in
    let words : replay (map gate_of more) (fresh l.places) ≡ cnot (c, t) (replay (map gate_of entries) (fresh l.places)) =
    ap (λ (gs : List Gate). replay gs (fresh l.places)) gates ∙ replay_append (map gate_of entries) ((c, t) ∷ []) (fresh l.places) in
    let left : long - length more ≡ long - length entries - 1 = let a = ap length grown in let b = length-append entries (e ∷ []) in omega arith in
    ap₂ (λ (w : List ℕ) (a : ℕ). record { service = service_of l marks; words = w; allowance = a }) words left

-- ---- the same of a machine

pub fits : {C : Type 0} (l : Layout) (m : TapeMachine C) → Sound l → Fitting l (tape_meaning l m)
fits l m so = fits_of l (vec_items m.tape) (vec_capacity m.tape) m.service so

pub new_is : {C : Type 0} (l : Layout) (m : TapeMachine C) (long : ℕ) → Sound l → vec_items m.tape ≡ [] → vec_capacity m.tape ≡ long
    → m.service.marks ≡ replicate 256 true → tape_meaning l m ≡ new l long
new_is l m long so none room all = new_of l (vec_items m.tape) (vec_capacity m.tape) m.service so none all ∙ ap (new l) room

-- t is s with one more entry, the gate (c, t)
pub record Grows {C : Type 0} (s m : TapeMachine C) (entry : ℕ) : Type 0 where
  pub entries : vec_items m.tape ≡ vec_items s.tape ++ entry ∷ []
  pub room : vec_capacity m.tape ≡ vec_capacity s.tape
  pub service : m.service ≡ s.service

-- one more entry is one more gate
pub cnot_is : {C : Type 0} (l : Layout) (s m : TapeMachine C) (c t e : ℕ) → t < 64 → e ≡ 64 * c + t → Grows s m e
    → tape_meaning l m ≡ played (tape_meaning l s) (c, t)
cnot_is l s m c t e h is grown =
    ap₂ (λ (long : ℕ) (marks : Marks). meaning_of l (vec_items m.tape) long marks) grown.room grown.service
    ∙ cnot_of l (vec_items s.tape) (vec_items m.tape) (vec_capacity s.tape) s.service c t e h is grown.entries

-- the replay on the first n of 64 fresh words
pub words_are : (l : Layout) (entries full part back : List ℕ) (n : ℕ) → Sound l → n ≡ l.places → full ≡ fresh 64
    → part ≡ replay (map gate_of entries) (take n full)
    → take l.places (part ++ back) ≡ replay (map gate_of entries) (fresh l.places)
words_are l entries full part back n so same is_fresh replayed =
    let start : take n full ≡ fresh l.places =
    ap₂ (λ (k : ℕ) (ws : List ℕ). take k ws) same is_fresh ∙ take_fresh 64 l.places so.at_most_64 in
    let words : part ≡ replay (map gate_of entries) (fresh l.places) = replayed ∙ ap (replay (map gate_of entries)) start in
    let long : length part ≡ l.places = ap length words ∙ length_replay (map gate_of entries) (fresh l.places) ∙ length_fresh l.places in
    ap (λ (i : ℕ). take i (part ++ back)) (sym long) ∙ take-append_seam part back ∙ words

-- What the bytes of a map file say, paired as the reader pairs them.
use Rattle.std.proofs.Common.{◌≡◌, ℕ, zero, suc, ◌+◌, ◌-◌, ◌*◌, ◌<◌, ◌≤◌, ◌⊎◌, List, length, get_or, take, None, Ok, Err, Result, sym, ap, ◌∙◌, ap₂, add_assoc, inl, inr, arith, MatchResult}
use denote.Param.Members.{Mut}
use Rattle.std.specs.Array.{IsFromFnResultFrom}
use Rattle.std.specs.Fn.{Called}
use Rattle.std.specs.List.{between}
use Rattle.std.proofs.lemmas.List.{get_or-take, get_or-drop, length-take-le, length-drop, take_rest}
use Rattle.std.proofs.lemmas.List.FromFn.{fill_by_all}
use Rattle.std.proofs.lemmas.Bool.{cases_lt, le-leb, eq-eqb}
use Rattle.chip.specs.declared.fault.ChipFault.{ChipFault}
use Rattle.chip.specs.declared.fault.ChipFault.TheVariants.{NoMemory}
use Rattle.chip.specs.Layout.{Layout, Sound}
use Rattle.map.specs.Couplers.{layout_with, ends_in, first_bad}
use Rattle.map.specs.File.{map_places, map_couplers, map_ends, map_layout, bad_fault, map_fault}
use Rattle.map.specs.Chips.{layout_of, ReadAs}
use Rattle.map.specs.declared.store.MappedChip.{MappedChip}
use Rattle.map.specs.CouplersLemmas.{first_same, first_none, none_sound}

-- ---- an array made by a function that calls leave as it is

module _ {F B : Type 0} (g : Mut F (ℕ × Unit {0}) B) (f : F) (h : ℕ → B) (pure : (x : ℕ) (y : B) (q : F) → Called g f (x, tt) y q → (q ≡ f) × (y ≡ h x)) where
  pub made_at : (ys : List B) (d : B) (i n k : ℕ) → IsFromFnResultFrom g f ys i n → i ≤ k → k < i + n → get_or ys k d ≡ h k
  made_at ys d i zero k each low high = absurd (omega arith)
  made_at ys d i (suc n) k each low high =
      by (cases_lt i k) (λ l. made_at ys d (i + 1) n k (rw here.0 at each.4) l (omega arith))
    where
      here : (each.0 ≡ f) × (each.1 ≡ h i)
      here = pure i each.1 each.0 each.3

      by : (i < k) ⊎ (k ≤ i) → (i + 1 ≤ k → get_or ys k d ≡ h k) → get_or ys k d ≡ h k
      by (inl l) rest = rest (omega arith)
      by (inr e) rest = let same : k ≡ i = omega arith in ap (λ (j : ℕ). get_or ys j d) same ∙ each.2.1 d ∙ here.1 ∙ ap h (sym same)

-- ---- the couplers of a file

-- the reader's room begins with the couplers of the file
pub record Paired (file : List ℕ) (room : List (ℕ × ℕ)) : Type 0 where
  pub header : 3 ≤ length file
  pub whole : length (between 3 (length file) file) ≡ 2 * map_couplers file
  pub few : map_couplers file ≤ length room
  pub ends : (k : ℕ) → k < map_couplers file
      → get_or room k (0, 0) ≡ (get_or (between 3 (length file) file) k 0, get_or (between 3 (length file) file) (map_couplers file + k) 0)

module _ (file : List ℕ) (room : List (ℕ × ℕ)) (pairs : Paired file room) where
  -- all the bytes after the first three
  whole_length : length file ≡ 3 + 2 * map_couplers file
  whole_length =
      let d : length (between 3 (length file) file) ≡ length file - 3 = ap length (take_rest file 3) ∙ length-drop 3 file in
      let h = pairs.header in let e = pairs.whole in omega arith

  pub length_read : length (take (map_couplers file) room) ≡ map_couplers file
  length_read = length-take-le (map_couplers file) room pairs.few

  ends_same : (k : ℕ) → k < map_couplers file → ends_in (take (map_couplers file) room) k ≡ map_ends file k
  ends_same k h =
      let at : (i : ℕ) → get_or (between 3 (length file) file) i 0 ≡ get_or file (3 + i) 0 =
      λ i. ap (λ (xs : List ℕ). get_or xs i 0) (take_rest file 3) ∙ get_or-drop 3 file i 0 in
      get_or-take (map_couplers file) room k (0, 0) h
      ∙ pairs.ends k h
      ∙ ap₂ (λ (x y : ℕ). (x, y)) (at k)
      (at (map_couplers file + k) ∙ ap (λ (i : ℕ). get_or file i 0) (sym (add_assoc 3 (map_couplers file) k)))

  first_read : (n : ℕ) → first_bad n (length (take (map_couplers file) room)) (ends_in (take (map_couplers file) room)) ≡ first_bad n (map_couplers file) (map_ends file)
  first_read n = rw length_read (first_same n (map_couplers file) (ends_in (take (map_couplers file) room)) (map_ends file) ends_same)

  pub layout_read : layout_with (map_places file) (take (map_couplers file) room) ≡ map_layout file
  layout_read = ap (layout_with (map_places file)) (fill_by_all (map_ends file) (take (map_couplers file) room) (map_couplers file) (0, 0) length_read ends_same)

  -- sizes within the limits, and so only a coupler can be at fault
  pub fault_read : 1 ≤ map_places file → map_places file ≤ 64 → map_couplers file ≤ 256
      → map_fault file ≡ bad_fault (first_bad (map_places file) (length (take (map_couplers file) room)) (ends_in (take (map_couplers file) room)))
  fault_read some few m_few =
      let long = le-leb 3 (length file) pairs.header in
      let a = le-leb 1 (map_places file) some in
      let b = le-leb (map_places file) 64 few in
      let d = le-leb (map_couplers file) 256 m_few in
      let e = eq-eqb (length file) (3 + 2 * map_couplers file) whole_length in
      rw (long, a, b, d, e) (ap bad_fault (sym (first_read (map_places file))))

  -- no coupler is bad, and so the layout is sound
  pub sound_read : 1 ≤ map_places file → map_places file ≤ 64 → map_couplers file ≤ 256
      → first_bad (map_places file) (length (take (map_couplers file) room)) (ends_in (take (map_couplers file) room)) ≡ None
      → Sound (layout_with (map_places file) (take (map_couplers file) room))
  sound_read some few m_few none =
      none_sound (layout_with (map_places file) (take (map_couplers file) room)) some few (let e = length_read in omega arith)
      (first_none (map_places file) (length (take (map_couplers file) room)) (ends_in (take (map_couplers file) room)) none)

-- ---- the answer for a file without fault

pub read_as : (file : List ℕ) (r : Result MappedChip ChipFault) {l : Layout} → map_fault file ≡ None → l ≡ map_layout file
    → MatchResult r (λ c. layout_of c ≡ l) (λ f. f ≡ NoMemory) → ReadAs file r
read_as file (Ok c) good same is = (good, is ∙ same)
read_as file (Err f) good same is = rw is good

-- Which check of a map file fails first, and what that says of the file.
use Rattle.std.proofs.Common.{◌≡◌, ℕ, ◌+◌, ◌*◌, ◌<◌, ◌≤◌, Bool, true, false, ◌&&◌, leb, ◌⊎◌, List, length, Some, None, Option, refl, inl, inr, arith}
use Rattle.std.proofs.lemmas.Bool.{cases_lt, cases_eq, cases_Bool, le-leb, lt-leb, leb-true, eq-eqb, ne_eqb, and_parts, and_from, both_ways}
use Rattle.chip.specs.declared.fault.ChipFault.{ChipFault}
use Rattle.chip.specs.declared.fault.ChipFault.TheVariants.{WrongLength, SizeOffLimits, BadCoupler, NoMemory}
use Rattle.chip.specs.Layout.{Sound}
use Rattle.map.specs.Couplers.{bad_coupler, any_bad, first_bad}
use Rattle.map.specs.File.{map_places, map_couplers, map_ends, map_layout, in_limits, map_fault}
use Rattle.map.specs.Laws.{Bad, SizesFit, WellFormed, SoundExactly, FirstBadCoupler, FirstBadExactly, SizeExactly, LengthExactly, NeverForMemory}
use Rattle.map.specs.BoundedLemmas.{Least, least_is, least_cases, none_below}
use Rattle.map.specs.CouplersLemmas.{length_by, none_bad_sound, sound_none_bad, bad_found, good_passed}

-- ---- the check that fails first

abbrev Limits : List ℕ → Bool
Limits file = in_limits (map_places file) (map_couplers file)

limits_fit : (file : List ℕ) → Limits file ≡ true → SizesFit file
limits_fit file t =
    let a = and_parts (leb 1 (map_places file)) (leb (map_places file) 64 && leb (map_couplers file) 256) t in
    let b = and_parts (leb (map_places file) 64) (leb (map_couplers file) 256) a.1 in
    record {
      some_place = leb-true 1 (map_places file) a.0;
      at_most_64 = leb-true (map_places file) 64 b.0;
      at_most_256 = leb-true (map_couplers file) 256 b.1;
    }

fit_limits : (file : List ℕ) → SizesFit file → Limits file ≡ true
fit_limits file s =
    and_from (leb 1 (map_places file)) (leb (map_places file) 64 && leb (map_couplers file) 256) (le-leb 1 (map_places file) s.some_place)
    (and_from (leb (map_places file) 64) (leb (map_couplers file) 256) (le-leb (map_places file) 64 s.at_most_64) (le-leb (map_couplers file) 256 s.at_most_256))

data Checked (file : List ℕ) : Type 0 where
  short : length file < 3 → map_fault file ≡ Some WrongLength → Checked file
  sizes_off : 3 ≤ length file → (SizesFit file → ⊥) → map_fault file ≡ Some SizeOffLimits → Checked file
  length_off : 3 ≤ length file → SizesFit file → (length file ≡ 3 + 2 * map_couplers file → ⊥) → map_fault file ≡ Some WrongLength → Checked file
  coupler_off : (k : ℕ) → 3 ≤ length file → SizesFit file → length file ≡ 3 + 2 * map_couplers file
      → Least (bad_coupler (map_places file) (map_ends file)) (map_couplers file) k → map_fault file ≡ Some (BadCoupler k) → Checked file
  passed : 3 ≤ length file → SizesFit file → length file ≡ 3 + 2 * map_couplers file
      → any_bad (map_places file) (map_couplers file) (map_ends file) ≡ false → map_fault file ≡ None → Checked file

checked : (file : List ℕ) → Checked file
checked file = by_header (cases_lt (length file) 3)
  where
    by_couplers : 3 ≤ length file → Limits file ≡ true → length file ≡ 3 + 2 * map_couplers file
        → ((first_bad (map_places file) (map_couplers file) (map_ends file) ≡ None) × (any_bad (map_places file) (map_couplers file) (map_ends file) ≡ false))
        ⊎ ((k : ℕ) × (first_bad (map_places file) (map_couplers file) (map_ends file) ≡ Some k) × Least (bad_coupler (map_places file) (map_ends file)) (map_couplers file) k)
        → Checked file
    by_couplers h t e (inl none) =
        passed h (limits_fit file t) e none.1 (rw (le-leb 3 (length file) h, t, eq-eqb (length file) (3 + 2 * map_couplers file) e, none.0) refl)
    by_couplers h t e (inr some) =
        coupler_off some.0 h (limits_fit file t) e some.2 (rw (le-leb 3 (length file) h, t, eq-eqb (length file) (3 + 2 * map_couplers file) e, some.1) refl)

    by_length : 3 ≤ length file → Limits file ≡ true → (length file ≡ 3 + 2 * map_couplers file) ⊎ (length file ≡ 3 + 2 * map_couplers file → ⊥) → Checked file
    by_length h t (inl e) = by_couplers h t e (least_cases (bad_coupler (map_places file) (map_ends file)) (map_couplers file))
    by_length h t (inr n) =
        length_off h (limits_fit file t) n (rw (le-leb 3 (length file) h, t, ne_eqb (length file) (3 + 2 * map_couplers file) n) refl)

    by_sizes : 3 ≤ length file → (Limits file ≡ true) ⊎ (Limits file ≡ false) → Checked file
    by_sizes h (inl t) = by_length h t (cases_eq (length file) (3 + 2 * map_couplers file))
    by_sizes h (inr f) = sizes_off h (λ s. both_ways (Limits file) f (fit_limits file s)) (rw (le-leb 3 (length file) h, f) refl)

    by_header : (length file < 3) ⊎ (3 ≤ length file) → Checked file
    by_header (inl h) = short h (rw (lt-leb 3 (length file) h) refl)
    by_header (inr h) = by_sizes h (cases_Bool (Limits file))

-- a file has one answer
not_some : {f : Option ChipFault} (a : ChipFault) → f ≡ None → f ≡ Some a → ⊥
not_some a p q = cc

length_not_size : {f : Option ChipFault} → f ≡ Some WrongLength → f ≡ Some SizeOffLimits → ⊥
length_not_size p q = cc

length_not_coupler : {f : Option ChipFault} (k : ℕ) → f ≡ Some WrongLength → f ≡ Some (BadCoupler k) → ⊥
length_not_coupler k p q = cc

size_not_coupler : {f : Option ChipFault} (k : ℕ) → f ≡ Some SizeOffLimits → f ≡ Some (BadCoupler k) → ⊥
size_not_coupler k p q = cc

same_coupler : {f : Option ChipFault} (j k : ℕ) → f ≡ Some (BadCoupler j) → f ≡ Some (BadCoupler k) → j ≡ k
same_coupler j k p q = cc

-- ---- a file passes exactly when its layout is sound

passed_sound : (file : List ℕ) → map_fault file ≡ None → WellFormed file
passed_sound file good = by (checked file)
  where
    by : Checked file → WellFormed file
    by (short h is) = absurd (not_some WrongLength good is)
    by (sizes_off h s is) = absurd (not_some SizeOffLimits good is)
    by (length_off h s n is) = absurd (not_some WrongLength good is)
    by (coupler_off k h s e b is) = absurd (not_some (BadCoupler k) good is)
    by (passed h s e none is) =
        record {
          header = h;
          whole = e;
          sound = none_bad_sound (map_places file) (map_couplers file) (map_ends file) s.some_place s.at_most_64 s.at_most_256 none;
        }

sound_fits : (file : List ℕ) → Sound (map_layout file) → SizesFit file
sound_fits file so =
    let len = length_by (map_places file) (map_couplers file) (map_ends file) in
    record { some_place = so.some_place; at_most_64 = so.at_most_64; at_most_256 = let few = so.at_most_256 in omega arith }

sound_passed : (file : List ℕ) → WellFormed file → map_fault file ≡ None
sound_passed file w = by (checked file)
  where
    by : Checked file → map_fault file ≡ None
    by (short h is) = let long = w.header in absurd (omega arith)
    by (sizes_off h s is) = absurd (s (sound_fits file w.sound))
    by (length_off h s n is) = absurd (n w.whole)
    by (coupler_off k h s e b is) =
        absurd (both_ways (bad_coupler (map_places file) (map_ends file) k)
        (none_below (bad_coupler (map_places file) (map_ends file)) (map_couplers file) (sound_none_bad (map_places file) (map_couplers file) (map_ends file) w.sound) k b.below)
        b.passes)
    by (passed h s e none is) = is

pub sound_exactly : SoundExactly
sound_exactly file = (passed_sound file, sound_passed file)

-- ---- the coupler at fault is the first bad one

refused_first : (file : List ℕ) (k : ℕ) → map_fault file ≡ Some (BadCoupler k) → FirstBadCoupler file k
refused_first file k bad = by (checked file)
  where
    by : Checked file → FirstBadCoupler file k
    by (short h is) = absurd (length_not_coupler k is bad)
    by (sizes_off h s is) = absurd (size_not_coupler k is bad)
    by (length_off h s n is) = absurd (length_not_coupler k is bad)
    by (passed h s e none is) = absurd (not_some (BadCoupler k) is bad)
    by (coupler_off j h s e b is) =
        let same = same_coupler j k is bad in
        let least : Least (bad_coupler (map_places file) (map_ends file)) (map_couplers file) k = rw same at b in
        record {
          header = h;
          sizes = s;
          whole = e;
          there = least.below;
          bad = bad_found (map_places file) (map_couplers file) (map_ends file) k least.below least.passes;
          first = λ i less. good_passed (map_places file) (map_couplers file) (map_ends file) i (let b = least.below in omega arith) (least.first i less);
        }

-- a bad coupler is found, and so the first is
test_true : (file : List ℕ) (k : ℕ) → k < map_couplers file → Bad (map_layout file) k → bad_coupler (map_places file) (map_ends file) k ≡ true
test_true file k h bad = by (cases_Bool (bad_coupler (map_places file) (map_ends file) k))
  where
    by : (bad_coupler (map_places file) (map_ends file) k ≡ true) ⊎ (bad_coupler (map_places file) (map_ends file) k ≡ false) → bad_coupler (map_places file) (map_ends file) k ≡ true
    by (inl t) = t
    by (inr f) = absurd (good_passed (map_places file) (map_couplers file) (map_ends file) k h f bad)

test_false : (file : List ℕ) (k : ℕ) → k < map_couplers file → (Bad (map_layout file) k → ⊥) → bad_coupler (map_places file) (map_ends file) k ≡ false
test_false file k h good = by (cases_Bool (bad_coupler (map_places file) (map_ends file) k))
  where
    by : (bad_coupler (map_places file) (map_ends file) k ≡ true) ⊎ (bad_coupler (map_places file) (map_ends file) k ≡ false) → bad_coupler (map_places file) (map_ends file) k ≡ false
    by (inl t) = absurd (good (bad_found (map_places file) (map_couplers file) (map_ends file) k h t))
    by (inr f) = f

first_refused : (file : List ℕ) (k : ℕ) → FirstBadCoupler file k → map_fault file ≡ Some (BadCoupler k)
first_refused file k w =
    let found : first_bad (map_places file) (map_couplers file) (map_ends file) ≡ Some k =
    least_is (bad_coupler (map_places file) (map_ends file)) (map_couplers file) k w.there (test_true file k w.there w.bad)
    (λ j less. test_false file j (let t = w.there in omega arith) (w.first j less)) in
    rw (le-leb 3 (length file) w.header, fit_limits file w.sizes, eq-eqb (length file) (3 + 2 * map_couplers file) w.whole, found) refl

pub first_bad_exactly : FirstBadExactly
first_bad_exactly file k = (refused_first file k, first_refused file k)

-- ---- sizes, length and memory

size_told : (file : List ℕ) → map_fault file ≡ Some SizeOffLimits → (3 ≤ length file) × (SizesFit file → ⊥)
size_told file off = by (checked file)
  where
    by : Checked file → (3 ≤ length file) × (SizesFit file → ⊥)
    by (short h is) = absurd (length_not_size is off)
    by (sizes_off h s is) = (h, s)
    by (length_off h s n is) = absurd (length_not_size is off)
    by (coupler_off k h s e b is) = absurd (size_not_coupler k off is)
    by (passed h s e none is) = absurd (not_some SizeOffLimits is off)

size_refused : (file : List ℕ) → (3 ≤ length file) × (SizesFit file → ⊥) → map_fault file ≡ Some SizeOffLimits
size_refused file w = by (checked file)
  where
    by : Checked file → map_fault file ≡ Some SizeOffLimits
    by (short h is) = let long = w.0 in absurd (omega arith)
    by (sizes_off h s is) = is
    by (length_off h s n is) = absurd (w.1 s)
    by (coupler_off k h s e b is) = absurd (w.1 s)
    by (passed h s e none is) = absurd (w.1 s)

pub size_exactly : SizeExactly
size_exactly file = (size_told file, size_refused file)

length_told : (file : List ℕ) → map_fault file ≡ Some WrongLength → (length file < 3) ⊎ (SizesFit file × (length file ≡ 3 + 2 * map_couplers file → ⊥))
length_told file off = by (checked file)
  where
    by : Checked file → (length file < 3) ⊎ (SizesFit file × (length file ≡ 3 + 2 * map_couplers file → ⊥))
    by (short h is) = inl h
    by (sizes_off h s is) = absurd (length_not_size off is)
    by (length_off h s n is) = inr (s, n)
    by (coupler_off k h s e b is) = absurd (length_not_coupler k off is)
    by (passed h s e none is) = absurd (not_some WrongLength is off)

length_refused : (file : List ℕ) → (length file < 3) ⊎ (SizesFit file × (length file ≡ 3 + 2 * map_couplers file → ⊥)) → map_fault file ≡ Some WrongLength
length_refused file (inl h) = rw (lt-leb 3 (length file) h) refl
length_refused file (inr w) = by (checked file)
  where
    by : Checked file → map_fault file ≡ Some WrongLength
    by (short h is) = is
    by (sizes_off h s is) = absurd (s w.0)
    by (length_off h s n is) = is
    by (coupler_off k h s e b is) = absurd (w.1 e)
    by (passed h s e none is) = absurd (w.1 e)

pub length_exactly : LengthExactly
length_exactly file = (length_told file, length_refused file)

pub never_for_memory : NeverForMemory
never_for_memory file off = by (checked file)
  where
    by : Checked file → ⊥
    by (short h is) = cc
    by (sizes_off h s is) = cc
    by (length_off h s n is) = cc
    by (coupler_off k h s e b is) = cc
    by (passed h s e none is) = not_some NoMemory is off

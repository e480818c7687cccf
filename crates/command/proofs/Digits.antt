-- Which words write a number.
use Rattle.std.proofs.Common.{◌≡◌, ℕ, ◌+◌, ◌-◌, ◌*◌, ◌^◌, ◌<◌, ◌≤◌, true, false, eqb, ltb, List, [], ◌∷◌, ◌++◌, length, get_or, take, drop, decimal, sym, refl, ap, ◌∙◌, ⊎_elim, arith, rules}
use Rattle.std.specs.Char.{is_ascii_digit}
use Rattle.std.specs.Str.{all_ascii_digits}
use Rattle.command.specs.Numbers.{Writes, zero_led}
use Rattle.std.proofs.lemmas.List.{take-append-drop, take_more}
use Rattle.std.proofs.lemmas.Bool.{cases_eq, cases_lt, and_parts, and_from, both_ways, ltb-true, lt-ltb, eqb-true, eqb-false, eq-eqb}
use Rattle.std.proofs.lemmas.Bool.Decides.{nat_tests}
use Rattle.std.proofs.lemmas.Str.Parse.{IsNumeralModel, numerals_by_fold, not_in_digits}
use Rattle.std.proofs.lemmas.Fmt.{decimal_nonempty, decimal_digit, first_decimal, digits_decimal, digits_value-decimal, decimal-digits_value}

-- the number that digits write, after the number so far
abbrev pub read_on : ℕ → List ℕ → ℕ
read_on n [] = n
read_on n (c ∷ cs) = read_on (10 * n + (c - 48)) cs

own : IsNumeralModel (λ ds. all_ascii_digits ds ≡ true) (read_on 0)
own = numerals_by_fold _ (search rules) read_on (search rules)

pub digits_push : (xs : List ℕ) (x : ℕ) → all_ascii_digits xs ≡ true → is_ascii_digit x ≡ true → all_ascii_digits (xs ++ x ∷ []) ≡ true
digits_push [] x a d = and_from _ _ d refl
digits_push (y ∷ xs) x a d = let p = and_parts (is_ascii_digit y) (all_ascii_digits xs) a in and_from _ _ p.0 (digits_push xs x p.1 d)

read_on_append : (n : ℕ) (xs ys : List ℕ) → read_on n (xs ++ ys) ≡ read_on (read_on n xs) ys
read_on_append n [] ys = refl
read_on_append n (x ∷ xs) ys = read_on_append (10 * n + (x - 48)) xs ys

read_on_grows : (n : ℕ) (xs : List ℕ) → n ≤ read_on n xs
read_on_grows n [] = omega arith
read_on_grows n (x ∷ xs) = omega (arith, read_on_grows (10 * n + (x - 48)) xs)

-- one digit more
pub read_more : (w : List ℕ) (i : ℕ) → i < length w → read_on 0 (take (i + 1) w) ≡ 10 * read_on 0 (take i w) + (get_or w i 0 - 48)
read_more w i h = ap (read_on 0) (take_more w i 0 h) ∙ read_on_append 0 (take i w) (get_or w i 0 ∷ [])

pub digits_more : (w : List ℕ) (i : ℕ) → i < length w → all_ascii_digits (take i w) ≡ true → is_ascii_digit (get_or w i 0) ≡ true → all_ascii_digits (take (i + 1) w) ≡ true
digits_more w i h a d = ap all_ascii_digits (take_more w i 0 h) ∙ digits_push (take i w) (get_or w i 0) a d

pub read_front : (w : List ℕ) (k : ℕ) → read_on 0 (take k w) ≤ read_on 0 w
read_front w k =
    let e : read_on 0 w ≡ read_on (read_on 0 (take k w)) (drop k w) = ap (read_on 0) (sym (take-append-drop k w)) ∙ read_on_append 0 (take k w) (drop k w) in
    omega (arith, read_on_grows (read_on 0 (take k w)) (drop k w))

-- a word writes no number below 2^64
abbrev pub NoNumber : List ℕ → Type 0
NoNumber w = (n : ℕ) → Writes w n → ⊥

pub no_bytes : (w : List ℕ) → eqb (length w) 0 ≡ true → NoNumber w
no_bytes w z n (h, e) = omega (arith, eqb-true (length w) 0 z, decimal_nonempty n h, ap length e)

pub leading_zero : (w : List ℕ) → zero_led w ≡ true → NoNumber w
leading_zero w t n (h, e) =
    let p = and_parts (ltb 1 (length w)) (eqb (get_or w 0 0) 48) t in
    let l : 1 < length w = ltb-true 1 (length w) p.0 in
    let z : get_or w 0 0 ≡ 48 = eqb-true (get_or w 0 0) 48 p.1 in
    ⊎_elim
    (λ o. let d : decimal n ≡ 48 ∷ [] = ap decimal o ∙ decimal_digit 0 (omega arith) in omega (arith, ap length (e ∙ d)))
    (λ o. let d : get_or w 0 0 ≡ get_or (decimal n) 0 0 = ap (λ x. get_or x 0 0) e in let p : 0 < n = omega arith in omega (arith, first_decimal n p h))
    (cases_eq n 0)

pub no_digit : (w : List ℕ) (i : ℕ) → i < length w → is_ascii_digit (get_or w i 0) ≡ false → NoNumber w
no_digit w i l d n (h, e) =
    not_in_digits own w (get_or w i 0) (ap all_ascii_digits e ∙ digits_decimal own n h) (λ r. outside (get_or w i 0) d r.0 r.1) i l refl
  where
    outside : (b : ℕ) → is_ascii_digit b ≡ false → 48 ≤ b → b ≤ 57 → ⊥
    outside b d lo hi = grind (arith, nat_tests)

pub too_large : (w : List ℕ) (k : ℕ) → 2 ^ 64 ≤ read_on 0 (take k w) → NoNumber w
too_large w k l n (h, e) =
    let v : read_on 0 w ≡ n = ap (read_on 0) e ∙ digits_value-decimal own n h in
    omega (arith, read_front w k)

pub writes : (w : List ℕ) → all_ascii_digits w ≡ true → eqb (length w) 0 ≡ false → zero_led w ≡ false → read_on 0 w < 2 ^ 64 → Writes w (read_on 0 w)
writes w a o z b =
    let s : 0 < length w = omega (arith, eqb-false (length w) 0 o) in
    let alone : get_or w 0 0 ≡ 48 → length w ≡ 1 = λ e. ⊎_elim
    (λ l. absurd (both_ways (zero_led w) z (and_from _ _ (lt-ltb 1 (length w) l) (eq-eqb (get_or w 0 0) 48 e))))
    (λ l. omega arith)
    (cases_lt 1 (length w)) in
    (b, sym (decimal-digits_value own w a s alone b))

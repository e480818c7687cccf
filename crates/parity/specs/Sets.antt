-- A word as a set of places: place q is in it where bit q is 1.
use Rattle.std.specs.Prelude.{◌≡◌, ℕ, zero, suc, ◌/◌, ◌%◌, ◌^◌, ◌<◌, List, [], ◌∷◌, bit_xor}

-- the bit of x at place q: 0 or 1
unfoldable pub bit : ℕ → ℕ → ℕ
bit x q = x / 2 ^ q % 2

-- s where the bit d is 1, and 0 where it is 0
abbrev pub when : ℕ → ℕ → ℕ
when zero s = zero
when (suc d) s = s

-- the exclusive or of the words at the places of x
abbrev pub xor_over : List ℕ → ℕ → ℕ
xor_over [] x = zero
xor_over (w ∷ ws) x = bit_xor (when (x % 2) w) (xor_over ws (x / 2))

-- q is the lowest place of the word x
pub record LowestPlace (x q : ℕ) : Type 0 where
  pub below : q < 64
  pub inside : bit x q ≡ 1
  pub least : (p : ℕ) → p < q → bit x p ≡ 0

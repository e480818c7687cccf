-- Numbers in words.
use Rattle.std.specs.Prelude.{◌≡◌, ℕ, ◌^◌, ◌<◌, Bool, ◌&&◌, List, length, decimal, ◌==◌, nat_lt, slice_index}

-- the word writes n in base ten, with no sign and no zero in front, and n is below 2^64
abbrev pub Writes : List ℕ → ℕ → Type 0
Writes w n = (n < 2 ^ 64) × (w ≡ decimal n)

-- a zero stands before other bytes
abbrev pub zero_led : List ℕ → Bool
zero_led w = nat_lt 1 (length w) && slice_index w 0 == 48

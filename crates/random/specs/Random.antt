-- Random numbers: the states of a generator, and the number that it draws at each.
use Rattle.std.specs.Prelude.{ℕ, ◌+◌, ◌-◌, ◌*◌, ◌/◌, ◌%◌, ◌^◌, bit_xor, bit_or}

-- the bits of a number spread over a word
abbrev pub spread : ℕ → ℕ
spread x = x * 0x9e3779b97f4a7c15 % 2 ^ 64

-- the state that a seed gives
abbrev pub seeded : ℕ → ℕ
seeded seed = bit_or (spread seed) 1

abbrev pub left_13 : ℕ → ℕ
left_13 x = bit_xor x (x * 2 ^ 13 % 2 ^ 64)

abbrev pub right_7 : ℕ → ℕ
right_7 x = bit_xor x (x / 2 ^ 7)

abbrev pub left_17 : ℕ → ℕ
left_17 x = bit_xor x (x * 2 ^ 17 % 2 ^ 64)

-- the state after a state
abbrev pub stepped : ℕ → ℕ
stepped x = left_17 (right_7 (left_13 x))

-- what is drawn as a state is left
abbrev pub drawn : ℕ → ℕ
drawn x = spread (stepped x) / 2 ^ 32

-- the same below n
abbrev pub drawn_below : ℕ → ℕ → ℕ
drawn_below x n = drawn x % n

-- two numbers below n: the second is some steps after the first, round the numbers below n, and at most n - 1
abbrev pub drawn_pair : ℕ → ℕ → ℕ × ℕ
drawn_pair x n = (drawn_below x n, (drawn_below x n + 1 + drawn_below (stepped x) (n - 1)) % n)

-- What a tree order is good for, held by a function of src/lib.rt.
use Rattle.std.specs.Prelude.{◌≡◌, ℕ, ◌-◌, ◌^◌, ◌≢◌, List, bit_xor, slice_index}
use Rattle.parity.specs.Sets.{bit}
use Rattle.islands.specs.Graphs.{Reach}
use Rattle.islands.specs.Trees.{TreeOrder}

-- without the last place of a tree order, each other place of the island is still reached from the root
abbrev pub LastPlaceCanGo : Type 0
LastPlaceCanGo = (adj : List ℕ) (live root : ℕ) (order parent : List ℕ) (n : ℕ) → TreeOrder adj live root order parent n → bit live root ≡ 1
    → (q : ℕ) → q ≢ slice_index order (n - 1) → Reach adj live root q → Reach adj (bit_xor live (2 ^ slice_index order (n - 1))) root q

-- Which coupler lets a gate through, and which gate of a list none does.
use Rattle.std.specs.Prelude.{◌≡◌, ℕ, ◌<◌, Bool, true, false, List, length, map, take, slice_index, slice_index_or}
use Rattle.chip.specs.Layout.{Layout}
use Rattle.chip.specs.Chips.{Joins}
use Rattle.machine.specs.OnCoupler.{OnCoupler, OnCouplers}
use Rattle.parity.specs.Words.{gate_of}

-- coupler k is in service and joins the places a and b
pub record ServesBetween (l : Layout) (service : List Bool) (a b k : ℕ) : Type 0 where
  pub joins : Joins l a b k
  pub serves : slice_index_or service k false ≡ true

-- of the entries, e is the first whose gate is on no coupler in service
pub record IsFirstOff (l : Layout) (service : List Bool) (entries : List ℕ) (e : ℕ) : Type 0 where
  pub at : ℕ
  pub there : at < length entries
  pub same : slice_index entries at ≡ e
  pub off : ¬ OnCoupler l service (gate_of e)
  pub before : OnCouplers l service (map gate_of (take at entries))

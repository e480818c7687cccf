-- Which refusal each call of a machine gives, if any: the checks in their order.
use Rattle.std.specs.Prelude.{ℕ, Bool, false, cond, ◌&&◌, length, Some, None, Option, ◌==◌, nat_le, nat_lt, slice_index, slice_index_or}
use Rattle.chip.specs.Layout.{Layout}
use Rattle.chip.specs.Chips.{joining}
use Rattle.machine.specs.declared.fault.MachineFault.{MachineFault}
use Rattle.machine.specs.declared.fault.MachineFault.TheVariants.{PlaceOutOfRange, NoSuchCoupler, NotCoupled, AllowanceExceeded}
use Rattle.machine.specs.Meaning.{Meaning}

abbrev pub word_at : Meaning → ℕ → ℕ
word_at s q = slice_index s.words q

abbrev pub serves_at : Meaning → ℕ → Bool
serves_at s k = slice_index_or s.service k false

-- word
abbrev pub word_fault : Layout → ℕ → Option MachineFault
word_fault l q = cond (nat_lt q l.places) None (Some PlaceOutOfRange)

-- serves and set
abbrev pub coupler_fault : Layout → ℕ → Option MachineFault
coupler_fault l k = cond (nat_lt k (length l.couplers)) None (Some NoSuchCoupler)

-- fits
abbrev pub fits_fault : Meaning → ℕ → Option MachineFault
fits_fault s g = cond (nat_le g s.allowance) None (Some (AllowanceExceeded g s.allowance))

-- there is a coupler, and it is in service
abbrev pub in_service : Meaning → Option ℕ → Bool
in_service s None = false
in_service s (Some k) = serves_at s k

-- two places, and a coupler in service joins them
abbrev pub coupled : Layout → Meaning → ℕ → ℕ → Bool
coupled l s c t = cond (c == t) false (in_service s (joining c t l.couplers))

-- cnot
abbrev pub cnot_fault : Layout → Meaning → ℕ → ℕ → Option MachineFault
cnot_fault l s c t =
    cond (nat_lt c l.places && nat_lt t l.places)
    (cond (coupled l s c t) (fits_fault s 1) (Some NotCoupled))
    (Some PlaceOutOfRange)

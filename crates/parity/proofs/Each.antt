-- What holds of each gate of a list.
use Rattle.std.proofs.Common.{ℕ, ◌<◌, ◌≤◌, List, [], ◌∷◌, ◌++◌, reverse, sym, subst, arith}
use mathlib.Core.List.{reverse-cons}
use Rattle.parity.specs.Words.{Gate}
use Rattle.parity.specs.Gates.{Each, TwoPlaces}
use Rattle.parity.specs.Pairing.{turned}

pub each_append : (P : Gate → Type 0) (gs hs : List Gate) → Each P gs → Each P hs → Each P (gs ++ hs)
each_append P [] hs a b = b
each_append P (g ∷ gs) hs a b = (a.0, each_append P gs hs a.1 b)

pub each_map : (P Q : Gate → Type 0) → ((g : Gate) → P g → Q g) → (gs : List Gate) → Each P gs → Each Q gs
each_map P Q f [] a = a
each_map P Q f (g ∷ gs) a = (f g a.0, each_map P Q f gs a.1)

pub each_parts : (P : Gate → Type 0) (gs hs : List Gate) → Each P (gs ++ hs) → Each P gs × Each P hs
each_parts P [] hs h = (tt, h)
each_parts P (g ∷ gs) hs h = let r = each_parts P gs hs h.1 in ((h.0, r.0), r.1)

pub each_reverse : (P : Gate → Type 0) (gs : List Gate) → Each P gs → Each P (reverse gs)
each_reverse P [] h = tt
each_reverse P (g ∷ gs) h = subst (Each P) (sym (reverse-cons g gs)) (each_append P (reverse gs) (g ∷ []) (each_reverse P gs h.1) (h.0, tt))

pub each_turned : (P Q : Gate → Type 0) → ((g : Gate) → P g → Q (g.1, g.0)) → (gs : List Gate) → Each P gs → Each Q (turned gs)
each_turned P Q f [] h = h
each_turned P Q f (g ∷ gs) h = (f g h.0, each_turned P Q f gs h.1)

pub two_places_more : (n m : ℕ) → n ≤ m → (g : Gate) → TwoPlaces n g → TwoPlaces m g
two_places_more n m h g f = let a : g.0 < n = f.from in let b : g.1 < n = f.to in record { apart = f.apart; from = omega arith; to = omega arith }

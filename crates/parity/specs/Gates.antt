-- What gates do to sets of places, and what may be asked of a list of gates.
use Rattle.std.specs.Prelude.{ℕ, ◌^◌, ◌<◌, ◌≢◌, List, [], ◌∷◌, bit_xor}
use Rattle.parity.specs.Words.{Gate}
use Rattle.parity.specs.Sets.{bit, when}

-- A gate changes the word at its target. The set over which the words have the same exclusive or as before
-- changes at the control: it is flipped where the target is in the set.
abbrev pub act : Gate → ℕ → ℕ
act g x = bit_xor x (when (bit x g.1) (2 ^ g.0))

abbrev pub acts : List Gate → ℕ → ℕ
acts [] x = x
acts (g ∷ gs) x = acts gs (act g x)

-- two different places, both below n
pub record TwoPlaces (n : ℕ) (g : Gate) : Type 0 where
  pub apart : g.1 ≢ g.0
  pub from : g.0 < n
  pub to : g.1 < n

-- P of each gate
abbrev pub Each : (Gate → Type 0) → List Gate → Type 0
Each P [] = Unit {0}
Each P (g ∷ gs) = P g × Each P gs

-- the gate does not flip place q of any set
abbrev pub Spares : ℕ → Gate → Type 0
Spares q g = g.0 ≢ q

-- The places of the wires in a word, gathered wire by wire.
use Rattle.std.proofs.Common.{◌≡◌, ℕ, suc, ◌+◌, ◌^◌, List, true, false, cond, eqb, get_or, ◌⊎◌, inl, inr, sym, refl, ◌∙◌, arith}
use Rattle.std.proofs.lemmas.Bool.{cases_Bool, eqb-true}
use lib.Bits.{bit_xor}
use Rattle.parity.specs.Sets.{bit}
use Rattle.replaying.specs.Islands.{places_below}

more : (at : List ℕ) (word w : ℕ) → places_below at word (w + 1) ≡ cond (eqb (bit word w) 1) (bit_xor (places_below at word w) (2 ^ get_or at w 0)) (places_below at word w)
unfolding places_below
more at word w = let e : w + 1 ≡ suc w = omega arith in rw e refl

pub placed : (at : List ℕ) (word w old new place : ℕ) → old ≡ places_below at word w → bit word w ≡ 1 → place ≡ 2 ^ get_or at w 0 → new ≡ bit_xor old place
    → new ≡ places_below at word (w + 1)
placed at word w old new place so in_word is e = let m = more at word w in grind arith

pub passed : (at : List ℕ) (word w old : ℕ) → old ≡ places_below at word w → (bit word w ≡ 1 → ⊥) → old ≡ places_below at word (w + 1)
passed at word w old so out = so ∙ sym (more at word w ∙ by (cases_Bool (eqb (bit word w) 1)))
  where
    by : (eqb (bit word w) 1 ≡ true) ⊎ (eqb (bit word w) 1 ≡ false) → cond (eqb (bit word w) 1) (bit_xor (places_below at word w) (2 ^ get_or at w 0)) (places_below at word w) ≡ places_below at word w
    by (inl t) = absurd (out (eqb-true (bit word w) 1 t))
    by (inr f) = grind arith

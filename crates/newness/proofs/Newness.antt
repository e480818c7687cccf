-- Whether a machine is new.
use Rattle.std.proofs.Common.{◌≡◌, ℕ, ◌<◌, Bool, true, false, List, length, get_or, replicate, sym, ◌∙◌, subst, arith}
use lib.ListN.{length-replicate, get_or-replicate}
use Rattle.std.specs.Bool.{MatchBool}
use Rattle.std.specs.List.{range_with_len, AllWithin}
use Rattle.std.proofs.lemmas.Bool.{false≢true}
use Rattle.std.proofs.lemmas.List.{ext_get_or}
use Rattle.std.proofs.lemmas.List.FromFn.{length-range_with_len, get_or-range_with_len}

pub all_true : (marks : List Bool) (n : ℕ) → length marks ≡ n → ((j : ℕ) → j < n → get_or marks j false ≡ true) → marks ≡ replicate n true
all_true marks n len each =
    ext_get_or false marks (replicate n true) (len ∙ sym (length-replicate n true))
    (λ i h. let k : i < n = omega arith in each i k ∙ sym (get_or-replicate n i true false k))

-- what a search through the numbers below m found of each
pub all_below : (r : Bool) (No : Type 0) (P : ℕ → Type 0) (m : ℕ) → r ≡ true
    → MatchBool r (AllWithin P (range_with_len 0 m) 0 (length (range_with_len 0 m))) No → (k : ℕ) → k < m → P k
all_below true No P m _ all k h =
    let long : length (range_with_len 0 m) ≡ m = length-range_with_len 0 m in
    let at : get_or (range_with_len 0 m) k 0 ≡ k = get_or-range_with_len 0 m k 0 h ∙ omega arith in
    subst P at (all k 0 (omega arith) (omega arith))
all_below false No P m e _ k h = absurd (false≢true e)

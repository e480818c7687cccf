-- Which passes a session takes, and which it still takes later.
use Rattle.std.specs.Prelude.{◌≡◌, ℕ, None, ◌≢◌}
use Rattle.session.specs.declared.pass.Pass.{Pass}
use Rattle.session.specs.State.{State}
use Rattle.session.specs.Outages.{end_fault}

-- the pass can be ended there
abbrev pub Ends : State → Pass → Type 0
Ends s p = end_fault s p ≡ None

-- each pass that could be ended can still be ended
pub record Keeps (s t : State) : Type 0 where
  pub stays : (p : Pass) → Ends s p → Ends t p

-- the same of each pass for another coupler
pub record KeepsOthers (s : State) (k : ℕ) (t : State) : Type 0 where
  pub stays : (p : Pass) → (p.coupler ≢ k) → Ends s p → Ends t p

-- A refusal handed on as it came.
use Rattle.std.proofs.Common.{◌≡◌, Some, None, Ok, Err, Option, Result, String, sym, refl, ap, ◌∙◌}
use Rattle.std.specs.declared.alloc.Global.{Global}
use Rattle.chip.specs.Answers.{answered}
use Rattle.chip.proofs.Answers.{answered_err}
use Rattle.replies.specs.declared.refusal.Refusal.{Refusal}
use Rattle.replies.specs.declared.reply.Reply.TheVariants as reply
use Rattle.simulation.specs.Statuses.{Status, MachineStatus}
use Rattle.simulation.specs.Calls.{Does, WordsSaid}
use Rattle.simulation.specs.Obeying.{SaysWords}

pub pass_on : {A B : Type 0} (s : Status) (fault : Option Refusal) (x : A) (y : B) (after : Status) (r : Result A Refusal) (q : Result B Refusal) (f : Refusal) (t : Status)
    → Does s fault x after r t → r ≡ Err f → q ≡ Err f → Does s fault y after q t
pass_on s fault x y after r q f t did bad same =
    let is : fault ≡ Some f = answered_err fault x f r did.answers bad in
    record { answers = same ∙ sym (ap (λ (o : Option Refusal). answered o y) is); leaves = did.leaves }

pub words_said : (o : Option MachineStatus) (line : String Global) → WordsSaid o (Ok line) → SaysWords o (Ok (reply.Line line))
words_said None line h = absurd h
words_said (Some m) line h = (line, refl, h)

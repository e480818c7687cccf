-- What a refusal of the machine comes to.
use Rattle.std.proofs.Common.{◌≡◌, Some, Err, Option, Result, sym, ap, ◌∙◌, ap₂}
use Rattle.std.specs.Option.{option_map}
use Rattle.chip.specs.Answers.{answered, kept}
use Rattle.chip.specs.Layout.{Layout}
use Rattle.machine.specs.declared.fault.MachineFault.{MachineFault}
use Rattle.machine.specs.Meaning.{Meaning}
use Rattle.replies.specs.declared.refusal.Refusal.{Refusal}
use Rattle.replies.specs.declared.refusal.Refusal.TheVariants.{Machine}
use Rattle.simulation.specs.Statuses.{Status, MachineStatus}
use Rattle.simulation.specs.Calls.{Does, on_machine}

-- the machine m refused and is as it was
pub refused : {A : Type 0} (s : Status) (m m' : MachineStatus) (fault : Layout → Meaning → Option MachineFault) (x : A) (after : Status) (f : MachineFault) (r : Result A Refusal)
    → s.machine ≡ Some m → fault m.layout m.meaning ≡ Some f → m'.layout ≡ m.layout → m'.meaning ≡ m.meaning → r ≡ Err (Machine f)
    → Does s (on_machine s.machine fault) x after r (record { chip = s.chip; machine = Some m' })
refused s m m' fault x after f r there is same_layout same_meaning bad =
    let why : on_machine s.machine fault ≡ Some (Machine f) = ap (λ (o : Option MachineStatus). on_machine o fault) there ∙ ap (λ (o : Option MachineFault). option_map Machine o) is in
    let same : m' ≡ m = ap₂ (λ (l : Layout) (e : Meaning). record { layout = l; meaning = e }) same_layout same_meaning in
    record {
      answers = bad ∙ sym (ap (λ (o : Option Refusal). answered o x) why);
      leaves = ap (λ (o : Option MachineStatus). record { chip = s.chip; machine = o }) (ap Some same ∙ sym there) ∙ sym (ap (λ (o : Option Refusal). kept o after s) why);
    }

-- What each command of a script does, to what was set up before it.
use Rattle.std.specs.Prelude.{◌≡◌, ℕ, ◌-◌, Bool, true, false, cond, ◌⊎◌, List, length, Some, None, Ok, Err, string_bytes, Option, Result}
use Rattle.std.specs.Option.{option_map}
use Rattle.chip.specs.Layout.{Layout}
use Rattle.grid.specs.Grid.{grid_fault, grid_layout}
use Rattle.map.specs.File.{map_fault, map_layout}
use Rattle.machine.specs.Calls.{coupler_fault, cnot_fault}
use Rattle.machine.specs.Meaning.{switched, played}
use Rattle.tape.specs.Tape.{tape_fault}
use Rattle.command.specs.declared.Command.{Command}
use Rattle.command.specs.declared.Command.TheVariants.{Nothing, Grid, Map, Table, Tape, Out, In, Cnot, Words, Serves, Allowance}
use Rattle.replies.specs.declared.refusal.Refusal.{Refusal}
use Rattle.replies.specs.declared.refusal.Refusal.TheVariants.{NoMachine, Chip, Machine}
use Rattle.replies.specs.declared.reply.Reply.{Reply}
use Rattle.replies.specs.declared.reply.Reply.TheVariants as reply
use Rattle.lines.specs.Lines.{words_text}
use Rattle.simulation.specs.Statuses.{Status, MachineStatus, with_chip}
use Rattle.simulation.specs.Calls.{Does, DoesOrLacks, Lacks, chipless, on_machine, changed, with_new_machine, allowance_in, serves_in, before}

abbrev pub chip_reply : Layout → Reply
chip_reply l = reply.Chip l.places (length l.couplers)

abbrev pub serves_reply : Bool → ℕ → Reply
serves_reply b k = cond b (reply.Serves k) (reply.ServesNot k)

-- the words of the machine, in a line of text
abbrev pub SaysWords : Option MachineStatus → Result Reply Refusal → Type 0
SaysWords None r = r ≡ Err NoMachine
SaysWords (Some m) r = (line : _) × (r ≡ Ok (reply.Line line)) × (string_bytes line ≡ words_text m.meaning.words)

-- a command, with the bytes of the file that it names if it names one
abbrev pub Obeys : Status → Command → List ℕ → Result Reply Refusal → Status → Type 0
Obeys s Nothing file r t = Does s None reply.Nothing s r t
Obeys s (Grid rows columns) file r t = Does s (option_map Chip (grid_fault rows columns)) (chip_reply (grid_layout rows columns)) (with_chip (grid_layout rows columns)) r t
Obeys s (Map name) file r t = DoesOrLacks s (option_map Chip (map_fault file)) (chip_reply (map_layout file)) (with_chip (map_layout file)) r t
Obeys s Table file r t = DoesOrLacks s (chipless s.chip) (reply.Table 1000000) (with_new_machine s s.chip 1000000) r t
Obeys s (Tape long) file r t =
    DoesOrLacks s (before (chipless s.chip) (option_map Machine (tape_fault long))) (reply.Tape long) (with_new_machine s s.chip long) r t
Obeys s (Out k) file r t = Does s (on_machine s.machine (λ l _. coupler_fault l k)) (reply.Out k) (changed s s.machine (λ m. switched m k false)) r t
Obeys s (In k) file r t = Does s (on_machine s.machine (λ l _. coupler_fault l k)) (reply.In k) (changed s s.machine (λ m. switched m k true)) r t
Obeys s (Cnot c g) file r t =
    Does s (on_machine s.machine (λ l m. cnot_fault l m c g)) (reply.Cnot c g (allowance_in s.machine - 1)) (changed s s.machine (λ m. played m (c, g))) r t
Obeys s Words file r t = (SaysWords s.machine r × (t ≡ s)) ⊎ Lacks s r t
Obeys s (Serves k) file r t = Does s (on_machine s.machine (λ l _. coupler_fault l k)) (serves_reply (serves_in s.machine k) k) s r t
Obeys s Allowance file r t = Does s (on_machine s.machine (λ _ _. None)) (reply.Allowance (allowance_in s.machine)) s r t

-- No two commands are said alike.
use Rattle.std.specs.Prelude.{◌≡◌, ℕ, List}
use Rattle.command.specs.declared.Command.{Command}
use Rattle.command.specs.Commands.{parts, Says}

-- commands that the same words say have the same parts: their name, their numbers and their file
abbrev pub SaidApart : Type 0
SaidApart = (ws : List (List ℕ)) (c d : Command) → Says ws c → Says ws d → parts c ≡ parts d

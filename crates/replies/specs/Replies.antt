-- The text of a reply.
use Rattle.std.specs.Prelude.{ℕ, List, [], ◌++◌, string_bytes, codes, decimal}
use Rattle.replies.specs.declared.reply.Reply.{Reply}
use Rattle.replies.specs.declared.reply.Reply.TheVariants.{Nothing, Chip, Table, Tape, Out, In, Cnot, Serves, ServesNot, Allowance, Cx, Swap, Line}

abbrev pub reply_text : Reply → List ℕ
reply_text Nothing = []
reply_text (Chip n m) = codes "chip: " ++ (decimal n ++ (codes " places, " ++ (decimal m ++ codes " couplers")))
reply_text (Table a) = codes "table: " ++ (decimal a ++ codes " gates allowed")
reply_text (Tape a) = codes "tape: " ++ (decimal a ++ codes " gates allowed")
reply_text (Out k) = codes "coupler " ++ (decimal k ++ codes " taken out of service")
reply_text (In k) = codes "coupler " ++ (decimal k ++ codes " put in service")
reply_text (Cnot c t left) = codes "cnot " ++ (decimal c ++ (codes " " ++ (decimal t ++ (codes ": " ++ (decimal left ++ codes " left")))))
reply_text (Serves k) = codes "coupler " ++ (decimal k ++ codes " is in service")
reply_text (ServesNot k) = codes "coupler " ++ (decimal k ++ codes " is out of service")
reply_text (Allowance left) = codes "allowance: " ++ (decimal left ++ codes " left")
reply_text (Cx a b) = codes "cx " ++ (decimal a ++ (codes " " ++ (decimal b ++ codes " collected")))
reply_text (Swap a b) = codes "swap " ++ (decimal a ++ (codes " " ++ (decimal b ++ codes " collected")))
reply_text (Line line) = string_bytes line

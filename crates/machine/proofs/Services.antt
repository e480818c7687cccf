-- Marks as the service of a chip's couplers.
use Rattle.std.proofs.Common.{◌≡◌, true, length, take, replicate, ap, ◌∙◌, arith}
use Rattle.std.proofs.lemmas.List.{length-take, take-replicate}
use Rattle.chip.specs.Layout.{Layout, Sound}
use Rattle.machine.specs.declared.marks.Marks.{Marks}
use Rattle.machine.specs.Service.{service_of}

pub one_mark_each : (l : Layout) (m : Marks) → Sound l → length (service_of l m) ≡ length l.couplers
one_mark_each l m so = let a = so.at_most_256 in let b = m.room in let e = length-take (length l.couplers) m.marks in omega arith

pub all_in : (l : Layout) (m : Marks) → Sound l → m.marks ≡ replicate 256 true → service_of l m ≡ replicate (length l.couplers) true
all_in l m so e = ap (take (length l.couplers)) e ∙ take-replicate (length l.couplers) 256 true so.at_most_256

use Rattle.std.proofs.Common.{◌≡◌, map, take}
use Rattle.desk_cut.specs.Sent.{file_in}
use Rattle.desk_cut.proofs.files.modifiers_of.Given as goal

abbrev pub invariant-loop-file : goal.invariant-loop-file
invariant-loop-file l = l.modifiers.items ≡ map (λ f. f.modifier) (map file_in (take l.file-index l.files))

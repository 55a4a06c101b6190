use Rattle.std.proofs.Common.{◌≡◌, drop}
use Rattle.std.specs.Prelude.{find}
use Rattle.desk_book.specs.Steps.{is_file}
use Rattle.memory_store.proofs.items.text_at.Given as goal

abbrev pub invariant-loop-file : goal.invariant-loop-file
invariant-loop-file l = find (is_file l.day l.modifier) (drop l.file-index l.files) ≡ find (is_file l.day l.modifier) l.files

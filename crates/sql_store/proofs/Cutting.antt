-- What the edit of a cut makes, where its first entry has the place after those that were sent before.
use Rattle.std.proofs.Common.{◌≡◌, ◌∙◌, ◌+◌, ℕ, ap}
use Rattle.desk_book.specs.Steps.{CutWrite}
use Rattle.desk_store.specs.Written.{commit_cut_after}
use Rattle.sql_tables.specs.TableEdits.{commit_cut_edit}
use Rattle.sql_write_laws.specs.Making.{Makes, MakesCut}

pub makes_after : (before first : ℕ) (x : CutWrite) → first ≡ before + 1 → MakesCut first x → Makes (commit_cut_edit first x) (commit_cut_after before x)
makes_after before first x is makes = λ trees t b stored encodes admits told. makes trees t b stored encodes (admits.0, is ∙ ap (λ n. n + 1) admits.1) told

-- The queries of the version, and of its row, are SELECTs.
use Rattle.std.proofs.Common.{ℤ, [], refl}
use Rattle.sqlite.specs.State.{State, IsUnchanged}
use Rattle.sqlite_resolve.specs.Compile.{first}
use Rattle.sqlite_tied.specs.Compute.{everything}
use Rattle.sql_statements.specs.SelectTexts.{IsSelectText}
use Rattle.sql_statements.proofs.Queries.{shown_same}
use Rattle.sql_statements.proofs.SelectTexts.{select_returns_none}
use Rattle.sql_setup.specs.Versions.{version_text, row_text, ShowsVersion}

pub version_selects : IsSelectText version_text
unfolding first everything
version_selects = refl

pub row_selects : IsSelectText row_text
unfolding first everything
row_selects = refl

-- where it was shown, nothing has changed
pub shown_unchanged : (old new : State) (n : ℤ) → ShowsVersion old new n → IsUnchanged old new
shown_unchanged old new n read = shown_same version_text [] old new read.rows (select_returns_none version_text version_selects) read.shown

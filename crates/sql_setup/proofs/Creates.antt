-- Each text of a desk's definitions makes what it says, in the schema of those before it.
use Rattle.std.proofs.Common.{[], refl}
use Rattle.sqlite_tied.specs.Compute.{everything}
use Rattle.sqlite.specs.Listing.{understood}
use Rattle.sql_tables.specs.Schema.{desk_definitions, schema_of}
use Rattle.sql_setup.specs.Creation.{AreMadeIn}

pub all_are_made : AreMadeIn (schema_of []) desk_definitions
unfolding understood everything
all_are_made = (record { is = refl; whole = refl; plain = (refl, refl); defines = refl; uncounted = refl }, (record { is = refl; whole = refl; plain = (refl, refl); defines = refl; uncounted = refl }, (record { is = refl; whole = refl; plain = (refl, refl); defines = refl; uncounted = refl }, (record { is = refl; whole = refl; plain = (refl, refl); defines = refl; uncounted = refl }, (record { is = refl; whole = refl; plain = (refl, refl); defines = refl; uncounted = refl }, (record { is = refl; whole = refl; plain = (refl, refl); defines = refl; uncounted = refl }, (record { is = refl; whole = refl; plain = (refl, refl); defines = refl; uncounted = refl }, (record { is = refl; whole = refl; plain = (refl, refl); defines = refl; uncounted = refl }, (record { is = refl; whole = refl; plain = (refl, refl); defines = refl; uncounted = refl }, (record { is = refl; whole = refl; plain = (refl, refl); defines = refl; uncounted = refl }, (record { is = refl; whole = refl; plain = (refl, refl); defines = refl; uncounted = refl }, (record { is = refl; whole = refl; plain = (refl, refl); defines = refl; uncounted = refl }, (record { is = refl; whole = refl; plain = (refl, refl); listed = refl; defines = refl }, (record { is = refl; whole = refl; plain = (refl, refl); listed = refl; defines = refl }, (record { is = refl; whole = refl; plain = (refl, refl); listed = refl; defines = refl }, (record { is = refl; whole = refl; plain = (refl, refl); listed = refl; defines = refl }, (record { is = refl; whole = refl; plain = (refl, refl); listed = refl; defines = refl }, (record { is = refl; whole = refl; plain = (refl, refl); listed = refl; defines = refl }, (record { is = refl; whole = refl; plain = (refl, refl); defines = refl; uncounted = refl }, (record { is = refl; whole = refl; plain = (refl, refl); defines = refl; uncounted = refl }, tt))))))))))))))))))))

-- A command over the files that its syncs ask for.
use Rattle.std.proofs.Common.{◌≡◌, subst, sym}
use Rattle.cli_words.specs.declared.syncs.Syncs.{Syncs}
use Rattle.cli_words.specs.declared.syncs.Syncs.TheVariants.{Once, Twice}
use Rattle.desk_cli.specs.Commands.{OnSyncs}

pub on_once : {once : Type 0} (twice : Type 0) (s : Syncs) → s ≡ Once → once → OnSyncs s once twice
on_once {once} twice s is ran = subst (λ (x : Syncs). OnSyncs x once twice) (sym is) ran

pub on_twice : {twice : Type 0} (once : Type 0) (s : Syncs) → s ≡ Twice → twice → OnSyncs s once twice
on_twice {twice} once s is ran = subst (λ (x : Syncs). OnSyncs x once twice) (sym is) ran

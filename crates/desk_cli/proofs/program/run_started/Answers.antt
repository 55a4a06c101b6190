use Rattle.std.proofs.Common.{◌≢◌, List, [], drop, map, Err, refl, subst}
use Rattle.std.specs.Prelude.{String, string_bytes}
use Rattle.std.specs.declared.alloc.Global.{Global}
use Rattle.cli_words.specs.declared.command.LineFault.TheVariants.{NoMemory}
use Rattle.desk_cli.proofs.StartedLemmas.{gives_no_memory, some_mapped}
use Rattle.desk_cli.proofs.program.run_started.Goals as goal

pub returns-clause-runs : goal.returns-clause-runs
returns-clause-runs g c =
    let words = c.in-Ok.words.items in
    let some : drop 1 words ≢ [] = subst (λ (ws : List (String Global)). drop 1 ws ≢ []) c.deref.ensures.value c.in-Err-texts_after_name.ensures.memory in
    rw c.in-Ok.is (Err NoMemory, gives_no_memory (map string_bytes (drop 1 words)) (some_mapped string_bytes (drop 1 words) some), (c.print_line_fault-in-Err-texts_after_name.ensures.printed, refl))

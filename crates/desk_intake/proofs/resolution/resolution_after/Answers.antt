use Rattle.std.proofs.Common.{◌≡◌, ◌∙◌, ap, subst, Bool, Result, Ok, option_map}
use Rattle.std.specs.Prelude.{IfOk}
use Rattle.desk_history.specs.declared.operations.SuspenseReason.{SuspenseReason}
use Rattle.desk_history.specs.Resolve.{ResolvedItem, resolve_entry}
use Rattle.desk_book.specs.OnIntake.{unless_repeated, was_returned}
use Rattle.desk_intake.specs.ReturnedEntries.{Resolves}
use Rattle.desk_intake.specs.Resolutions.{matched_item_as, resolution_as}
use Rattle.desk_intake.proofs.resolution.resolution_after.Goals as goal

pub returns-in-Ok : goal.returns-in-Ok
returns-in-Ok c =
    let named = c.args.found.now.named in
    let item = c.args.found.now.item in
    let met : Ok (matched_item_as c.in-Ok.met) ≡ resolve_entry (option_map (λ n. n.entry) named) item = c.in-Ok.ensures ∙ ap (λ e. resolve_entry e item) c.entry_of.ensures in
    subst (λ (r : Result ResolvedItem SuspenseReason). IfOk c.unless_repeated.result (λ outcome. Resolves c.args.earlier.now c.unless_repeated.new.earlier (λ es. unless_repeated es (was_returned named) r) (resolution_as outcome))) met
    (subst (λ (b : Bool). IfOk c.unless_repeated.result (λ outcome. Resolves c.args.earlier.now c.unless_repeated.new.earlier (λ es. unless_repeated es b (Ok (matched_item_as c.in-Ok.met))) (resolution_as outcome))) c.was_returned.ensures c.unless_repeated.ensures)

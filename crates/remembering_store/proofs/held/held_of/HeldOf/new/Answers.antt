use Rattle.std.proofs.Common.{◌∙◌, ap, sym, List}
use Rattle.std.specs.Prelude.{not}
use Rattle.std.specs.List.{list_all}
use Rattle.desk_book.specs.declared.held_size.HeldSize.{HeldSize}
use Rattle.remembering_store.proofs.HeldSizes.{first_kept}
use Rattle.remembering_store.proofs.held.held_of.HeldOf.new.Goals as goal

pub returns : goal.returns
returns c = λ rs is.
    first_kept (record { sizes = c.args.sizes; decided = c.new.result; most = c.args.most }) rs c.new.ensures.empty is
    (ap (λ (zs : List HeldSize). list_all (λ z. not z.is_retry) zs) (sym c.deref.ensures.value) ∙ sym c.are_plain.ensures ∙ c.if-not-are_plain.false)

use Rattle.std.proofs.Common.{rules, ◌≡◌, sym, ap, ◌∙◌}
use Rattle.sqlite.specs.Schema.{Schema}
use Rattle.sql_migration.proofs.FirstSchemas.{but_two, first_tables, first_indexes, is_first}
use Rattle.sql_migration.proofs.first.is_first_schema.Goals as goal

pub returns-then-not-are_same_indexes-clause-found : goal.returns-then-not-are_same_indexes-clause-found
returns-then-not-are_same_indexes-clause-found c is =
    let same = c.are_same_indexes.ensures.1 (ap but_two c.as_slice-2.ensures ∙ first_indexes c.args.pattern.now c.requires ∙ sym (ap (λ (s : Schema). s.indexes) is) ∙ sym c.as_slice-4.ensures) in
    let other = c.if-not-are_same_indexes.true in
    search rules

pub returns-clause-told : goal.returns-clause-told
returns-clause-told c none =
    let tables : but_two c.as_slice.result.now ≡ c.as_slice-3.result.now = c.are_same_tables.ensures.told (search rules) in
    let indexes : but_two c.as_slice-2.result.now ≡ c.as_slice-4.result.now = c.are_same_indexes.ensures.0 (search rules) in
    is_first c.args.schema.now
    (sym c.as_slice-3.ensures ∙ sym tables ∙ ap but_two c.as_slice.ensures ∙ first_tables c.args.pattern.now c.requires)
    (sym c.as_slice-4.ensures ∙ sym indexes ∙ ap but_two c.as_slice-2.ensures ∙ first_indexes c.args.pattern.now c.requires)
    (search rules)

-- The schema of a desk has plain tables alone.
use Rattle.std.proofs.Common.{ℕ, Bool, true, false, List, refl}
use Rattle.std.specs.List.{AllByRecursion}
use Rattle.sqlite_schema.specs.declared.schema.Column.{Column}
use Rattle.sqlite_value.specs.declared.keys.Order.{Order}
use Rattle.sql_statements.specs.PlainTable.{table_at}
use Rattle.sql_tables.specs.Schema.{desk_schema}
use Rattle.sql_setup.specs.Plain.{IsPlainColumn, IsPlainTable, IsPlainSchema}

plain_at : (by_key : Bool) {tree : ℕ} {name : List ℕ} {columns : List Column} {primary : List ℕ} {uniques : List (List ℕ)} {orders : List Order} → AllByRecursion IsPlainColumn columns → IsPlainTable (table_at by_key tree name columns primary uniques orders)
plain_at by_key columns = record { columns = columns; checks = refl; references = refl; computed = refl; stamps = refl }

pub desk_is_plain : IsPlainSchema desk_schema
desk_is_plain = record {
  tables = (
    plain_at false (refl, (refl, (refl, (refl, (refl, (refl, (refl, (refl, tt)))))))),
    (
      plain_at false (refl, tt),
      (
        plain_at false (refl, (refl, (refl, (refl, (refl, (refl, tt)))))),
        (
          plain_at false (refl, (refl, (refl, (refl, (refl, (refl, (refl, (refl, (refl, (refl, (refl, (refl, (refl, (refl, tt)))))))))))))),
          (
            plain_at false (refl, (refl, (refl, (refl, (refl, (refl, (refl, (refl, (refl, (refl, (refl, (refl, tt)))))))))))),
            (
              plain_at true (refl, (refl, (refl, (refl, (refl, (refl, (refl, (refl, tt)))))))),
              (
                plain_at true (refl, (refl, (refl, (refl, (refl, (refl, (refl, tt))))))),
                (
                  plain_at true (refl, (refl, (refl, (refl, (refl, (refl, (refl, tt))))))),
                  (
                    plain_at true (refl, (refl, (refl, (refl, (refl, (refl, (refl, (refl, tt)))))))),
                    (
                      plain_at false (refl, (refl, (refl, tt))),
                      (
                        plain_at false (refl, (refl, (refl, (refl, (refl, (refl, (refl, tt))))))),
                        (
                          plain_at false (refl, (refl, (refl, tt))),
                          (
                            plain_at true (refl, (refl, tt)),
                            (
                              plain_at false (refl, (refl, (refl, tt))),
                              tt,
                            ),
                          ),
                        ),
                      ),
                    ),
                  ),
                ),
              ),
            ),
          ),
        ),
      ),
    ),
  );
  views = refl;
}

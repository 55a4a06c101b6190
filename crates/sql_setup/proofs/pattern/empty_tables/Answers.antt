use Rattle.std.proofs.Common.{rules, ◌≡◌, [], ap, ◌∙◌}
use Rattle.sqlite.specs.Held.{state}
use Rattle.sqlite.specs.Steps.{over_memory}
use Rattle.sql_statements.specs.Definitions.{IsBlank}
use Rattle.sql_tables.specs.Schema.{desk_schema, schema_of}
use Rattle.sql_setup.proofs.Memory.{memory_is_clean}
use Rattle.sql_setup.proofs.pattern.empty_tables.Goals as goal

pub returns : goal.returns
returns c =
    let blank : IsBlank (schema_of []) (state over_memory c.transaction-tx.result.conn.now).now = record { schema_is = ap (λ h. h.schema) c.transaction-tx.ensures.begun ∙ c.in_ok-conn.ensures.empty.2; empty = tt } in
    let made = c.in_ok-create_tables.ensures.makes (memory_is_clean c.create_tables.new.tx.conn.now) blank in
    let kept = c.in_ok-commit.ensures.ok (memory_is_clean c.commit.new.self.0) in
    let is : c.commit.new.self.0.schema ≡ desk_schema = ap (λ d. d.schema) kept.1.now_is ∙ made.schema_is in
    search rules

use Rattle.std.proofs.Common.{rules, ◌≡◌, Some, Ok, ap, sym, ◌∙◌, subst, to_z, of_z}
use Rattle.std.specs.Int.{w128}
use Rattle.std.specs.Prelude.{IsUtf8}
use Rattle.sql_tables.proofs.Decimals.{parses, signed_is_utf8}
use Rattle.sql_tables.proofs.column.decimals.number_of.Goals as goal

pub returns-in_default : goal.returns-in_default
returns-in_default c n fits is = absurd (c.in_default.ensures.cases.0 (subst IsUtf8 (sym is) (signed_is_utf8 n fits)))

pub returns-in_default-parse : goal.returns-in_default-parse
returns-in_default-parse c n fits is =
    absurd (c.in_default-parse.not-Ok n (parses n c.in-Ok.text.now c.parse.result fits (c.in-Ok.ensures.cases.0 ∙ is) c.parse.ensures.value.0))

pub returns : goal.returns
returns c n fits is =
    let read : c.parse.result ≡ Ok n = parses n c.in-Ok.text.now c.parse.result fits (c.in-Ok.ensures.cases.0 ∙ is) c.parse.ensures.value.0 in
    let same : c.in-Ok-parse.number ≡ n = cc in
    let whole : to_z w128 (of_z w128 c.in-Ok-parse.number) ≡ c.in-Ok-parse.number = search rules in
    ap Some (whole ∙ same)

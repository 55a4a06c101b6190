use Rattle.std.proofs.Common.{rules, ◌≡◌, ◌∙◌, Some, subst}
use Rattle.sql_tables.specs.TableReads.{facts_in}
use Rattle.sql_reads.specs.Known.{IsKnown}
use Rattle.sql_reads.proofs.last_submission.known_of.Goals as goal

pub returns-in-Some : goal.returns-in-Some
returns-in-Some c t is =
    let known = c.in-Some.known in
    let so : Some known.facts ≡ facts_in known.company known.order t = subst (λ last. IsKnown last t) c.in-Some.is is in
    let company : known.company ≡ c.args.company = search rules in
    let order : known.order ≡ c.args.order = search rules in
    so ∙ (λ i. facts_in (company i) (order i) t)

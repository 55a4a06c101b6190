use Rattle.std.proofs.Common.{rules, ◌++◌, ◌∷◌, [], subst}
use Rattle.std.specs.Prelude.{IsSome}
use Rattle.desk_book.specs.Standing.{next_row}
use Rattle.remembering_store.specs.KnownCompany.{AgreesWith}
use Rattle.remembering_store.proofs.Companies.{company_followed_there}
use Rattle.remembering_store.proofs.sums.KnownSums.add.Goals as goal

pub returns-else-not-add : goal.returns-else-not-add
returns-else-not-add c = λ b retry is numbered right.
    let w = c.add.new.self in
    let there = c.in-Some.ensures.value in
    let put = (c.get_mut.follows.holds w).3 (subst (λ o. IsSome o) there (search rules)) in
    company_followed_there AgreesWith c.args.company (λ rs. rs ++ next_row rs c.args.content.now retry ∷ []) c.args.self.now.companies (c.get_mut.follows.lender w) c.in-Some.known.now w b there put.0
    (λ was. c.add.ensures c.if-not-add.false (b.rows c.args.company) retry is (numbered c.args.company) was) right

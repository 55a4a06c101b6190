use Rattle.std.proofs.Common.{sym, ◌∙◌}
use Rattle.desk_calls.proofs.Statements.{answered, of_sums}
use Rattle.desk_calls.proofs.company.reads.statement_of.Goals as goal

pub returns : goal.returns
returns g c =
    record {
      before = λ clean. c.company_limits.ensures.before (c.desk_day.ensures.before (c.balances_of.ensures.before (c.postings_of.ensures.before clean)));
      answers = λ clean b held.
          let company = c.args.company in
          let before_sums = c.postings_of.ensures.before clean in
          let before_day = c.balances_of.ensures.before before_sums in
          let limits_read = c.in_ok-why.ensures.read (c.desk_day.ensures.before before_day) b held in
          let day_read = c.in_ok-day.ensures.read before_day b limits_read.1 in
          let sums_read = c.in_ok-sums.ensures.read before_sums b day_read.1 in
          let rows_read = c.in_ok-postings.ensures.read clean b sums_read.1 in
          let is = of_sums c.balances_by_day.ensures b company c.in-Ok.day c.deref.result.now c.in_ok-postings.postings.items c.in_ok-statement.statement
          (c.deref.ensures.value ∙ sums_read.0) rows_read.0 c.in_ok-statement.ensures in
          (answered b company c.in_default.field-0 c.in-Ok.day c.in_ok-statement.statement (sym limits_read.0 ∙ c.in_default.is) (sym day_read.0 ∙ c.in-Ok.is) is, rows_read.1);
      left = λ clean kept may.
          let before_sums = c.postings_of.ensures.before clean in
          let before_day = c.balances_of.ensures.before before_sums in
          c.company_limits.ensures.left (c.desk_day.ensures.before before_day) kept (c.desk_day.ensures.left before_day kept (c.balances_of.ensures.left before_sums kept (c.postings_of.ensures.left clean kept may)));
    }

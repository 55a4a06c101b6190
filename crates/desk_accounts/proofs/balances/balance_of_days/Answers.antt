use Rattle.std.proofs.Common.{rules, ◌≡◌, None, Some, MatchOption, subst, sym, arith}
use Rattle.std.proofs.lemmas.Int.{to_z-of_z}
use Rattle.desk_accounts.specs.Balance.{SumLeaves, IsDaysBalance}
use Rattle.desk_accounts.proofs.Lines.{row_leaves, row_more, fits_more}
use Rattle.desk_accounts.proofs.balances.balance_of_days.Goals as goal

pub returns-in_err-sum : goal.returns-in_err-sum
returns-in_err-sum c =
    let none : c.with_row.result ≡ None = search rules in
    subst (λ r. MatchOption r (SumLeaves c.args.day c.args.rows.now) (IsDaysBalance c.args.day c.args.rows.now)) (sym c.from_residual.ensures)
    (row_leaves c.args.day c.args.rows.now c.loop-row.row-index c.row-item.result c.loop-row.sum c.loop-row-test.true (grind (arith, to_z-of_z)) (grind (arith, to_z-of_z)))

pub loop-row-preserved : goal.loop-row-preserved
loop-row-preserved c =
    let some : c.with_row.result ≡ Some c.in_ok-sum.sum = search rules in
    let more = row_more c.args.day c.args.rows.now c.loop-row.row-index c.row-item.result c.loop-row.sum c.in_ok-sum.sum c.loop-row-test.true (grind (arith, to_z-of_z)) (grind (arith, to_z-of_z)) in
    record { so_far = grind (arith, to_z-of_z); fits = fits_more c.args.day c.args.rows.now c.loop-row.row-index c.loop-row.invariant.fits more.1 }

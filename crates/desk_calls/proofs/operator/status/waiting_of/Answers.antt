use Rattle.std.proofs.Common.{◌∙◌, ap}
use Rattle.std.specs.Prelude.{filter}
use Rattle.desk_book.specs.Standing.{is_held}
use Rattle.desk_cut.proofs.BySize.{waiting_by_size}
use Rattle.desk_cut.specs.Sizes as size
use Rattle.desk_calls.proofs.operator.status.waiting_of.Goals as goal

pub returns-in-Ok : goal.returns-in-Ok
returns-in-Ok g c =
    let k = c.args.company.now in
    record {
      before = λ clean. c.held_sizes_of.ensures.before clean;
      read = λ clean b held.
          let got = c.in_ok-sizes.ensures.read clean b held in (
            c.in-Ok.ensures.value
                ∙ ap (size.waiting_by_size c.args.day.now c.args.holidays.now k) (c.deref.ensures.value ∙ got.0)
                ∙ waiting_by_size c.args.day.now c.args.holidays.now k (b.rows k.id) (filter is_held (b.rows k.id)),
            got.1,
          );
      left = λ clean kept may. c.held_sizes_of.ensures.left clean kept may;
    }

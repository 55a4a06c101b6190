use Rattle.std.proofs.Common.{◌≡◌, length, take, arith, sym, length-take-le}
use Rattle.http_answers.proofs.operator.cut.first_files.Goals as goal

pub slice_bounds-result-end : goal.slice_bounds-result-end
slice_bounds-result-end c = sym (length-take-le 36 c.args.files.now (omega (arith, c.if-files-gt-MOST_FILES.true)))

pub returns-then-files-gt-MOST_FILES-clause-few : goal.returns-then-files-gt-MOST_FILES-clause-few
returns-then-files-gt-MOST_FILES-clause-few c =
    let cut : length (take 36 c.args.files.now) ≡ 36 = length-take-le 36 c.args.files.now (omega (arith, c.if-files-gt-MOST_FILES.true)) in
    omega (arith, cut)

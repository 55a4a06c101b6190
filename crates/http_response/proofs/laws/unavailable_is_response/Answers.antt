use Rattle.std.proofs.Common.{◌≡◌, refl, arith}
use Rattle.std.specs.Prelude.{decimal, codes}
use Rattle.std.proofs.lemmas.Fmt.{decimal-digits_of}
use Rattle.http_response.specs.Response.{line, status_line}
use Rattle.http_response.proofs.laws.unavailable_is_response.Goals as goal

pub returns-clause-response : goal.returns-clause-response
unfolding line status_line
returns-clause-response c =
    let status : decimal 503 ≡ codes "503" = decimal-digits_of 503 (omega arith) (omega arith) in
    let size : decimal 23 ≡ codes "23" = decimal-digits_of 23 (omega arith) (omega arith) in
    rw (status, size) refl

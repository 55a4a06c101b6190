-- The phrases of statuses are short.
use Rattle.std.proofs.Common.{ℕ, ◌≤◌, Bool, true, false, List, [], length, Option, arith}
use Rattle.std.specs.Prelude.{◌==◌, unwrap_or, if◌then◌else◌}
use Rattle.http.specs.StatusCode.{reason_phrase}

abbrev pub IsShort : Option (List ℕ) → Type 0
IsShort phrase = length (unwrap_or phrase []) ≤ 31

either : (b : Bool) (x y : Option (List ℕ)) → IsShort x → IsShort y → IsShort (if b then x else y)
either true x y short other = short
either false x y short other = other

pub phrase_is_short : (n : ℕ) → IsShort (reason_phrase n)
phrase_is_short n =
    either (n == 100) _ _ (omega arith) (
    either (n == 101) _ _ (omega arith) (
    either (n == 102) _ _ (omega arith) (
    either (n == 103) _ _ (omega arith) (
    either (n == 200) _ _ (omega arith) (
    either (n == 201) _ _ (omega arith) (
    either (n == 202) _ _ (omega arith) (
    either (n == 203) _ _ (omega arith) (
    either (n == 204) _ _ (omega arith) (
    either (n == 205) _ _ (omega arith) (
    either (n == 206) _ _ (omega arith) (
    either (n == 207) _ _ (omega arith) (
    either (n == 208) _ _ (omega arith) (
    either (n == 226) _ _ (omega arith) (
    either (n == 300) _ _ (omega arith) (
    either (n == 301) _ _ (omega arith) (
    either (n == 302) _ _ (omega arith) (
    either (n == 303) _ _ (omega arith) (
    either (n == 304) _ _ (omega arith) (
    either (n == 305) _ _ (omega arith) (
    either (n == 307) _ _ (omega arith) (
    either (n == 308) _ _ (omega arith) (
    either (n == 400) _ _ (omega arith) (
    either (n == 401) _ _ (omega arith) (
    either (n == 402) _ _ (omega arith) (
    either (n == 403) _ _ (omega arith) (
    either (n == 404) _ _ (omega arith) (
    either (n == 405) _ _ (omega arith) (
    either (n == 406) _ _ (omega arith) (
    either (n == 407) _ _ (omega arith) (
    either (n == 408) _ _ (omega arith) (
    either (n == 409) _ _ (omega arith) (
    either (n == 410) _ _ (omega arith) (
    either (n == 411) _ _ (omega arith) (
    either (n == 412) _ _ (omega arith) (
    either (n == 413) _ _ (omega arith) (
    either (n == 414) _ _ (omega arith) (
    either (n == 415) _ _ (omega arith) (
    either (n == 416) _ _ (omega arith) (
    either (n == 417) _ _ (omega arith) (
    either (n == 418) _ _ (omega arith) (
    either (n == 421) _ _ (omega arith) (
    either (n == 422) _ _ (omega arith) (
    either (n == 423) _ _ (omega arith) (
    either (n == 424) _ _ (omega arith) (
    either (n == 425) _ _ (omega arith) (
    either (n == 426) _ _ (omega arith) (
    either (n == 428) _ _ (omega arith) (
    either (n == 429) _ _ (omega arith) (
    either (n == 431) _ _ (omega arith) (
    either (n == 451) _ _ (omega arith) (
    either (n == 500) _ _ (omega arith) (
    either (n == 501) _ _ (omega arith) (
    either (n == 502) _ _ (omega arith) (
    either (n == 503) _ _ (omega arith) (
    either (n == 504) _ _ (omega arith) (
    either (n == 505) _ _ (omega arith) (
    either (n == 506) _ _ (omega arith) (
    either (n == 507) _ _ (omega arith) (
    either (n == 508) _ _ (omega arith) (
    either (n == 510) _ _ (omega arith) (
    either (n == 511) _ _ (omega arith) (
    omega arith))))))))))))))))))))))))))))))))))))))))))))))))))))))))))))))

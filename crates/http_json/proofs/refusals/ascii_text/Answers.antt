use Rattle.std.proofs.Common.{Result, Ok, Err, MatchResult, rules}
use Rattle.std.specs.Result.{IsOk}
use Rattle.std.proofs.lemmas.Str.{IsUtf8-from_ascii}
use Rattle.http_json.proofs.refusals.ascii_text.Goals as goal

ok_when : {A E : Type 0} (P : A → Type 0) (Q : E → Type 0) (U : Type 0) (r : Result A E) → MatchResult r P (λ e. ¬ U × Q e) → U → IsOk r
ok_when P Q U (Ok x) h u = search rules
ok_when P Q U (Err e) h u = absurd (h.0 u)

pub unwrap-requires : goal.unwrap-requires
unwrap-requires c = ok_when _ _ _ _ c.from_utf8.ensures.cases (IsUtf8-from_ascii c.args.bytes.now c.requires)

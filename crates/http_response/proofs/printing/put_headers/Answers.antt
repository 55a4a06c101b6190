use Rattle.std.proofs.Common.{◌≡◌, ℕ, List, ◌++◌, ap, ◌∙◌, append_assoc}
use Rattle.http_response.specs.Response.{line}
use Rattle.http_response.proofs.printing.put_headers.Goals as goal

-- four pieces in a row
four : (o a b c d p q r s : List ℕ) → p ≡ o ++ a → q ≡ p ++ b → r ≡ q ++ c → s ≡ r ++ d → s ≡ o ++ (a ++ b ++ c ++ d)
four o a b c d p q r s e f g h =
    h ∙ ap (λ l. l ++ d) (g ∙ ap (λ l. l ++ c) (f ∙ ap (λ l. l ++ b) e))
    ∙ ap (λ l. l ++ d) (ap (λ l. l ++ c) (append_assoc o a b) ∙ append_assoc o (a ++ b) c) ∙ append_assoc o (a ++ b ++ c) d

pub returns-clause-items : goal.returns-clause-items
returns-clause-items c =
    four _ _ _ _ _ _ _ _ _
    (c.put_line.ensures.items ∙ ap (λ l. c.args.out.now.items ++ line _ l) (c.as_bytes.ensures.value ∙ c.content_type_of.ensures.text))
    c.put_size.ensures.items
    (c.put_line-2.ensures.items ∙ ap (λ l. c.put_size.new.out.items ++ line _ l) (c.as_bytes-2.ensures.value ∙ c.connection_of.ensures.text))
    c.put_line-3.ensures.items

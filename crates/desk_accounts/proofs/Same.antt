-- One account or two.
use Rattle.std.proofs.Common.{◌≡◌, ◌↔◌, IsTrue, Bool, nat_eq, refl, ap, subst, sym}
use Rattle.std.proofs.lemmas.Bool.{false≢true}
use Rattle.std.proofs.lemmas.Bool.Decides.{Decides-eqb}
use Rattle.std.proofs.lemmas.Slice.Eq.{slice_eq-Decides}
use Rattle.std.specs.Bool.{Decides}
use Rattle.std.specs.Cmp.Lexicographic.{pointwise}
use Rattle.desk_accounts.specs.declared.account.Account.{Account}
use Rattle.desk_accounts.specs.declared.account.Account.TheVariants.{Company, Operator, Suspense}
use Rattle.desk_accounts.specs.Posting.{same_account}

-- the test says whether the two are equal
same_decides : (a b : Account) → Decides (same_account a b) (a ≡ b)
same_decides (Company a) (Company b) =
    let d = slice_eq-Decides Decides-eqb a b (pointwise nat_eq a b) refl in
    (λ t. ap Company (d.0 t), λ e. d.1 cc)
same_decides Operator Operator = (λ t. refl, λ e. refl)
same_decides Suspense Suspense = (λ t. refl, λ e. refl)
same_decides (Company a) Operator = (λ t. absurd (false≢true t), λ e. cc)
same_decides (Company a) Suspense = (λ t. absurd (false≢true t), λ e. cc)
same_decides Operator (Company b) = (λ t. absurd (false≢true t), λ e. cc)
same_decides Operator Suspense = (λ t. absurd (false≢true t), λ e. cc)
same_decides Suspense (Company b) = (λ t. absurd (false≢true t), λ e. cc)
same_decides Suspense Operator = (λ t. absurd (false≢true t), λ e. cc)

pub same_is : (r : Bool) (a b : Account) → r ≡ same_account a b → IsTrue r ↔ (a ≡ b)
same_is r a b h = subst (λ s. IsTrue s ↔ (a ≡ b)) (sym h) (same_decides a b)

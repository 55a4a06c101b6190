-- What is remembered of the open submissions of companies, and when it agrees with their rows.
use Rattle.std.specs.Prelude.{◌≡◌, ℕ, Bool, if◌then◌else◌, List, None, IfSome, is_some, bytes_eq}
use Rattle.std.specs.HashMap.{get}
use Rattle.desk_book.specs.Book.{Book}
use Rattle.remembering_store.specs.CompanyKeys.{is_same_company}
use Rattle.remembering_store.specs.KnownCompany.{AgreesWith}
use Rattle.remembering_store.specs.declared.company_key.CompanyKey.{CompanyKey}
use Rattle.remembering_store.specs.declared.sums.KnownSums.{KnownSums}

abbrev pub SumsRight : KnownSums → Book → Type 0
SumsRight m b = (k : CompanyKey) → IfSome (get is_same_company m.companies k) (λ x. AgreesWith x (b.rows k.company))

-- something is remembered of a company
abbrev pub is_known : (company : List ℕ) → KnownSums → Bool
is_known c m = is_some (get is_same_company m.companies (record { company = c }))

-- one company is forgotten, and all others stay
abbrev pub Forgets : (company : List ℕ) → (old new : KnownSums) → Type 0
Forgets c old new = (k : CompanyKey) → get is_same_company new.companies k ≡ (if bytes_eq c k.company then None else get is_same_company old.companies k)

-- what agreed with a book agrees with the one after a step
abbrev pub Follows : (old new : KnownSums) → (Book → Book) → Type 0
Follows old new after = (b : Book) → SumsRight old b → SumsRight new (after b)

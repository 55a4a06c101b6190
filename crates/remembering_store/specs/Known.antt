-- What is remembered of a book, and when it agrees with the book.
use Rattle.std.specs.Prelude.{◌≡◌, ℕ, List, Some, IfSome, find}
use Rattle.std.specs.HashMap.{get}
use Rattle.desk_rules.specs.declared.bodies.company.Company.{Company}
use Rattle.desk_history.specs.Operator.{has_id}
use Rattle.desk_book.specs.Book.{Book}
use Rattle.desk_book.specs.Reads.{submission_count}
use Rattle.desk_store.specs.Words.{LeavesRead}
use Rattle.remembering_store.specs.CompanyKeys.{is_same_company}
use Rattle.remembering_store.specs.HeldSizes.{HeldRight}
use Rattle.remembering_store.specs.KnownSums.{SumsRight}
use Rattle.remembering_store.specs.Remembered.{AreNumbered}
use Rattle.remembering_store.specs.declared.company_key.CompanyKey.{CompanyKey}
use Rattle.remembering_store.specs.declared.counts.Counts.{Counts}
use Rattle.remembering_store.specs.declared.known.Known.{Known}
use Rattle.remembering_store.specs.declared.registry.Registry.{Registry}

-- a registry answers for each identification as the list does: it has all companies of the list and no others
abbrev pub IsRegistryOf : Registry → List Company → Type 0
IsRegistryOf registry companies = (k : CompanyKey) → get is_same_company registry.companies k ≡ find (has_id k.company) companies

-- each count that is known is the company's
abbrev pub CountsRight : Counts → (List ℕ → ℕ) → Type 0
CountsRight counts count_of = (k : CompanyKey) → IfSome (get is_same_company counts.counts k) (λ count. count ≡ count_of k.company)

-- what is remembered agrees with the book
pub record KnowsRight (m : Known) (b : Book) : Type 0 where
  pub identity : IfSome m.identity (λ identity. identity ≡ b.identity)
  pub operator_key : IfSome m.operator_key (λ digest. digest ≡ b.operator_key)
  pub day : IfSome m.day (λ day. Some day ≡ b.day)
  pub holidays : IfSome m.holidays (λ holidays. holidays ≡ b.holidays)
  pub companies : IfSome m.companies (λ registry. IsRegistryOf registry b.companies)
  pub listed : IfSome m.listed (λ listed. listed.items ≡ b.companies)
  pub counts : CountsRight m.counts (λ c. submission_count c b)
  pub sums : SumsRight m.sums b
  pub held : HeldRight m.held b

-- it agrees with every book
abbrev pub KnowsNothing : Known → Type 0
KnowsNothing m = (b : Book) → KnowsRight m b

-- each company's submissions are numbered 1, 2, 3 ...
abbrev pub IsNumbered : Book → Type 0
IsNumbered b = (c : List ℕ) → AreNumbered (b.rows c)

-- the store holds a numbered book, and what is remembered agrees with it
pub record HoldsKnown (holds : Book → Type 0) (m : Known) (b : Book) : Type 0 where
  pub held : holds b
  pub numbered : IsNumbered b
  pub known : KnowsRight m b

-- more may be remembered, of the same book
pub record Learns {S Kept : Type 0} (is_clean : S → Type 0) (holds : S → Book → Type 0) (may_leave : S → Kept → Type 0) (old new : S) (m n : Known) : Type 0 where
  pub before : is_clean new → is_clean old
  pub read : is_clean new → (b : Book) → HoldsKnown (holds old) m b → HoldsKnown (holds new) n b
  pub left : is_clean new → LeavesRead (may_leave old) (may_leave new)

-- what a store keeps of a book that is numbered
abbrev pub KeepsNumbered : {Kept : Type 0} → (Kept → Book → Type 0) → Kept → Book → Type 0
KeepsNumbered keeps k b = keeps k b × IsNumbered b

-- What is found in a row of a key, and in tables of one list.
use Rattle.std.proofs.Common.{◌≡◌, ℕ, Bool, true, ◌==◌, List, map, filter, length, option_map, sym, ap, ◌∙◌}
use Rattle.std.specs.Ordering.{nat_cmp, ordering_then}
use Rattle.std.specs.declared.cmp.Ordering.TheVariants.{Less, Equal}
use Rattle.std.specs.List.{enumerate_from}
use Rattle.std.proofs.lemmas.Bool.{and_parts, eqb-true}
use Rattle.std.proofs.lemmas.List.{length-map}
use Rattle.std.proofs.lemmas.List.Sorted.{length_permutation}
use Rattle.std.proofs.lemmas.List.Sums.{length-filter}
use Rattle.std.proofs.lemmas.Slice.Eq.{bytes_eq-Decides}
use Rattle.sqlite_keyed.proofs.ListLemmas.{map-map, filter-map, IsPermutation-filter}
use Rattle.sql_statements.proofs.OneRow.{one_of}
use Rattle.desk_accounts.specs.declared.account.Account.{Account}
use Rattle.desk_accounts.specs.declared.posting.Posting.{Posting}
use Rattle.desk_accounts.specs.Balance.{lines_of}
use Rattle.desk_accounts.specs.Posting.{same_account}
use Rattle.desk_history.specs.declared.operations.SuspenseRow.{SuspenseRow}
use Rattle.desk_history.specs.declared.operations.TakenFile.{TakenFile}
use Rattle.desk_history.specs.Intake.{has_key}
use Rattle.desk_book.specs.declared.flat_rows.FileRow.{FileRow}
use Rattle.desk_book.specs.Steps.{is_file}
use Rattle.desk_book.specs.declared.caller.Caller.{Caller}
use Rattle.desk_book.specs.declared.caller.Caller.TheVariants as callers
use Rattle.desk_book.specs.Reads.{key_of, company}
use Rattle.desk_store.specs.Rows.{Rows, flat_book}
use Rattle.sql_tables.specs.Description.{key_cmp}
use Rattle.sql_tables.specs.DeskTables as the
use Rattle.sql_tables.specs.Encodes.{Encodes, posting_record, suspense_record}
use Rattle.sql_tables.specs.KeyOrders.{IsInOrder}
use Rattle.sql_tables.specs.TableReads.{number_of_last, company_in, lines_in, suspense_in, modifiers_in, text_in, taken_in}
use Rattle.sql_tables.specs.Tables.{Tables}
use Rattle.sql_tables.specs.declared.records.PostingRecord.{PostingRecord}
use Rattle.sql_tables.specs.declared.records.SuspenseRecord.{SuspenseRecord}
use Rattle.sql_tables.specs.Composed.{key_in}
use Rattle.sql_tables.proofs.Lists.{last_counts, enumerated_numbers, unnumbered, filter-unnumbered}
use Rattle.sql_read_laws.proofs.Permuted.{found_same}
use Rattle.sql_read_laws.proofs.WholeRows.{number_ties, text_ties}

file_apart : (day modifier : ℕ) (f g : FileRow) → is_file day modifier f ≡ true → is_file day modifier g ≡ true → key_cmp the.files f g ≡ Less → ⊥
file_apart day modifier f g is at less =
    let one = and_parts _ _ is in
    let two = and_parts _ _ at in
    let days : f.day ≡ g.day = eqb-true f.day day one.0 ∙ sym (eqb-true g.day day two.0) in
    let modifiers : f.modifier ≡ g.modifier = eqb-true f.modifier modifier one.1 ∙ sym (eqb-true g.modifier modifier two.1) in
    let ties : (key_cmp the.files) f g ≡ Equal = (λ i. ordering_then (nat_cmp (days i) g.day) (nat_cmp (modifiers i) g.modifier)) ∙ (λ i. ordering_then (number_ties g.day i) (number_ties g.modifier i)) in
    let e : Less ≡ Equal = sym less ∙ ties in cc

taken_apart : (key : List ℕ) (f g : TakenFile) → has_key key f ≡ true → has_key key g ≡ true → key_cmp the.taken f g ≡ Less → ⊥
taken_apart key f g is at less =
    let keys : f.key ≡ g.key = (bytes_eq-Decides f.key key).0 is ∙ sym ((bytes_eq-Decides g.key key).0 at) in
    let ties : (key_cmp the.taken) f g ≡ Equal = (λ i. key_cmp the.taken (record f { key = keys i }) g) ∙ text_ties g.key in
    let e : Less ≡ Equal = sym less ∙ ties in cc

module _ (t : Tables) (r : Rows) (e : Encodes t r) where
  pub company_found : (id : List ℕ) → company_in id t ≡ company id (flat_book r)
  company_found id i = company_in id (record t { companies = e.companies i })

  pub key_found : (caller : Caller) → key_in caller t ≡ key_of caller (flat_book r)
  key_found callers.Operator i = key_in callers.Operator (record t { desk = e.desk i })
  key_found (callers.Company id) i = option_map (λ k. k.digest) (company_found id i)

  pub lines_found : (account : Account) → lines_in account t ≡ lines_of account r.postings
  lines_found account =
      let of : PostingRecord → Bool = λ p. same_account p.posting.account account in
      let line : PostingRecord → Posting = λ p. p.posting in
      ap (λ l. map line (filter of l)) e.postings
      ∙ ap (map line) (filter-map of posting_record (enumerate_from 1 r.postings))
      ∙ map-map line posting_record (filter (λ p. of (posting_record p)) (enumerate_from 1 r.postings))
      ∙ filter-unnumbered (λ (p : Posting). same_account p.account account) 1 r.postings

  pub suspense_found : suspense_in t ≡ r.suspense
  suspense_found =
      let line : SuspenseRecord → SuspenseRow = λ s. s.row in
      ap (map line) e.suspense ∙ map-map line suspense_record (enumerate_from 1 r.suspense) ∙ unnumbered 1 r.suspense

  pub suspense_counted : number_of_last (λ s. s.number) t.suspense ≡ length r.suspense
  suspense_counted =
      let number : SuspenseRecord → ℕ = λ s. s.number in
      ap (number_of_last number) e.suspense
      ∙ last_counts number (map suspense_record (enumerate_from 1 r.suspense)) (length r.suspense)
      (map-map number suspense_record (enumerate_from 1 r.suspense) ∙ enumerated_numbers 1 r.suspense)

  pub files_found : (day : ℕ) → length (modifiers_in day t) ≡ (flat_book r).files_on day
  files_found day =
      let on : FileRow → Bool = λ f. f.day == day in
      length-map (filter on t.files) (λ f. f.modifier)
      ∙ length_permutation (filter on r.files) (filter on t.files) (IsPermutation-filter on r.files t.files e.files)
      ∙ length-filter on r.files

  pub text_found : IsInOrder (key_cmp the.files) t.files → (day modifier : ℕ) → text_in day modifier t ≡ (flat_book r).file day modifier
  text_found rise day modifier = ap (option_map (λ f. f.text)) (found_same (is_file day modifier) r.files t.files e.files (one_of (λ f g. key_cmp the.files f g ≡ Less) (is_file day modifier) (file_apart day modifier) t.files rise))

  pub taken_found : IsInOrder (key_cmp the.taken) t.taken → (key : List ℕ) → taken_in key t ≡ (flat_book r).taken key
  taken_found rise key = found_same (has_key key) r.taken t.taken e.taken (one_of (λ f g. key_cmp the.taken f g ≡ Less) (has_key key) (taken_apart key) t.taken rise)

-- What is remembered beside open submissions agrees with the book after each write.
use Rattle.std.proofs.Common.{◌≡◌, ◌∙◌, refl, ap, sym, subst, ℕ, ◌+◌, Bool, true, false, List, [], ◌∷◌, ◌++◌, map, length, Option, Some}
use Rattle.std.specs.Prelude.{if◌then◌else◌, IfSome, fold, bytes_eq}
use Rattle.std.proofs.lemmas.List.{length-map, length-append}
use Rattle.std.proofs.lemmas.Slice.Eq.{bytes_eq-Decides}
use Rattle.desk_rules.specs.declared.bodies.submission.Retry.{Retry}
use Rattle.desk_rules.specs.declared.bodies.submission.Submission.{Submission}
use Rattle.desk_book.specs.Book.{Book}
use Rattle.desk_book.specs.declared.row.Row.{Row}
use Rattle.desk_book.specs.declared.flat_rows.ChangedRow.{ChangedRow}
use Rattle.desk_book.specs.declared.flat_rows.FileRow.{FileRow}
use Rattle.desk_book.specs.declared.flat_rows.LapsedRow.{LapsedRow}
use Rattle.desk_book.specs.declared.flat_rows.ReturnedRow.{ReturnedRow}
use Rattle.desk_book.specs.declared.flat_rows.SentRow.{SentRow}
use Rattle.desk_book.specs.Standing.{sent_row, lapsed_row, next_row}
use Rattle.desk_book.specs.Steps.{if_order, returned_row_by, put_sent_row, put_lapsed_row, put_return, put_entries, put_postings, put_file, put_change, put_suspense, put_taken_file, add_submission, commit_cut, commit_intake, CutWrite, IntakeWrite}
use Rattle.std.specs.HashMap.{get}
use Rattle.remembering_store.specs.CompanyKeys.{is_same_company}
use Rattle.remembering_store.specs.Known.{IsRegistryOf, CountsRight, KnowsRight}
use Rattle.remembering_store.specs.HeldSizes.{HeldRight}
use Rattle.remembering_store.specs.KnownSums.{SumsRight}
use Rattle.remembering_store.specs.declared.counts.Counts.{Counts}
use Rattle.remembering_store.specs.declared.held.KnownHeld.{KnownHeld}
use Rattle.remembering_store.specs.declared.known.Known.{Known}
use Rattle.remembering_store.specs.declared.sums.KnownSums.{KnownSums}

-- ---- a cut and an intake change nothing but open submissions

-- two books agree in all that is remembered beside these
pub record HasSame (before after : Book) : Type 0 where
  pub identity : after.identity ≡ before.identity
  pub operator_key : after.operator_key ≡ before.operator_key
  pub day : after.day ≡ before.day
  pub holidays : after.holidays ≡ before.holidays
  pub companies : after.companies ≡ before.companies
  pub counts : (c : List ℕ) → length (after.rows c) ≡ length (before.rows c)

same_self : (b : Book) → HasSame b b
same_self b = record { identity = refl; operator_key = refl; day = refl; holidays = refl; companies = refl; counts = λ c. refl }

same_next : (a b c : Book) → HasSame a b → HasSame b c → HasSame a c
same_next a b c first next = record {
  identity = next.identity ∙ first.identity;
  operator_key = next.operator_key ∙ first.operator_key;
  day = next.day ∙ first.day;
  holidays = next.holidays ∙ first.holidays;
  companies = next.companies ∙ first.companies;
  counts = λ of. next.counts of ∙ first.counts of;
}

all_same : {X : Type 0} (step : Book → X → Book) → ((b : Book) (x : X) → HasSame b (step b x)) → (xs : List X) (b : Book) → HasSame b (fold step b xs)
all_same step same [] b = same_self b
all_same step same (x ∷ xs) b = same_next b (step b x) (fold step (step b x) xs) (same b x) (all_same step same xs (step b x))

as_many : (t : Bool) (g : Row → Row) (rs : List Row) → length (if t then map g rs else rs) ≡ length rs
as_many true g rs = length-map rs g
as_many false g rs = refl

sent_same : (b : Book) (s : SentRow) → HasSame b (put_sent_row b s)
sent_same b s = record {
  identity = refl;
  operator_key = refl;
  day = refl;
  holidays = refl;
  companies = refl;
  counts = λ c. as_many (bytes_eq s.company c) (if_order s.order (sent_row s.settled)) (b.rows c);
}

lapsed_same : (b : Book) (l : LapsedRow) → HasSame b (put_lapsed_row b l)
lapsed_same b l = record {
  identity = refl;
  operator_key = refl;
  day = refl;
  holidays = refl;
  companies = refl;
  counts = λ c. as_many (bytes_eq l.company c) (if_order l.order lapsed_row) (b.rows c);
}

file_same : (b : Book) (f : FileRow) → HasSame b (put_file b f)
file_same b f = record { identity = refl; operator_key = refl; day = refl; holidays = refl; companies = refl; counts = λ c. refl }

returned_same : (b : Book) (x : ReturnedRow) → HasSame b (put_return b x)
returned_same b x = record {
  identity = refl;
  operator_key = refl;
  day = refl;
  holidays = refl;
  companies = refl;
  counts = λ c. as_many (bytes_eq x.company c) (returned_row_by x) (b.rows c);
}

changed_same : (b : Book) (x : ChangedRow) → HasSame b (put_change b x)
changed_same b x = record { identity = refl; operator_key = refl; day = refl; holidays = refl; companies = refl; counts = λ c. refl }

pub cut_same : (x : CutWrite) (b : Book) → HasSame b ((commit_cut x).after b)
cut_same x b =
    let sent = fold put_sent_row b x.sent in
    let lapsed = fold put_lapsed_row sent x.lapsed in
    let lines = put_postings x.postings (put_entries x.entries lapsed) in
    let files = all_same put_file file_same x.files lines in
    let rows = same_next b sent lapsed (all_same put_sent_row sent_same x.sent b) (all_same put_lapsed_row lapsed_same x.lapsed sent) in
    let to_lines : HasSame lapsed lines = record { identity = refl; operator_key = refl; day = refl; holidays = refl; companies = refl; counts = λ c. refl } in
    same_next b lines (fold put_file lines x.files) (same_next b lapsed lines rows to_lines) files

pub intake_same : (x : IntakeWrite) (b : Book) → HasSame b ((commit_intake x).after b)
intake_same x b =
    let returned = fold put_return b x.returned in
    let changed = fold put_change returned x.changed in
    let rows = same_next b returned changed (all_same put_return returned_same x.returned b) (all_same put_change changed_same x.changed returned) in
    let last : HasSame changed (put_taken_file x.file (put_postings x.postings (put_suspense x.suspense changed))) = record { identity = refl; operator_key = refl; day = refl; holidays = refl; companies = refl; counts = λ c. refl } in
    same_next b changed (put_taken_file x.file (put_postings x.postings (put_suspense x.suspense changed))) rows last

-- where the sums and the sizes follow, all does
pub all_followed : (m : Known) (sums : KnownSums) (held : KnownHeld) (before after : Book) → HasSame before after → SumsRight sums after → HeldRight held after → KnowsRight m before
    → KnowsRight (record m { sums = sums; held = held }) after
all_followed m sums held before after same follows held_follows right = record {
  identity = subst (λ z. IfSome m.identity (λ x. x ≡ z)) (sym same.identity) right.identity;
  operator_key = subst (λ z. IfSome m.operator_key (λ x. x ≡ z)) (sym same.operator_key) right.operator_key;
  day = subst (λ z. IfSome m.day (λ x. Some x ≡ z)) (sym same.day) right.day;
  holidays = subst (λ z. IfSome m.holidays (λ x. x ≡ z)) (sym same.holidays) right.holidays;
  companies = subst (λ z. IfSome m.companies (λ x. IsRegistryOf x z)) (sym same.companies) right.companies;
  listed = subst (λ z. IfSome m.listed (λ x. x.items ≡ z)) (sym same.companies) right.listed;
  counts = λ k. subst (λ z. IfSome (get is_same_company m.counts.counts k) (λ x. x ≡ z)) (sym (same.counts k.company)) (right.counts k);
  sums = follows;
  held = held_follows;
}

-- other sums of the same book
pub other_sums : (m : Known) (sums : KnownSums) (b : Book) → SumsRight sums b → KnowsRight m b → KnowsRight (record m { sums = sums }) b
other_sums m sums b follows right = all_followed m sums m.held b b (same_self b) follows right.held right

-- other sizes of it
pub other_held : (m : Known) (held : KnownHeld) (b : Book) → HeldRight held b → KnowsRight m b → KnowsRight (record m { held = held }) b
other_held m held b follows right = all_followed m m.sums held b b (same_self b) right.sums follows right

-- ---- a submission more

-- a count of another company stays
other_stays : (c : List ℕ) (turn : List Row → List Row) (rows : List ℕ → List Row) (of : List ℕ) → bytes_eq c of ≡ false
    → length (if bytes_eq c of then turn (rows of) else rows of) ≡ length (rows of)
other_stays c turn rows of other = ap (λ (t : Bool). length (if t then turn (rows of) else rows of)) other

-- that of the company is its order number
own_count : (c : List ℕ) (order : ℕ) (rs : List Row) (row : Row) → order ≡ length rs + 1 → order ≡ length (if bytes_eq c c then rs ++ row ∷ [] else rs)
own_count c order rs row next =
    next ∙ sym (length-append rs (row ∷ []))
    ∙ ap (λ (t : Bool). length (if t then rs ++ row ∷ [] else rs)) (sym ((bytes_eq-Decides c c).1 refl))

-- where the counts, the sums and the sizes follow, all does
pub count_added : (c : List ℕ) (order : ℕ) (s : Submission) (retry : Option Retry) (b : Book) (m : Known) (counts : Counts) (sums : KnownSums) (held : KnownHeld) → order ≡ length (b.rows c) + 1
    → KnowsRight m b
    → SumsRight sums ((add_submission c order s retry).after b)
    → HeldRight held ((add_submission c order s retry).after b)
    → ((before after : List ℕ → ℕ) → order ≡ after c → ((of : List ℕ) → bytes_eq c of ≡ false → after of ≡ before of) → CountsRight m.counts before → CountsRight counts after)
    → KnowsRight (record m { counts = counts; sums = sums; held = held }) ((add_submission c order s retry).after b)
count_added c order s retry b m counts sums held next right follows held_follows set = record {
  identity = right.identity;
  operator_key = right.operator_key;
  day = right.day;
  holidays = right.holidays;
  companies = right.companies;
  listed = right.listed;
  counts = set (λ of. length (b.rows of)) (λ of. length (((add_submission c order s retry).after b).rows of))
      (own_count c order (b.rows c) (next_row (b.rows c) s retry) next)
      (λ of other. other_stays c (λ rs. rs ++ next_row rs s retry ∷ []) b.rows of other)
      right.counts;
  sums = follows;
  held = held_follows;
}

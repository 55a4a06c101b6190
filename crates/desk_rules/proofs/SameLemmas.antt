-- Values whose fields are all equal are equal.
use Rattle.std.proofs.Common.{◌≡◌, ◌==◌, ℕ, List, [], ◌∷◌, length, Bool, true, false, ◌&&◌, Option, Some, None, refl, ap, arith, rules, Decides, bytes_eq}
use Rattle.std.specs.Cmp.Lexicographic.{pointwise}
use Rattle.std.specs.List.{list_all, zip}
use Rattle.std.proofs.lemmas.Bool.Decides.{Decides-and, Decides-like, Decides-eqb}
use Rattle.std.proofs.lemmas.Slice.Eq.{bytes_eq-Decides, slice_eq-Decides}
use Rattle.desk_rules.specs.declared.bodies.submission.SecCode.{SecCode}
use Rattle.desk_rules.specs.declared.bodies.submission.SecCode.TheVariants.{Ppd, Ccd}
use Rattle.desk_rules.specs.declared.bodies.submission.Direction.{Direction}
use Rattle.desk_rules.specs.declared.bodies.submission.Direction.TheVariants.{Credit, Debit}
use Rattle.desk_rules.specs.declared.bodies.submission.AccountKind.{AccountKind}
use Rattle.desk_rules.specs.declared.bodies.submission.AccountKind.TheVariants.{Checking, Savings}
use Rattle.desk_rules.specs.declared.bodies.submission.Entry.{Entry}
use Rattle.desk_rules.specs.declared.bodies.submission.Retry.{Retry}
use Rattle.desk_rules.specs.declared.bodies.submission.Submission.{Submission}
use Rattle.desk_rules.specs.Laws.{IsSameRetry}
use Rattle.desk_rules.specs.SameContent.{same_sec, same_direction, same_kind, same_answer, same_optional, same_entry, same_retry, same_submission}

answers : (a b : Bool) → Decides (same_answer a b) (a ≡ b)
answers true true = search rules
answers true false = search rules
answers false true = search rules
answers false false = search rules

secs : (a b : SecCode) → Decides (same_sec a b) (a ≡ b)
secs Ppd Ppd = search rules
secs Ppd Ccd = search rules
secs Ccd Ppd = search rules
secs Ccd Ccd = search rules

directions : (a b : Direction) → Decides (same_direction a b) (a ≡ b)
directions Credit Credit = search rules
directions Credit Debit = search rules
directions Debit Credit = search rules
directions Debit Debit = search rules

kinds : (a b : AccountKind) → Decides (same_kind a b) (a ≡ b)
kinds Checking Checking = search rules
kinds Checking Savings = search rules
kinds Savings Checking = search rules
kinds Savings Savings = search rules

optionals : (a b : Option (List ℕ)) → Decides (same_optional bytes_eq a b) (a ≡ b)
optionals None None = search rules
optionals None (Some b) = search rules
optionals (Some a) None = search rules
optionals (Some a) (Some b) = Decides-like (bytes_eq a b) (λ e. ap Some e) (λ (e : Some a ≡ Some b). cc) (bytes_eq-Decides a b)

-- all fields of two entries are equal
abbrev AreEqual : Entry → Entry → Type 0
AreEqual a b = (((((((a.routing ≡ b.routing) × (a.account ≡ b.account)) × (a.kind ≡ b.kind)) × (a.prenote ≡ b.prenote)) × (a.cents ≡ b.cents)) × (a.id ≡ b.id)) × (a.name ≡ b.name)) × (a.info ≡ b.info)

tested : (a b : Entry) → Decides (same_entry a b) (AreEqual a b)
tested a b = Decides-and _ _ (Decides-and _ _ (Decides-and _ _ (Decides-and _ _ (Decides-and _ _ (Decides-and _ _ (Decides-and _ _ (bytes_eq-Decides a.routing b.routing) (bytes_eq-Decides a.account b.account)) (kinds a.kind b.kind)) (answers a.prenote b.prenote)) (Decides-eqb a.cents b.cents)) (bytes_eq-Decides a.id b.id)) (bytes_eq-Decides a.name b.name)) (optionals a.info b.info)

abbrev with : List ℕ → List ℕ → AccountKind → Bool → ℕ → List ℕ → List ℕ → Option (List ℕ) → Entry
with r a k p c i n o = record { routing = r; account = a; kind = k; prenote = p; cents = c; id = i; name = n; info = o }

equal : (a b : Entry) → AreEqual a b → a ≡ b
equal a b h =
    let e : with a.routing a.account a.kind a.prenote a.cents a.id a.name a.info ≡ with b.routing b.account b.kind b.prenote b.cents b.id b.name b.info = cc in
    e

fields : (a b : Entry) → a ≡ b → AreEqual a b
fields a b e = (((((((ap (λ (x : Entry). x.routing) e, ap (λ (x : Entry). x.account) e), ap (λ (x : Entry). x.kind) e), ap (λ (x : Entry). x.prenote) e), ap (λ (x : Entry). x.cents) e), ap (λ (x : Entry). x.id) e), ap (λ (x : Entry). x.name) e), ap (λ (x : Entry). x.info) e)

pub entries : (a b : Entry) → Decides (same_entry a b) (a ≡ b)
entries a b = Decides-like (same_entry a b) (equal a b) (fields a b) (tested a b)

-- as many entries, compared in pairs, are compared place by place
pub pairs : (xs ys : List Entry) → length xs ≡ length ys → list_all (λ (p : Entry × Entry). same_entry p.0 p.1) (zip xs ys) ≡ pointwise same_entry xs ys
pairs [] [] e = refl
pairs [] (y ∷ ys) e = absurd (omega arith)
pairs (x ∷ xs) [] e = absurd (omega arith)
pairs (x ∷ xs) (y ∷ ys) e =
    let more : length xs ≡ length ys = omega arith in
    ap (λ (b : Bool). same_entry x y && b) (pairs xs ys more)

pub lists : (xs ys : List Entry) → Decides (pointwise same_entry xs ys) (xs ≡ ys)
lists xs ys = slice_eq-Decides entries xs ys (pointwise same_entry xs ys) refl

-- all fields of two submissions are equal
abbrev AreSame : Submission → Submission → Type 0
AreSame a b = (((((a.reference ≡ b.reference) × (a.sec ≡ b.sec)) × (a.direction ≡ b.direction)) × (a.description ≡ b.description)) × (a.day ≡ b.day)) × (a.entries ≡ b.entries)

all_tested : (a b : Submission) → Decides (same_submission a b) (AreSame a b)
all_tested a b = Decides-and _ _ (Decides-and _ _ (Decides-and _ _ (Decides-and _ _ (Decides-and _ _ (bytes_eq-Decides a.reference b.reference) (secs a.sec b.sec)) (directions a.direction b.direction)) (bytes_eq-Decides a.description b.description)) (Decides-eqb a.day b.day)) (lists a.entries b.entries)

abbrev made : List ℕ → SecCode → Direction → List ℕ → ℕ → List Entry → Submission
made r s i t d e = record { reference = r; sec = s; direction = i; description = t; day = d; entries = e }

same : (a b : Submission) → AreSame a b → a ≡ b
same a b h =
    let e : made a.reference a.sec a.direction a.description a.day a.entries ≡ made b.reference b.sec b.direction b.description b.day b.entries = cc in
    e

parts : (a b : Submission) → a ≡ b → AreSame a b
parts a b e = (((((ap (λ (x : Submission). x.reference) e, ap (λ (x : Submission). x.sec) e), ap (λ (x : Submission). x.direction) e), ap (λ (x : Submission). x.description) e), ap (λ (x : Submission). x.day) e), ap (λ (x : Submission). x.entries) e)

pub submissions : (a b : Submission) → Decides (same_submission a b) (a ≡ b)
submissions a b = Decides-like (same_submission a b) (same a b) (parts a b) (all_tested a b)

numbers : (a b : Option ℕ) → Decides (same_optional (λ x y. x == y) a b) (a ≡ b)
numbers None None = search rules
numbers None (Some b) = search rules
numbers (Some a) None = search rules
numbers (Some a) (Some b) = Decides-like (a == b) (λ e. ap Some e) (λ (e : Some a ≡ Some b). cc) (Decides-eqb a b)

pub retries : (a b : Retry) → Decides (same_retry a b) (IsSameRetry a b)
retries a b =
    Decides-like (same_retry a b)
    (λ (h : (((a.of ≡ b.of) × (a.index ≡ b.index)) × (a.day ≡ b.day)) × (a.authorized ≡ b.authorized)). record { of = h.0.0.0; index = h.0.0.1; day = h.0.1; authorized = h.1 })
    (λ (s : IsSameRetry a b). (((s.of, s.index), s.day), s.authorized))
    (Decides-and _ _ (Decides-and _ _ (Decides-and _ _ (bytes_eq-Decides a.of b.of) (Decides-eqb a.index b.index)) (Decides-eqb a.day b.day)) (numbers a.authorized b.authorized))

-- The same content under a reference that is used again.
use Rattle.std.specs.Prelude.{Bool, true, false, not, ◌&&◌, ◌==◌, if◌then◌else◌, Option, Some, None, bytes_eq}
use Rattle.std.specs.Cmp.Lexicographic.{pointwise}
use Rattle.desk_rules.specs.declared.bodies.submission.SecCode.{SecCode}
use Rattle.desk_rules.specs.declared.bodies.submission.SecCode.TheVariants.{Ppd, Ccd}
use Rattle.desk_rules.specs.declared.bodies.submission.Direction.{Direction}
use Rattle.desk_rules.specs.declared.bodies.submission.Direction.TheVariants.{Credit, Debit}
use Rattle.desk_rules.specs.declared.bodies.submission.AccountKind.{AccountKind}
use Rattle.desk_rules.specs.declared.bodies.submission.AccountKind.TheVariants.{Checking, Savings}
use Rattle.desk_rules.specs.declared.bodies.submission.Entry.{Entry}
use Rattle.desk_rules.specs.declared.bodies.submission.Retry.{Retry}
use Rattle.desk_rules.specs.declared.bodies.submission.Submission.{Submission}

abbrev pub same_sec : SecCode → SecCode → Bool
same_sec Ppd Ppd = true
same_sec Ppd Ccd = false
same_sec Ccd Ppd = false
same_sec Ccd Ccd = true

abbrev pub same_direction : Direction → Direction → Bool
same_direction Credit Credit = true
same_direction Credit Debit = false
same_direction Debit Credit = false
same_direction Debit Debit = true

abbrev pub same_kind : AccountKind → AccountKind → Bool
same_kind Checking Checking = true
same_kind Checking Savings = false
same_kind Savings Checking = false
same_kind Savings Savings = true

-- both yes or both no
abbrev pub same_answer : Bool → Bool → Bool
same_answer a b = if a then b else not b

-- both left out, or both there and the same
abbrev pub same_optional : {A : Type 0} → (A → A → Bool) → Option A → Option A → Bool
same_optional same None None = true
same_optional same None (Some b) = false
same_optional same (Some a) None = false
same_optional same (Some a) (Some b) = same a b

-- all fields of two entries are the same
abbrev pub same_entry : Entry → Entry → Bool
same_entry a b =
    bytes_eq a.routing b.routing && bytes_eq a.account b.account && same_kind a.kind b.kind && same_answer a.prenote b.prenote
    && a.cents == b.cents && bytes_eq a.id b.id && bytes_eq a.name b.name && same_optional bytes_eq a.info b.info

-- all fields of two submissions are the same, and as many entries, each the same as the other at its place
abbrev pub same_submission : Submission → Submission → Bool
same_submission a b =
    bytes_eq a.reference b.reference && same_sec a.sec b.sec && same_direction a.direction b.direction
    && bytes_eq a.description b.description && a.day == b.day && pointwise same_entry a.entries b.entries

-- two retries of the same entry for the same day, with the same authorization or both without one
abbrev pub same_retry : Retry → Retry → Bool
same_retry a b = bytes_eq a.of b.of && a.index == b.index && a.day == b.day && same_optional (λ x y. x == y) a.authorized b.authorized

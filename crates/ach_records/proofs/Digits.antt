-- The digit fields of a record, each on its own.
use Rattle.std.proofs.Common.{◌≡◌, ℕ, true, List}
use Rattle.std.proofs.lemmas.Bool.{and_parts}
use Rattle.ach_fields.specs.Digits.{AreDigits}
use Rattle.ach_records.specs.Layout.{field}
use Rattle.ach_records.specs.Record.{has_digits}
use Rattle.ach_records.specs.declared.Kind.TheVariants as kinds

pub record EntryDigits (text : List ℕ) : Type 0 where
  pub code : AreDigits (field kinds.Entry "transaction code" text)
  pub dfi : AreDigits (field kinds.Entry "receiving DFI" text)
  pub cents : AreDigits (field kinds.Entry "cents" text)

entry_digits : (text : List ℕ) → has_digits kinds.Entry text ≡ true → EntryDigits text
unfolding has_digits
entry_digits text h =
    let p = and_parts _ _ h in
    let q = and_parts _ _ p.1 in
    record { code = p.0; dfi = q.0; cents = (and_parts _ _ q.1).0 }

pub transaction_code_digits : (text : List ℕ) → has_digits kinds.Entry text ≡ true → AreDigits (field kinds.Entry "transaction code" text)
transaction_code_digits text h = (entry_digits text h).code

pub receiving_dfi_digits : (text : List ℕ) → has_digits kinds.Entry text ≡ true → AreDigits (field kinds.Entry "receiving DFI" text)
receiving_dfi_digits text h = (entry_digits text h).dfi

pub cents_digits : (text : List ℕ) → has_digits kinds.Entry text ≡ true → AreDigits (field kinds.Entry "cents" text)
cents_digits text h = (entry_digits text h).cents

pub record AddendaDigits (text : List ℕ) : Type 0 where
  pub sequence : AreDigits (field kinds.Addenda05 "sequence" text)
  pub entry_sequence : AreDigits (field kinds.Addenda05 "entry sequence" text)

addenda_digits : (text : List ℕ) → has_digits kinds.Addenda05 text ≡ true → AddendaDigits text
unfolding has_digits
addenda_digits text h =
    let p = and_parts _ _ h in
    record { sequence = p.0; entry_sequence = (and_parts _ _ p.1).0 }

pub sequence_digits : (text : List ℕ) → has_digits kinds.Addenda05 text ≡ true → AreDigits (field kinds.Addenda05 "sequence" text)
sequence_digits text h = (addenda_digits text h).sequence

pub entry_sequence_digits : (text : List ℕ) → has_digits kinds.Addenda05 text ≡ true → AreDigits (field kinds.Addenda05 "entry sequence" text)
entry_sequence_digits text h = (addenda_digits text h).entry_sequence

pub record BatchControlDigits (text : List ℕ) : Type 0 where
  pub count : AreDigits (field kinds.BatchControl "count" text)
  pub hash : AreDigits (field kinds.BatchControl "entry hash" text)
  pub debits : AreDigits (field kinds.BatchControl "total debits" text)
  pub credits : AreDigits (field kinds.BatchControl "total credits" text)

batch_control_digits : (text : List ℕ) → has_digits kinds.BatchControl text ≡ true → BatchControlDigits text
unfolding has_digits
batch_control_digits text h =
    let p = and_parts _ _ h in
    let q = and_parts _ _ p.1 in
    let r = and_parts _ _ q.1 in
    record { count = p.0; hash = q.0; debits = r.0; credits = (and_parts _ _ r.1).0 }

pub batch_count_digits : (text : List ℕ) → has_digits kinds.BatchControl text ≡ true → AreDigits (field kinds.BatchControl "count" text)
batch_count_digits text h = (batch_control_digits text h).count

pub batch_hash_digits : (text : List ℕ) → has_digits kinds.BatchControl text ≡ true → AreDigits (field kinds.BatchControl "entry hash" text)
batch_hash_digits text h = (batch_control_digits text h).hash

pub batch_debits_digits : (text : List ℕ) → has_digits kinds.BatchControl text ≡ true → AreDigits (field kinds.BatchControl "total debits" text)
batch_debits_digits text h = (batch_control_digits text h).debits

pub batch_credits_digits : (text : List ℕ) → has_digits kinds.BatchControl text ≡ true → AreDigits (field kinds.BatchControl "total credits" text)
batch_credits_digits text h = (batch_control_digits text h).credits

pub record FileControlDigits (text : List ℕ) : Type 0 where
  pub batches : AreDigits (field kinds.FileControl "batch count" text)
  pub blocks : AreDigits (field kinds.FileControl "block count" text)
  pub count : AreDigits (field kinds.FileControl "count" text)
  pub hash : AreDigits (field kinds.FileControl "entry hash" text)
  pub debits : AreDigits (field kinds.FileControl "total debits" text)
  pub credits : AreDigits (field kinds.FileControl "total credits" text)

file_control_digits : (text : List ℕ) → has_digits kinds.FileControl text ≡ true → FileControlDigits text
unfolding has_digits
file_control_digits text h =
    let p = and_parts _ _ h in
    let q = and_parts _ _ p.1 in
    let r = and_parts _ _ q.1 in
    let s = and_parts _ _ r.1 in
    let t = and_parts _ _ s.1 in
    record { batches = p.0; blocks = q.0; count = r.0; hash = s.0; debits = t.0; credits = (and_parts _ _ t.1).0 }

pub file_batches_digits : (text : List ℕ) → has_digits kinds.FileControl text ≡ true → AreDigits (field kinds.FileControl "batch count" text)
file_batches_digits text h = (file_control_digits text h).batches

pub file_blocks_digits : (text : List ℕ) → has_digits kinds.FileControl text ≡ true → AreDigits (field kinds.FileControl "block count" text)
file_blocks_digits text h = (file_control_digits text h).blocks

pub file_count_digits : (text : List ℕ) → has_digits kinds.FileControl text ≡ true → AreDigits (field kinds.FileControl "count" text)
file_count_digits text h = (file_control_digits text h).count

pub file_hash_digits : (text : List ℕ) → has_digits kinds.FileControl text ≡ true → AreDigits (field kinds.FileControl "entry hash" text)
file_hash_digits text h = (file_control_digits text h).hash

pub file_debits_digits : (text : List ℕ) → has_digits kinds.FileControl text ≡ true → AreDigits (field kinds.FileControl "total debits" text)
file_debits_digits text h = (file_control_digits text h).debits

pub file_credits_digits : (text : List ℕ) → has_digits kinds.FileControl text ≡ true → AreDigits (field kinds.FileControl "total credits" text)
file_credits_digits text h = (file_control_digits text h).credits

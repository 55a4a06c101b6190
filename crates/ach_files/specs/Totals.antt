-- The counts and sums of the records of a file, and what its controls say of them.
use Rattle.std.specs.Prelude.{◌≡◌, ℕ, ◌+◌, ◌*◌, ◌/◌, ◌%◌, ◌^◌, Bool, List, length, if◌then◌else◌, nat_le}
use Rattle.std.specs.List.{sum_by}
use Rattle.ach_records.specs.Layout.{field}
use Rattle.ach_fields.specs.Digits.{number}
use Rattle.ach_records.specs.Record.{entry_direction, entry_dfi, entry_cents}
use Rattle.ach_records.specs.declared.Kind.TheVariants as kinds
use Rattle.ach_files.specs.declared.sums.Sums.{Sums}
use Rattle.ach_files.specs.Structure.{Item, Batch}

-- 5 to 9 are debits
abbrev pub is_debit : List ℕ → Bool
is_debit entry = nat_le 53 (entry_direction entry)

abbrev pub debit_of : Item → ℕ
debit_of i = if is_debit i.entry then entry_cents i.entry else 0

abbrev pub credit_of : Item → ℕ
credit_of i = if is_debit i.entry then 0 else entry_cents i.entry

-- the number of records 6 and 7, and sums over the 6
unfoldable pub sums_of_items : List Item → Sums
sums_of_items items = record {
  count = 2 * length items;
  hash = sum_by (λ i. entry_dfi i.entry) items;
  debits = sum_by debit_of items;
  credits = sum_by credit_of items;
}

-- the low ten digits
abbrev pub low_digits : ℕ → ℕ
low_digits n = n % 10 ^ 10

-- sums over the batches; the hash is that of the batches' hashes, each of ten digits
unfoldable pub sums_of_batches : List Batch → Sums
sums_of_batches batches = record {
  count = sum_by (λ b. (sums_of_items b.items).count) batches;
  hash = sum_by (λ b. low_digits (sums_of_items b.items).hash) batches;
  debits = sum_by (λ b. (sums_of_items b.items).debits) batches;
  credits = sum_by (λ b. (sums_of_items b.items).credits) batches;
}

-- what an 8 says
unfoldable pub batch_control_sums : List ℕ → Sums
batch_control_sums text = record {
  count = number (field kinds.BatchControl "count" text);
  hash = number (field kinds.BatchControl "entry hash" text);
  debits = number (field kinds.BatchControl "total debits" text);
  credits = number (field kinds.BatchControl "total credits" text);
}

-- what a 9 says
unfoldable pub file_control_sums : List ℕ → Sums
file_control_sums text = record {
  count = number (field kinds.FileControl "count" text);
  hash = number (field kinds.FileControl "entry hash" text);
  debits = number (field kinds.FileControl "total debits" text);
  credits = number (field kinds.FileControl "total credits" text);
}

-- how many batches a 9 says
unfoldable pub control_batches : List ℕ → ℕ
control_batches text = number (field kinds.FileControl "batch count" text)

-- how many blocks a 9 says
unfoldable pub control_blocks : List ℕ → ℕ
control_blocks text = number (field kinds.FileControl "block count" text)

-- blocks of ten records: the number of records, divided by ten and rounded up
abbrev pub blocks : ℕ → ℕ
blocks n = (n + 9) / 10

-- a control says these sums; of the hash the low ten digits
pub record Agrees (told sums : Sums) : Type 0 where
  pub count : told.count ≡ sums.count
  pub hash : told.hash ≡ low_digits sums.hash
  pub debits : told.debits ≡ sums.debits
  pub credits : told.credits ≡ sums.credits

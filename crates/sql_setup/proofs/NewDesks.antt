-- A new desk has the book of the empty history.
use Rattle.std.proofs.Common.{◌≡◌, ℕ, List, [], Option, None, Some, refl, sym, ap, ◌∙◌, subst, arith}
use Rattle.std.proofs.lemmas.List.Elements.{All-nil}
use Rattle.std.proofs.lemmas.List.Sorted.{IsPermutation-refl}
use Rattle.sqlite.specs.Effect.{Database}
use Rattle.sqlite.specs.State.{State, IsUnchanged, KeepsCommit, Survives}
use Rattle.sqlite.proofs.StateLemmas.{survives_weaker}
use Rattle.sql_statements.specs.Definitions.{IsBlank}
use Rattle.sql_statements.specs.Layouts.{Holds}
use Rattle.sql_statements.specs.Transactions.{Makes, Commits, Leaves}
use Rattle.desk_history.specs.declared.identity.Identity.{Identity}
use Rattle.desk_book.specs.Book.{Book, book_of}
use Rattle.sql_tables.specs.Schema.{desk_schema, schema_of}
use Rattle.desk_store.specs.Rows.{Rows}
use Rattle.sql_statements.specs.Promises.{GoesOn}
use Rattle.sql_tables.specs.Layout.{desk_layout, IsBookIn, Keeps}
use Rattle.sql_tables.specs.ByName.{IsStored}
use Rattle.sql_tables.specs.Tables.{Tables}
use Rattle.sql_setup.specs.Setup.{new_tables, setup_layout, new_desk_edit, HasNewDesk}

abbrev pub new_rows : Identity → (operator_key : List ℕ) → Rows
new_rows identity key = record {
  identity = identity;
  operator_key = key;
  day = None;
  holidays = [];
  companies = [];
  submissions = [];
  returned = [];
  changed = [];
  postings = [];
  sent = [];
  printed = [];
  suspense = [];
  files = [];
  taken = [];
}

pub new_desks_are_empty : (identity : Identity) (operator_key : List ℕ) → IsBookIn (new_tables identity operator_key) (book_of identity operator_key [])
new_desks_are_empty identity key = record {
  rows = new_rows identity key;
  encodes = record {
    desk = refl;
    holidays = refl;
    companies = refl;
    submissions = refl;
    entries = refl;
    returns = refl;
    changes = refl;
    postings = refl;
    suspense = refl;
    files = IsPermutation-refl [];
    taken = IsPermutation-refl [];
    numbers = λ s. refl;
    authorizations = refl;
    states = All-nil _;
    retries = All-nil _;
  };
  beside = record {
    orders = λ c. refl;
    references = λ c r. omega arith;
    printed = λ c o. refl;
    lapsed = All-nil _;
    back = All-nil _;
    sent = All-nil _;
    apart = λ i j d before within. absurd (omega (arith, within));
    sequences = All-nil _;
    sums = λ a d. refl;
  };
  book = refl;
}

-- the statements of the transaction together make the edit
pub desk_made : (identity : Identity) (key : List ℕ) (s0 s1 s2 s3 : State) → (s0.now.schema ≡ desk_schema → ⊥) → IsUnchanged s0 s1 → KeepsCommit s1 s2
    → (IsBlank (schema_of []) s1.now → IsBlank desk_schema s2.now) → (IsBlank desk_schema s2.now → Holds desk_layout s3.now (new_tables identity key)) → GoesOn s2 s3
    → Makes setup_layout (new_desk_edit identity key) s0 s3
desk_made identity key s0 s1 s2 s3 free same kept created put shown inside is_open = record {
  shown = record {
    was_open = is_open;
    is_open = shown.is_open;
    now_is = refl;
    committed_is = shown.committed_is ∙ kept.committed shown.was_open ∙ same.0.committed_is;
    mode = shown.mode;
  };
  holds = holds;
}
  where
    holds : (t : Option Tables) → Holds setup_layout s0.now t → Holds setup_layout s3.now (Some (new_tables identity key)) × (t ≡ None)
    holds None h = (put (created (record { schema_is = ap (λ (d : Database). d.schema) same.0.now_is ∙ h.0; empty = tt })), refl)
    holds (Some t) h = absurd (free h.0)

module _ (identity : Identity) (key : List ℕ) (old new : State) (blank : old.now.schema ≡ schema_of []) where
  abbrev book : Book
  book = book_of identity key []

  pub has_new_desk : Commits setup_layout (new_desk_edit identity key) old new → HasNewDesk identity key old new
  has_new_desk done =
      let h = (done.holds None (blank, tt)).0 in
      let t = new_tables identity key in
      let is = new_desks_are_empty identity key in
      record {
        was_open = done.was_open;
        is_open = done.is_open;
        tables = h;
        sees = λ _. (t, h, is);
        committed = done.committed;
        left = done.left;
        keeps = λ trees left. (t, subst (λ d. IsStored d t) (sym (done.left trees left)) h.1, is);
      }

  -- once the commit has begun a crash may leave the whole desk
  pub left_whole : Survives old new (Leaves setup_layout (new_desk_edit identity key) old) → Survives old new (λ trees. Keeps trees book)
  left_whole survives = survives_weaker old new _ _ (λ clean trees left. (new_tables identity key, (left.1 None (blank, tt)).0, new_desks_are_empty identity key)) survives

-- The fields that a view lends.
use Rattle.std.specs.Prelude.{◌≡◌, ℕ, List, Some, None, Result, MatchResult}
use Rattle.ach_records.specs.Record.{IsRecord, kind_of}
use Rattle.ach_records.specs.View.{view_fault}
use Rattle.ach_records.specs.declared.Kind.{Kind}
use Rattle.ach_records.specs.declared.Kind.TheVariants as kinds
use Rattle.ach_records.specs.declared.fault.RecordFault.{RecordFault}
use Rattle.ach_records.specs.declared.views.Record.{Record}
use Rattle.ach_records.specs.declared.views.Record.TheVariants as records

-- the kind of the view, and the bytes that it lends
abbrev pub viewed_kind : Record → Kind
viewed_kind (records.FileHeader v) = kinds.FileHeader
viewed_kind (records.BatchHeader v) = kinds.BatchHeader
viewed_kind (records.Entry v) = kinds.Entry
viewed_kind (records.Addenda05 v) = kinds.Addenda05
viewed_kind (records.Change98 v) = kinds.Change98
viewed_kind (records.Return99 v) = kinds.Return99
viewed_kind (records.BatchControl v) = kinds.BatchControl
viewed_kind (records.FileControl v) = kinds.FileControl
viewed_kind (records.Filler v) = kinds.Filler

abbrev pub viewed_text : Record → List ℕ
viewed_text (records.FileHeader v) = v.text.now
viewed_text (records.BatchHeader v) = v.text.now
viewed_text (records.Entry v) = v.text.now
viewed_text (records.Addenda05 v) = v.text.now
viewed_text (records.Change98 v) = v.text.now
viewed_text (records.Return99 v) = v.text.now
viewed_text (records.BatchControl v) = v.text.now
viewed_text (records.FileControl v) = v.text.now
viewed_text (records.Filler v) = v.text.now

-- the view is of this kind and lends these bytes
abbrev pub Views : Record → Kind → List ℕ → Type 0
Views r kind text = (viewed_kind r ≡ kind) × (viewed_text r ≡ text)

-- the text is a record of its kind and this is its view, or this is its fault
abbrev pub GivesView : List ℕ → Result Record RecordFault → Type 0
GivesView text result =
    MatchResult result
    (λ r. (view_fault text ≡ None) × IsRecord (kind_of text) text × Views r (kind_of text) text)
    (λ f. view_fault text ≡ Some f)

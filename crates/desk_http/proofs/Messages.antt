-- The bytes of the answer to a message.
use Rattle.std.proofs.Common.{◌≡◌, inl, inr, ℕ, List, ◌∷◌, refl, sym, ap, ◌∙◌, subst}
use Rattle.std.specs.Prelude.{◌⊎◌, IsFalse, Option, Some, None, IfOk, Ok, Err, Result, Vec}
use Rattle.std.specs.declared.alloc.Global.{Global}
use Rattle.desk_history.specs.declared.call.Call.{Call}
use Rattle.desk_history.specs.Message as core
use Rattle.desk_history.specs.Message.{Message}
use Rattle.desk_history.specs.Operator.{answer_to, next_pair}
use Rattle.desk_book.specs.Book.{Book, book_of}
use Rattle.desk_book.specs.OnMessages.{BookTells}
use Rattle.desk_book.specs.Writes.{is_read, writes_on}
use Rattle.desk_store.specs.Words.{LeavesRead}
use Rattle.desk_admission.specs.Answering.{IsLeft}
use Rattle.desk_calls.specs.Applying as calls
use Rattle.http_message.specs.Message as messages
use Rattle.http_message.specs.Message.{MessageValue}
use Rattle.http_session.specs.declared.answers.Unavailable.{Unavailable}
use Rattle.http_answers.specs.declared.faults.MessageFault.{MessageFault}
use Rattle.http_history.specs.Verdict.{Verdict, verdict_on, Means}
use Rattle.http_history.specs.Versions.{Present}
use Rattle.http_history.specs.Texts.{call_text, fault_text}
use Rattle.http_history.specs.History.{from_message, calls_of, text}
use Rattle.http_history.specs.Laws.{OneMeaning, OwnText, CallsAreHistory}
use Rattle.http_history.proofs.Answered.{right_answer}
use Rattle.http_history.proofs.Calls.{right_pair, none_pair}
use Rattle.desk_http.specs.Judged.{judged_on}
use Rattle.desk_http.specs.MadeCalls as made_calls
use Rattle.desk_http.specs.MadeCalls.{GoesCall, LeavesCall}
use Rattle.desk_http.specs.Answering.{answer_in, IsAsked, GoesBytes, RepliesBytes, LeavesBytes}
use Rattle.desk_http.specs.Keeping.{DeskHistory, book_after, with_taken, GoesBy, LeavesBy}
use Rattle.desk_http.proofs.Judged.{call_whole, fault_whole, goes_judged, leaves_judged}

-- what a message comes to, as the desk read it: the same book is held
abbrev pub IsRead : (old mid : Book → Type 0) → MessageValue → Verdict → Type 0
IsRead old mid v verdict = (b : Book) → old b → (verdict ≡ judged_on b v) × mid b

means_read : (h : DeskHistory) (v : MessageValue) (verdict : Verdict) (means : Option Message)
    → verdict ≡ verdict_on (book_after h) v → Means (verdict_on (book_after h) v) means → Means verdict means
means_read h v verdict means is read = subst (λ (w : Verdict). Means w means) (sym is) read

-- ---- where the desk could not act

pub unread : (old mid new : Book → Type 0) (v : MessageValue) → ((b : Book) → old b → new b) → GoesBytes Present old v None new
unread old mid new v same h means asked = record { history = asked.stands.history; book = same (book_after h) asked.stands.book }

pub unread_left : {Kept : Type 0} (keeps : Kept → Book → Type 0) (holds : Book → Type 0) (old new : Kept → Type 0) (v : MessageValue)
    → LeavesRead old new → LeavesBytes Present keeps holds old v None new
unread_left keeps holds old new v left h means k asked more = inl (left k more)

-- ---- a fault

fault_is : (h : DeskHistory) (v : MessageValue) (fault : MessageFault) → Err fault ≡ verdict_on (book_after h) v
    → fault_text (messages.closes v) (Err fault) ≡ text h.identity h.key h.pairs (from_message v) None
unfolding text
fault_is h v fault is = ap (fault_text (messages.closes v)) is

faulted_as : (holds new : Book → Type 0) (h : DeskHistory) (v : MessageValue) (fault : MessageFault) (means : Option Message) (result : Result (Vec ℕ Global) Unavailable)
    → IsAsked Present holds h v means → Means (Err fault) means → Err fault ≡ verdict_on (book_after h) v → new (book_after h)
    → IfOk result (λ bytes. bytes.items ≡ fault_text (messages.closes v) (Err fault)) → GoesBy Present h v means (answer_in result) new
faulted_as holds new h v fault (Some m) result asked none is held printed = cc
faulted_as holds new h v fault None (Ok bytes) asked none is held printed =
    let same = printed ∙ fault_is h v fault is in (
      same,
      record {
        history = (asked.read, right_answer h.identity h.key h.pairs (from_message v) None bytes.items same, asked.stands.history);
        book = subst (λ (K : List core.Pair). new (book_of h.identity h.key K)) (sym (none_pair h.identity (from_message v) bytes.items h.pairs)) held;
      },
    )
faulted_as holds new h v fault None (Err why) asked none is held printed = record { history = asked.stands.history; book = held }

pub faulted : (old new : Book → Type 0) (v : MessageValue) (fault : MessageFault) (result : Result (Vec ℕ Global) Unavailable)
    → IsRead old new v (Err fault) → IfOk result (λ bytes. bytes.items ≡ fault_text (messages.closes v) (Err fault)) → GoesBytes Present old v (answer_in result) new
faulted old new v fault result read printed h means asked =
    let got = read (book_after h) asked.stands.book in
    let is = fault_whole (book_after h) v fault got.0 in
    faulted_as old new h v fault means result asked (means_read h v (Err fault) means is asked.read) is got.1 printed

fault_left_as : {Kept : Type 0} (keeps : Kept → Book → Type 0) (old : Kept → Type 0) (h : DeskHistory) (v : MessageValue) (fault : MessageFault) (means : Option Message) (k : Kept) (answer : Option (List ℕ))
    → Means (Err fault) means → old k → LeavesBy keeps old Present h v means answer k
fault_left_as keeps old h v fault (Some m) k answer none same = cc
fault_left_as keeps old h v fault None k (Some bytes) none same = inr (refl, same)
fault_left_as keeps old h v fault None k None none same = inl same

pub fault_left : {Kept : Type 0} (keeps : Kept → Book → Type 0) (holds mid : Book → Type 0) (old new : Kept → Type 0) (v : MessageValue) (fault : MessageFault) (answer : Option (List ℕ))
    → IsRead holds mid v (Err fault) → LeavesRead old new → LeavesBytes Present keeps holds old v answer new
fault_left keeps holds mid old new v fault answer read left h means k asked more =
    let got = read (book_after h) asked.stands.book in
    let is = fault_whole (book_after h) v fault got.0 in
    fault_left_as keeps old h v fault means k answer (means_read h v (Err fault) means is asked.read) (left k more)

-- ---- a call

text_is : (h : DeskHistory) (v : MessageValue) (m : Message)
    → call_text (messages.closes v) m (answer_to h.identity (calls_of h.identity h.pairs) m) ≡ text h.identity h.key h.pairs (from_message v) (Some m)
unfolding text
text_is h v m = refl

pair_is : (h : DeskHistory) (v : MessageValue) (m : Message) (bytes : List ℕ) → bytes ≡ text h.identity h.key h.pairs (from_message v) (Some m)
    → calls_of h.identity (with_taken Present h v bytes (Some m)).pairs ≡ next_pair h.identity (calls_of h.identity h.pairs) m ∷ calls_of h.identity h.pairs
pair_is h v m bytes is =
    ap (λ (bytes : List ℕ). calls_of h.identity (with_taken Present h v bytes (Some m)).pairs) is ∙ right_pair h.identity h.key (from_message v) m h.pairs

call_asked : CallsAreHistory → (holds : Book → Type 0) (call : Call) (h : DeskHistory) (m : Message)
    → holds (book_after h) → Means (Ok call) (Some m) → calls.IsAsked holds call h.identity h.key (calls_of h.identity h.pairs) m
call_asked are holds call h m held read = record { history = are h.identity h.pairs; book = held; message = read }

made_as : CallsAreHistory → (holds mid new : Book → Type 0) (call : Call) (h : DeskHistory) (v : MessageValue) (means : Option Message) (result : Result (Vec ℕ Global) Unavailable)
    → IsAsked Present holds h v means → Means (Ok call) means → mid (book_after h) → GoesCall mid call (messages.closes v) result new → GoesBy Present h v means (answer_in result) new
made_as are holds mid new call h v None result asked read held goes = absurd read
made_as are holds mid new call h v (Some m) (Ok bytes) asked read held goes =
    let on = goes h.identity h.key (calls_of h.identity h.pairs) m (call_asked are mid call h m held read) in
    let same = on.0 ∙ text_is h v m in (
      same,
      record {
        history = (asked.read, right_answer h.identity h.key h.pairs (from_message v) (Some m) bytes.items same, asked.stands.history);
        book = subst (λ (K : List core.Pair). new (book_of h.identity h.key K)) (sym (pair_is h v m bytes.items same)) on.1;
      },
    )
made_as are holds mid new call h v (Some m) (Err fault) asked read held goes =
    record { history = asked.stands.history; book = goes h.identity h.key (calls_of h.identity h.pairs) m (call_asked are mid call h m held read) }

pub made : BookTells → CallsAreHistory → (old mid new : Book → Type 0) (v : MessageValue) (call : Call) (result : Result (Vec ℕ Global) Unavailable)
    → IsRead old mid v (Ok call) → GoesCall mid call (messages.closes v) result new → GoesBytes Present old v (answer_in result) new
made tells are old mid new v call result read goes h means asked =
    let got = read (book_after h) asked.stands.book in
    let (whole, is, judges) = call_whole (book_after h) v call got.0 in
    made_as are old mid new whole h v means result asked (means_read h v (Ok whole) means is asked.read) got.1
    (goes_judged tells mid new call whole (messages.closes v) result judges goes)

before : {Kept : Type 0} (keeps : Kept → Book → Type 0) (old mid : Kept → Type 0) (h : DeskHistory) (v : MessageValue) (m : Message) (k : Kept) (answer : Option (List ℕ))
    → LeavesRead old mid → LeavesBy keeps mid Present h v (Some m) answer k → LeavesBy keeps old Present h v (Some m) answer k
before keeps old mid h v m k (Some bytes) left on = elim on [ inl after ↦ inl after | inr same ↦ inr (same.0, left k same.1) ]
before keeps old mid h v m k None left on = elim on [ inl same ↦ inl (left k same) | inr after ↦ inr after ]

-- of a call, and then of its message
as_message : {Kept : Type 0} (keeps : Kept → Book → Type 0) (mid : Kept → Type 0) (h : DeskHistory) (v : MessageValue) (m : Message) (k : Kept) (result : Result (Vec ℕ Global) Unavailable)
    → made_calls.LeavesCallOn keeps mid h.identity h.key (calls_of h.identity h.pairs) m result k → LeavesBy keeps mid Present h v (Some m) (answer_in result) k
as_message keeps mid h v m k (Ok bytes) on =
    subst (λ (K : List core.Pair). IsLeft (writes_on (book_after h) m) (keeps k (book_of h.identity h.key K)) (mid k)) (sym (right_pair h.identity h.key (from_message v) m h.pairs)) on
as_message keeps mid h v m k (Err fault) on =
    subst (λ (K : List core.Pair). mid k ⊎ (IsFalse (is_read m) × keeps k (book_of h.identity h.key K))) (sym (right_pair h.identity h.key (from_message v) m h.pairs)) on

made_left_as : CallsAreHistory → {Kept : Type 0} (keeps : Kept → Book → Type 0) (holds : Book → Type 0) (mid old new : Kept → Type 0) (call : Call) (h : DeskHistory) (v : MessageValue) (means : Option Message) (k : Kept) (result : Result (Vec ℕ Global) Unavailable)
    → Means (Ok call) means → holds (book_after h) → LeavesRead old mid → LeavesCall keeps holds mid call result new → new k
    → LeavesBy keeps old Present h v means (answer_in result) k
made_left_as are keeps holds mid old new call h v None k result read held left leaves more = absurd read
made_left_as are keeps holds mid old new call h v (Some m) k result read held left leaves more =
    before keeps old mid h v m k (answer_in result) left
    (as_message keeps mid h v m k result
    (leaves h.identity h.key (calls_of h.identity h.pairs) m k (call_asked are holds call h m held read) more))

pub made_left : BookTells → CallsAreHistory → {Kept : Type 0} (keeps : Kept → Book → Type 0) (holds mid_holds : Book → Type 0) (old mid new : Kept → Type 0) (v : MessageValue) (call : Call) (result : Result (Vec ℕ Global) Unavailable)
    → IsRead holds mid_holds v (Ok call) → LeavesRead old mid → LeavesCall keeps mid_holds mid call result new → LeavesBytes Present keeps holds old v (answer_in result) new
made_left tells are keeps holds mid_holds old mid new v call result read left leaves h means k asked more =
    let got = read (book_after h) asked.stands.book in
    let (whole, is, judges) = call_whole (book_after h) v call got.0 in
    made_left_as are keeps mid_holds mid old new whole h v means k result (means_read h v (Ok whole) means is asked.read) got.1 left
    (leaves_judged tells keeps mid_holds mid new call whole result judges leaves) more

-- ---- from the company's part alone

pub replied : OneMeaning → OwnText → (old new : Book → Type 0) (v : MessageValue) (answer : Option (List ℕ)) → GoesBytes Present old v answer new → RepliesBytes old v answer
replied one own old new v (Some bytes) goes = λ h stands c to.
    let m = one.some (verdict_on (book_after h) v) in
    let on = goes h m.0 (record { stands = stands; read = m.1 }) in
    on.0 ∙ own h.identity h.key h.pairs c v m.0 (record { history = stands.history; read = m.1 }) to
replied one own old new v None goes = λ h stands. tt

-- The start of the bytes that came, and what more bytes make of it.
use Rattle.std.proofs.Common.{◌≡◌, ℕ, ◌<◌, ◌≤◌, ◌⊎◌, inl, inr, List, [], ◌++◌, length, drop, Option, Some, None, Result, Ok, Err, refl, sym, ap, ◌∙◌, subst, arith, append-nil, length-append}
use Rattle.std.specs.Prelude.{Vec}
use Rattle.std.specs.declared.alloc.Global.{Global}
use Rattle.httparse.specs.Grammar.{RequestHead}
use Rattle.httparse.specs.declared.spans.HeaderSpan.{HeaderSpan}
use Rattle.httparse.specs.declared.spans.RequestSpans.{RequestSpans}
use Rattle.http_message.specs.Start.{IsHeadAt, framing_at}
use Rattle.http_message.specs.Heads.{Opens, fields_of, head_framing}
use Rattle.http_message.specs.Input.{IsLittle, IsRequest, Arrives, IsArrival, ReadsBody, TellsBody}
use Rattle.http_message.specs.Stream.{HasBody, ReadsBad, IsPart, IsCut, WantsBody}
use Rattle.http_message.specs.declared.framing.Framing.{Framing}
use Rattle.http_message.specs.declared.framing.Framing.TheVariants.{BadLength, LengthRequired, TooLarge, Body}
use Rattle.http_message.specs.declared.reading.Arrival.{Arrival}
use Rattle.http_message.specs.declared.reading.Arrival.TheVariants as arrivals
use Rattle.http_message.specs.declared.reading.Stop.{Stop}
use Rattle.http_message.specs.declared.reading.Stop.TheVariants.{Fault, NoRoom}
use Rattle.http_message.proofs.FramingLemmas.{body_limit}
use Rattle.http_message.proofs.StreamLemmas.{Opens-append}

-- the bytes of a head, and what was taken after them
pub opens_with : (bytes taken : List ℕ) (fields : List HeaderSpan) (spans : RequestSpans) (h : RequestHead) → IsHeadAt bytes fields spans h
    → Opens (bytes ++ taken) h (drop spans.len bytes ++ taken)
opens_with bytes taken fields spans h at = Opens-append bytes (drop spans.len bytes) taken h at.opens

-- a head whose body is read
pub body_is_request : (bytes taken body : List ℕ) (fields : List HeaderSpan) (spans : RequestSpans) (framing : Framing) (h : RequestHead) (size : ℕ)
    → IsHeadAt bytes fields spans h → framing ≡ framing_at bytes fields spans → head_framing h ≡ Body size → length body ≡ size
    → drop spans.len bytes ++ taken ≡ body ++ drop size (drop spans.len bytes)
    → IsRequest (bytes ++ taken) bytes fields spans framing body
body_is_request bytes taken body fields spans framing h size at framed says whole split = record {
  head = h;
  framed = framed;
  at = at;
  reads = λ is_last. record {
    head = h;
    after = drop spans.len bytes ++ taken;
    opens = opens_with bytes taken fields spans h at;
    has_body = let P : Framing → Type 0 = λ f. HasBody f (drop spans.len bytes ++ taken) body (drop (length body) (drop spans.len bytes)) in
        subst P (sym says) (whole, split ∙ ap (λ n. body ++ drop n (drop spans.len bytes)) (sym whole));
    is = refl;
  };
}

-- a head after which no body is read, since it has no length
pub bare_is_request : (bytes : List ℕ) (fields : List HeaderSpan) (spans : RequestSpans) (h : RequestHead) (framing : Framing)
    → IsHeadAt bytes fields spans h → framing ≡ framing_at bytes fields spans → framing ≡ head_framing h → (framing ≡ LengthRequired) ⊎ (framing ≡ TooLarge)
    → IsRequest (bytes ++ []) bytes fields spans framing []
bare_is_request bytes fields spans h framing at framed says no_body = record {
  head = h;
  framed = framed;
  at = at;
  reads = λ is_last. record {
    head = h;
    after = drop spans.len bytes ++ [];
    opens = opens_with bytes [] fields spans h at;
    has_body = let P : Framing → Type 0 = λ f. HasBody f (drop spans.len bytes ++ []) [] (drop 0 (drop spans.len bytes)) in
        elim no_body [
          | inl required ↦ subst P (sym required ∙ says) (refl, append-nil (drop spans.len bytes))
          | inr large ↦ subst P (sym large ∙ says) (refl, append-nil (drop spans.len bytes))
        ];
    is = refl;
  };
}

-- a head whose length is bad
pub bad_length_is : (bytes : List ℕ) (fields : List HeaderSpan) (spans : RequestSpans) (h : RequestHead)
    → IsHeadAt bytes fields spans h → head_framing h ≡ BadLength → ReadsBad (bytes ++ []) bytes
bad_length_is bytes fields spans h at says = record {
  bad = inr (h, drop spans.len bytes ++ [], opens_with bytes [] fields spans h at, says);
  rest_is = sym (append-nil bytes);
}

-- a head whose body is cut
pub cut_in_body : (bytes taken : List ℕ) (fields : List HeaderSpan) (spans : RequestSpans) (h : RequestHead) (size : ℕ)
    → IsHeadAt bytes fields spans h → head_framing h ≡ Body size → length (drop spans.len bytes ++ taken) < size
    → IsCut (bytes ++ taken)
cut_in_body bytes taken fields spans h size at says short = inr (record {
  head = h;
  after = drop spans.len bytes ++ taken;
  size = size;
  opens = opens_with bytes taken fields spans h at;
  says = says;
  short = short;
})

-- a head that wants a body
pub wants_body : (bytes taken : List ℕ) (fields : List HeaderSpan) (spans : RequestSpans) (h : RequestHead) (size : ℕ)
    → IsHeadAt bytes fields spans h → head_framing h ≡ Body size → 0 < size → WantsBody (bytes ++ taken)
wants_body bytes taken fields spans h size at says some =
    (h, drop spans.len bytes ++ taken, size, opens_with bytes taken fields spans h at, says, some)

-- what a body that was read, or not, makes arrive
abbrev pub arrival_of : RequestSpans → Framing → Result (Option (Vec ℕ Global)) Stop → Arrival
arrival_of spans framing (Ok (Some body)) = arrivals.Request spans framing body
arrival_of spans framing (Ok None) = arrivals.Cut
arrival_of spans framing (Err Fault) = arrivals.Fault
arrival_of spans framing (Err NoRoom) = arrivals.NoRoom

pub body_arrives : (bytes come : List ℕ) (fields : List HeaderSpan) (spans : RequestSpans) (framing : Framing) (h : RequestHead) (size : ℕ)
    (before after : Option (List ℕ)) (result : Result (Option (Vec ℕ Global)) Stop)
    → IsHeadAt bytes fields spans h → framing ≡ framing_at bytes fields spans → head_framing h ≡ Body size → come ≡ drop spans.len bytes → length bytes ≤ 16384
    → ReadsBody result before after come size → Arrives (arrival_of spans framing result) fields before after bytes bytes
body_arrives bytes come fields spans framing h size before after result at framed says is few read = record {
  taken = read.taken;
  takes = read.takes;
  few = few;
  is = by_result result (let P : List ℕ → Type 0 = λ l. TellsBody result l read.taken size after in subst P is read.tells);
}
  where
    by_result : (r : Result (Option (Vec ℕ Global)) Stop) → TellsBody r (drop spans.len bytes) read.taken size after
        → IsArrival (arrival_of spans framing r) fields (bytes ++ read.taken) bytes after
    by_result (Ok (Some body)) t = body_is_request bytes read.taken body.items fields spans framing h size at framed says t.0 t.1
    by_result (Ok None) t = (cut_in_body bytes read.taken fields spans h size at says t.0, t.1)
    by_result (Err Fault) t = inr (cut_in_body bytes read.taken fields spans h size at says t)
    by_result (Err NoRoom) t =
        let none = ap length t.1 in
        (wants_body bytes read.taken fields spans h size at says t.0, simp length-append (omega (arith, few, none)))

-- what ends inside a message is little
pub cut_is_little : (s : List ℕ) → IsCut s → IsLittle s
cut_is_little s (inl inside) = let short = inside.short in omega (arith, short)
cut_is_little s (inr inside) =
    let sizes = simp length-append at (ap length inside.opens.reads.1) in
    let head = inside.opens.short in
    let limit = body_limit inside.head.method (fields_of inside.head) inside.size inside.says in
    let short = inside.short in
    omega (arith, sizes, head, limit, short)

pub part_is_little : (s : List ℕ) → IsPart s → IsLittle s
part_is_little s (inl none) = let size = ap length none in omega (arith, size)
part_is_little s (inr inside) = cut_is_little s inside

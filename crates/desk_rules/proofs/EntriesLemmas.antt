-- The entries of drafts, one after another.
use Rattle.std.proofs.Common.{◌≡◌, ◌<◌, ◌+◌, ℕ, List, [], ◌∷◌, ◌++◌, Option, Result, Ok, Err, length, drop, get_or, refl, sym, ap, ◌∙◌, append_assoc}
use Rattle.std.proofs.lemmas.List.{drop_more}
use Rattle.desk_rules.specs.declared.bodies.draft.EntryDraft.{EntryDraft}
use Rattle.desk_rules.specs.declared.bodies.submission.Entry.{Entry}
use Rattle.desk_rules.specs.declared.refusals.refusal.Refusal.{Refusal}
use Rattle.desk_rules.specs.Chain.{◌>>=◌}
use Rattle.desk_rules.specs.Submission.{entry_of, entries_of}

-- an accepted entry in front of the accepted rest
abbrev pub after : List Entry → Result (List Entry) Refusal → Result (List Entry) Refusal
after es r = r >>= (λ more. Ok (es ++ more))

after_one : (es : List Entry) (e : Entry) (r : Result (List Entry) Refusal) → after es (r >>= (λ more. Ok (e ∷ more))) ≡ after (es ++ e ∷ []) r
after_one es e (Ok more) = ap Ok (sym (append_assoc es (e ∷ []) more))
after_one es e (Err r) = refl

after_bind : (es : List Entry) (r : Result Entry Refusal) (rest : Result (List Entry) Refusal)
    → after es (r >>= (λ e. rest >>= (λ more. Ok (e ∷ more)))) ≡ r >>= (λ e. after (es ++ e ∷ []) rest)
after_bind es (Ok e) rest = after_one es e rest
after_bind es (Err r) rest = refl

pub after_step : (es : List Entry) (n i : ℕ) (d : Option EntryDraft) (ds : List (Option EntryDraft)) → i < length ds → d ≡ get_or ds i d
    → after es (entries_of n (drop i ds)) ≡ entry_of n d >>= (λ e. after (es ++ e ∷ []) (entries_of (n + 1) (drop (i + 1) ds)))
after_step es n i d ds inside here =
    let left : drop i ds ≡ d ∷ drop (i + 1) ds = drop_more ds i d inside ∙ ap (λ x. x ∷ drop (i + 1) ds) (sym here) in
    rw left (after_bind es (entry_of n d) (entries_of (n + 1) (drop (i + 1) ds)))

-- a good draft adds its entry
pub after_good : (wanted : Result (List Entry) Refusal) (es grown : List Entry) (n i : ℕ) (d : Option EntryDraft) (ds : List (Option EntryDraft)) (e : Entry)
    → wanted ≡ after es (entries_of n (drop i ds)) → i < length ds → d ≡ get_or ds i d → entry_of n d ≡ Ok e → grown ≡ es ++ e ∷ []
    → wanted ≡ after grown (entries_of (n + 1) (drop (i + 1) ds))
after_good wanted es grown n i d ds e so_far inside here is grows =
    so_far ∙ after_step es n i d ds inside here ∙ rw (is, grows) refl

-- What holds of all tables of the schema holds of the table of each name; and the table of one name is put in another's place.
use Rattle.std.proofs.Common.{◌≡◌, ◌≢◌, ◌==◌, ◌∙◌, Bool, true, false, List, ◌∷◌, [], sym, subst, refl, true≢false, rules, arith}
use Rattle.std.proofs.lemmas.Bool.{eqb-true}
use Rattle.std.specs.List.{AllByRecursion}
use Rattle.sqlite.specs.Table.{Table}
use Rattle.sqlite_trees.specs.Tree.{Trees}
use Rattle.sql_statements.specs.StoredRows.{Stores}
use Rattle.sql_tables.specs.ByName as named
use Rattle.sql_tables.specs.ByName.{Name, Of, described, records, StandsAt, IsStored}
use Rattle.sql_tables.specs.Description.{form, table}
use Rattle.sql_tables.specs.Schema.{desk_schema}
use Rattle.sql_tables.specs.Tables.{Tables}

pub each_table : (P : Table → Type 0) → AllByRecursion P desk_schema.tables → (n : Name) → P (table (described n))
each_table P all named.desk = all.0
each_table P all named.holidays = all.1.0
each_table P all named.companies = all.1.1.0
each_table P all named.submissions = all.1.1.1.0
each_table P all named.entries = all.1.1.1.1.0
each_table P all named.returns = all.1.1.1.1.1.0
each_table P all named.changes = all.1.1.1.1.1.1.0
each_table P all named.postings = all.1.1.1.1.1.1.1.0
each_table P all named.suspense = all.1.1.1.1.1.1.1.1.0
each_table P all named.files = all.1.1.1.1.1.1.1.1.1.0
each_table P all named.taken = all.1.1.1.1.1.1.1.1.1.1.0
each_table P all named.balances = all.1.1.1.1.1.1.1.1.1.1.1.0
each_table P all named.numbers = all.1.1.1.1.1.1.1.1.1.1.1.1.0
each_table P all named.authorizations = all.1.1.1.1.1.1.1.1.1.1.1.1.1.0

-- ---- the records of one table are others

abbrev pub with_records : (n : Name) → List (Of n) → Tables → Tables
with_records named.desk [] t = t
with_records named.desk (d ∷ ds) t = record t { desk = d }
with_records named.holidays xs t = record t { holidays = xs }
with_records named.companies xs t = record t { companies = xs }
with_records named.submissions xs t = record t { submissions = xs }
with_records named.entries xs t = record t { entries = xs }
with_records named.returns xs t = record t { returns = xs }
with_records named.changes xs t = record t { changes = xs }
with_records named.postings xs t = record t { postings = xs }
with_records named.suspense xs t = record t { suspense = xs }
with_records named.files xs t = record t { files = xs }
with_records named.taken xs t = record t { taken = xs }
with_records named.balances xs t = record t { balances = xs }
with_records named.numbers xs t = record t { numbers = xs }
with_records named.authorizations xs t = record t { authorizations = xs }

-- each table has a tree of its own
one_tree : (m n : Name) → (described n).tree ≡ (described m).tree → n ≡ m
one_tree named.desk named.desk e = refl
one_tree named.desk _ e = absurd (omega (arith, e))
one_tree named.holidays named.holidays e = refl
one_tree named.holidays _ e = absurd (omega (arith, e))
one_tree named.companies named.companies e = refl
one_tree named.companies _ e = absurd (omega (arith, e))
one_tree named.submissions named.submissions e = refl
one_tree named.submissions _ e = absurd (omega (arith, e))
one_tree named.entries named.entries e = refl
one_tree named.entries _ e = absurd (omega (arith, e))
one_tree named.returns named.returns e = refl
one_tree named.returns _ e = absurd (omega (arith, e))
one_tree named.changes named.changes e = refl
one_tree named.changes _ e = absurd (omega (arith, e))
one_tree named.postings named.postings e = refl
one_tree named.postings _ e = absurd (omega (arith, e))
one_tree named.suspense named.suspense e = refl
one_tree named.suspense _ e = absurd (omega (arith, e))
one_tree named.files named.files e = refl
one_tree named.files _ e = absurd (omega (arith, e))
one_tree named.taken named.taken e = refl
one_tree named.taken _ e = absurd (omega (arith, e))
one_tree named.balances named.balances e = refl
one_tree named.balances _ e = absurd (omega (arith, e))
one_tree named.numbers named.numbers e = refl
one_tree named.numbers _ e = absurd (omega (arith, e))
one_tree named.authorizations named.authorizations e = refl
one_tree named.authorizations _ e = absurd (omega (arith, e))

others_kept : (m n : Name) (xs : List (Of m)) (t : Tables) → (described n).tree ≢ (described m).tree → records n (with_records m xs t) ≡ records n t
others_kept named.desk named.desk xs t apart = absurd (apart refl)
others_kept named.desk _ [] t apart = refl
others_kept named.desk _ (d ∷ ds) t apart = refl
others_kept named.holidays named.holidays xs t apart = absurd (apart refl)
others_kept named.holidays _ xs t apart = refl
others_kept named.companies named.companies xs t apart = absurd (apart refl)
others_kept named.companies _ xs t apart = refl
others_kept named.submissions named.submissions xs t apart = absurd (apart refl)
others_kept named.submissions _ xs t apart = refl
others_kept named.entries named.entries xs t apart = absurd (apart refl)
others_kept named.entries _ xs t apart = refl
others_kept named.returns named.returns xs t apart = absurd (apart refl)
others_kept named.returns _ xs t apart = refl
others_kept named.changes named.changes xs t apart = absurd (apart refl)
others_kept named.changes _ xs t apart = refl
others_kept named.postings named.postings xs t apart = absurd (apart refl)
others_kept named.postings _ xs t apart = refl
others_kept named.suspense named.suspense xs t apart = absurd (apart refl)
others_kept named.suspense _ xs t apart = refl
others_kept named.files named.files xs t apart = absurd (apart refl)
others_kept named.files _ xs t apart = refl
others_kept named.taken named.taken xs t apart = absurd (apart refl)
others_kept named.taken _ xs t apart = refl
others_kept named.balances named.balances xs t apart = absurd (apart refl)
others_kept named.balances _ xs t apart = refl
others_kept named.numbers named.numbers xs t apart = absurd (apart refl)
others_kept named.numbers _ xs t apart = refl
others_kept named.authorizations named.authorizations xs t apart = absurd (apart refl)
others_kept named.authorizations _ xs t apart = refl

-- the trees of the other tables are as they were
abbrev pub Others : Name → (old new : Trees) → Type 0
Others m old new = AllByRecursion (λ u. u.tree ≢ (described m).tree → new u.tree ≡ old u.tree) desk_schema.tables

-- a statement of one table leaves the others
module _ (m : Name) (old new : Trees) (t : Tables) (h : IsStored old t) (others : Others m old new) (xs : List (Of m)) where
  kept : (n : Name) → (described n).tree ≢ (described m).tree → StandsAt new n (records n (with_records m xs t))
  kept n apart =
      let same = each_table (λ u. u.tree ≢ (described m).tree → new u.tree ≡ old u.tree) others n apart in
      let stored = subst (λ l. Stores (form (described n)) l (records n t)) (sym same) (h.stands n).stored in
      let now : StandsAt new n (records n t) = record { stored = stored; rise = (h.stands n).rise } in
      subst (StandsAt new n) (sym (others_kept m n xs t apart)) now

  pub changed : StandsAt new m (records m (with_records m xs t)) → IsStored new (with_records m xs t)
  changed is = record { stands = λ n. go n ((described n).tree == (described m).tree) refl }
    where
      go : (n : Name) (b : Bool) → ((described n).tree == (described m).tree) ≡ b → StandsAt new n (records n (with_records m xs t))
      go n true e = subst (λ k. StandsAt new k (records k (with_records m xs t))) (sym (one_tree m n (eqb-true _ _ e))) is
      go n false e = kept n (λ is. true≢false (sym (itself is) ∙ e))
        where
          itself : (described n).tree ≡ (described m).tree → ((described n).tree == (described m).tree) ≡ true
          itself is = search (rules, is)

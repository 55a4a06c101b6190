-- A new company stands where the order of the key puts it.
use Rattle.std.proofs.Common.{◌≡◌, Bool, true, false, cond, List, [], ◌∷◌, find, Some, None, refl, sym, ap, ◌∙◌, is_gt}
use Rattle.std.specs.Ordering.{is_lt, is_eq}
use Rattle.std.specs.declared.cmp.Ordering.{Ordering}
use Rattle.std.specs.declared.cmp.Ordering.TheVariants.{Less, Equal, Greater}
use Rattle.std.proofs.lemmas.Map.Text.{is_eq-slice_cmp}
use Rattle.std.proofs.lemmas.Slice.Eq.{bytes_eq-Decides}
use Rattle.sqlite_keyed.specs.Lists.{insert_sorted}
use Rattle.desk_history.specs.History.{with_company}
use Rattle.desk_history.specs.Operator.{has_id}
use Rattle.desk_rules.specs.declared.bodies.company.Company.{Company}
use Rattle.sql_tables.specs.Description.{key_cmp}
use Rattle.sql_tables.specs.DeskTables as the
use Rattle.sql_tables.specs.KeyOrders.{text_cmp}

pub company_put : (k : Company) (ks : List Company) → find (has_id k.id) ks ≡ None → insert_sorted (key_cmp the.companies) k ks ≡ with_company k ks
company_put k [] none = refl
company_put k (x ∷ ks) none = go (text_cmp k.id x.id) (has_id k.id x) refl refl none (company_put k ks)
  where
    ties : text_cmp k.id x.id ≡ Equal → has_id k.id x ≡ true
    ties e = (bytes_eq-Decides x.id k.id).1 (sym ((bytes_eq-Decides k.id x.id).0 (sym (is_eq-slice_cmp k.id x.id) ∙ ap is_eq e)))

    go : (o : Ordering) (b : Bool) → text_cmp k.id x.id ≡ o → has_id k.id x ≡ b → cond b (Some x) (find (has_id k.id) ks) ≡ None → (find (has_id k.id) ks ≡ None → insert_sorted (key_cmp the.companies) k ks ≡ with_company k ks)
        → cond (is_gt o) (x ∷ insert_sorted (key_cmp the.companies) k ks) (k ∷ x ∷ ks) ≡ cond (is_lt o) (k ∷ x ∷ ks) (x ∷ with_company k ks)
    go o true e is no_one more = cc
    go Less false e is no_one more = refl
    go Equal false e is no_one more = absurd (let t : true ≡ false = sym (ties e) ∙ is in cc)
    go Greater false e is no_one more = ap (λ l. x ∷ l) (more no_one)

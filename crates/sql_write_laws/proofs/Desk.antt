-- What the operator writes: the day, the holidays and the companies stand by themselves.
use Rattle.std.proofs.Common.{ℕ, List, map, Some, refl, ap, ◌∙◌}
use Rattle.desk_book.specs.Book.{Book}
use Rattle.desk_book.specs.Steps.{set_day, set_holidays, put_company, put_limits}
use Rattle.desk_history.specs.History.{with_company, with_limits}
use Rattle.desk_rules.specs.declared.bodies.company.Company.{Company}
use Rattle.desk_rules.specs.declared.bodies.company.Limits.{Limits}
use Rattle.sql_tables.specs.TableEdits.{set_day_edit, set_holidays_edit, put_company_edit, put_limits_edit}
use Rattle.sql_tables.specs.declared.records.DeskRecord.{DeskRecord}
use Rattle.sql_write_laws.specs.Making.{Makes}
use Rattle.sql_write_laws.proofs.Companies.{company_put}
use Rattle.sql_write_laws.proofs.Each.{in_book, rows_in_book}
use Rattle.sql_write_laws.proofs.Independent.{independent, stand_with}

pub day_made : (day : ℕ) → Makes (set_day_edit day) (set_day day)
day_made day trees t b stored h admits told =
    let r = h.rows in
    let are = rows_in_book t b h in
    in_book _ (record r { day = Some day }) _
    (stand_with t r are (record (independent t r are) { desk = record { table = _; rows = Some day; is_of = ap (λ (d : DeskRecord). record d { day = Some day }) h.encodes.desk } }))
    (ap (λ (x : Book). record x { day = Some day }) h.book)

pub holidays_made : (days : List ℕ) → Makes (set_holidays_edit days) (set_holidays days)
holidays_made days trees t b stored h admits told =
    let r = h.rows in
    let are = rows_in_book t b h in
    in_book _ (record r { holidays = days }) _
    (stand_with t r are (record (independent t r are) { holidays = record { table = days; rows = days; is_of = refl } }))
    (ap (λ (x : Book). record x { holidays = days }) h.book)

pub company_made : (k : Company) → Makes (put_company_edit k) (put_company k)
company_made k trees t b stored h admits told =
    let r = h.rows in
    let are = rows_in_book t b h in
    in_book _ (record r { companies = with_company k r.companies }) _
    (stand_with t r are (record (independent t r are) { companies = record { table = _; rows = with_company k r.companies; is_of = company_put k t.companies told ∙ ap (with_company k) h.encodes.companies } }))
    (ap (λ (x : Book). record x { companies = with_company k x.companies }) h.book)

pub limits_made : (id : List ℕ) (limits : Limits) → Makes (put_limits_edit id limits) (put_limits id limits)
limits_made id limits trees t b stored h admits told =
    let r = h.rows in
    let are = rows_in_book t b h in
    in_book _ (record r { companies = map (with_limits id limits) r.companies }) _
    (stand_with t r are (record (independent t r are) { companies = record { table = _; rows = map (with_limits id limits) r.companies; is_of = ap (map (with_limits id limits)) h.encodes.companies } }))
    (ap (λ (x : Book). record x { companies = map (with_limits id limits) x.companies }) h.book)

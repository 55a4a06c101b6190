-- The routes of the desk: one table.
use Rattle.std.specs.Prelude.{ℕ, ◌+◌, List, [], ◌∷◌, ◌++◌, length, map, fold, codes, Some, None, Result, Ok, Err}
use Rattle.std.specs.Borrow.{Bor}
use Rattle.matchit.specs.Rows.{RowsOf, param_token}
use Rattle.matchit.specs.Order.{placed}
use Rattle.matchit.specs.Router.{RouteOf, route_from}
use Rattle.matchit.specs.Route.{Scan, parse_route}
use Rattle.matchit.specs.declared.error.InsertError.{InsertError}
use Rattle.http_routes.specs.declared.route.Route.{Route}
use Rattle.http_routes.specs.declared.route.Route.TheVariants.{Company, Operator}
use Rattle.http_routes.specs.declared.route.CompanyRoute.TheVariants as company
use Rattle.http_routes.specs.declared.route.OperatorRoute.TheVariants as operator
use Rattle.http_routes.specs.declared.route.Served.{Served}

-- a piece of a path between two slashes: a text, or any text that is not empty, under a name
pub data Piece : Type 0 where
  text : List ℕ → Piece
  any : List ℕ → Piece

-- a path, and the routes that it serves
pub record Row : Type 0 where
  pub path : List Piece
  pub served : Served

-- a path that takes GET, POST, or both
abbrev pub get : List Piece → Route → Row
get path route = record { path = path; served = record { get = Some route; post = None } }

abbrev pub post : List Piece → Route → Row
post path route = record { path = path; served = record { get = None; post = Some route } }

abbrev pub get_and_post : List Piece → (got posted : Route) → Row
get_and_post path got posted = record { path = path; served = record { get = Some got; post = Some posted } }

-- the pieces of a company's path, after its name
abbrev pub of_company : List Piece → List Piece
of_company pieces = text (codes "c") ∷ any (codes "company") ∷ pieces

abbrev pub of_operator : List Piece → List Piece
of_operator pieces = text (codes "ops") ∷ pieces

-- each path once, with the methods that it takes, who calls and what is called
abbrev pub table : List Row
table =
    get (of_company (text (codes "changes") ∷ [])) (Company company.Changes)
    ∷ get (of_company (text (codes "exposure") ∷ [])) (Company company.Exposure)
    ∷ get (of_company (text (codes "rates") ∷ [])) (Company company.Rates)
    ∷ post (of_company (text (codes "retries") ∷ [])) (Company company.Retry)
    ∷ get (of_company (text (codes "returns") ∷ [])) (Company company.Returns)
    ∷ get (of_company (text (codes "statement") ∷ [])) (Company company.Statement)
    ∷ get (of_company (text (codes "submissions") ∷ any (codes "ref") ∷ [])) (Company company.LookUp)
    ∷ post (of_company (text (codes "submissions") ∷ [])) (Company company.Submit)
    ∷ get_and_post (of_operator (text (codes "companies") ∷ [])) (Operator operator.Companies) (Operator operator.PutCompany)
    ∷ post (of_operator (text (codes "cut") ∷ [])) (Operator operator.Cut)
    ∷ post (of_operator (text (codes "day") ∷ [])) (Operator operator.SetDay)
    ∷ get (of_operator (text (codes "files") ∷ any (codes "day") ∷ any (codes "modifier") ∷ [])) (Operator operator.FileText)
    ∷ post (of_operator (text (codes "holidays") ∷ [])) (Operator operator.SetHolidays)
    ∷ post (of_operator (text (codes "limits") ∷ [])) (Operator operator.PutLimits)
    ∷ post (of_operator (text (codes "returns") ∷ [])) (Operator operator.TakeFile)
    ∷ get (of_operator (text (codes "settlement") ∷ [])) (Operator operator.Settlement)
    ∷ get (of_operator (text (codes "status") ∷ [])) (Operator operator.Status)
    ∷ get (of_operator (text (codes "suspense") ∷ [])) (Operator operator.Suspense)
    ∷ []

-- ---- the table as the router keeps it

-- the path as it is written for the router, a name between braces
abbrev pub path_text : List Piece → List ℕ
path_text [] = []
path_text (text t ∷ pieces) = codes "/" ++ t ++ path_text pieces
path_text (any name ∷ pieces) = codes "/{" ++ name ++ codes "}" ++ path_text pieces

-- the path as the router reads it
abbrev pub pattern : List Piece → List ℕ
pattern [] = []
pattern (text t ∷ pieces) = codes "/" ++ t ++ pattern pieces
pattern (any name ∷ pieces) = codes "/" ++ param_token ∷ pattern pieces

-- the places of the names in the text, after this many bytes
abbrev pub names_from : ℕ → List Piece → List (ℕ × ℕ)
names_from n [] = []
names_from n (text t ∷ pieces) = names_from (n + 1 + length t) pieces
names_from n (any name ∷ pieces) = (n + 2, n + 2 + length name) ∷ names_from (n + 3 + length name) pieces

abbrev pub router_row : Row → List ℕ × RouteOf Served
router_row r = (pattern r.path, record { pattern = pattern r.path; text = path_text r.path; names = names_from 0 r.path; value = r.served })

abbrev pub router_rows : RowsOf (RouteOf Served)
router_rows = map router_row table

-- the router's rows with one more route, as its path's text is read
abbrev pub with_read : Result Scan InsertError → Served → RowsOf (RouteOf Served) → RowsOf (RouteOf Served)
with_read (Ok s) served rows = placed (s.pattern, route_from s served) rows
with_read (Err e) served rows = rows

-- its rows with one more route, by its path and what is served there
abbrev pub with_route : RowsOf (RouteOf Served) → List ℕ × Served → RowsOf (RouteOf Served)
with_route rows route = with_read (parse_route route.0) route.1 rows

-- and with more routes, one after another
abbrev pub with_routes : RowsOf (RouteOf Served) → List (List ℕ × Served) → RowsOf (RouteOf Served)
with_routes = fold with_route

-- a row of the program, by its path
abbrev pub served_by_path : Bor (List ℕ) × Served → List ℕ × Served
served_by_path r = (r.0.now, r.1)

use Rattle.std.proofs.Common.{◌≡◌, ℕ, ◌<◌, Bool, true, false, cond, List, [], ◌∷◌, map, Some, refl, ap, ◌∙◌}
use Rattle.std.proofs.lemmas.Bool.{lt-ltb}
use Rattle.std.proofs.lemmas.List.Elements.{All-head, All-tail}
use Rattle.std.specs.Prelude.{All, find}
use Rattle.std.specs.List.{list_all}
use Rattle.std.specs.Option.{option_map}
use Rattle.http_routes.specs.Finding.{value_of}
use Rattle.http_routes.specs.Pieces.{row_fits}
use Rattle.http_routes.specs.Table.{Row, router_row, router_rows, table}
use Rattle.http_routes.proofs.Cutting.{is_clean, pattern_takes}
use Rattle.http_routes.proofs.Seeking.{find_row, seek_is}
use Rattle.http_routes.proofs.Walks.{byte, first_true, second_true, and_true}
use Rattle.http_routes.proofs.laws.found_by_pieces.Goals as goal

low_bytes : (path : List ℕ) → All (λ b. b < 256) path → list_all byte path ≡ true
low_bytes [] low = refl
low_bytes (b ∷ path) low = and_true (byte b) _ (lt-ltb b 256 (All-head (λ b. b < 256) b path low)) (low_bytes path (All-tail (λ b. b < 256) b path low))

-- the first row that takes the path is the first that fits it
same_row : (rows : List Row) (path : List ℕ) → list_all (λ r. is_clean r.path) rows ≡ true
    → value_of (find_row (map router_row rows) path) ≡ option_map (λ r. r.served) (find (row_fits path) rows)
same_row [] path clean = refl
same_row (r ∷ rows) path clean =
    ap (λ (c : Bool). value_of (cond c (Some (router_row r).1) (find_row (map router_row rows) path))) (pattern_takes r.path path (first_true (is_clean r.path) _ clean))
    ∙ by_test (row_fits path r) (same_row rows path (second_true (is_clean r.path) _ clean))
  where
    by_test : (c : Bool) → value_of (find_row (map router_row rows) path) ≡ option_map (λ r. r.served) (find (row_fits path) rows)
        → value_of (cond c (Some (router_row r).1) (find_row (map router_row rows) path)) ≡ option_map (λ r. r.served) (cond c (Some r) (find (row_fits path) rows))
    by_test true later = refl
    by_test false later = later

pub returns : goal.returns
returns c path low =
    ap value_of (seek_is router_rows path refl refl (low_bytes path low)) ∙ same_row table path refl

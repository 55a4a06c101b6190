-- The table by the pieces of a path, as a plain cut at its slashes gives them.
use Rattle.std.specs.Prelude.{◌≡◌, ℕ, ◌==◌, nat_lt, Bool, true, false, ◌&&◌, List, [], ◌∷◌, length, bytes_eq, Option, All, ◌<◌, find}
use Rattle.std.specs.List.{slice_split}
use Rattle.std.specs.Option.{option_map}
use Rattle.matchit.specs.Seek.{first}
use Rattle.http_routes.specs.Finding.{value_of}
use Rattle.http_routes.specs.Table.{Piece, text, any, Row, table, router_rows}
use Rattle.http_routes.specs.declared.route.Served.{Served}

-- the pieces of a path between its slashes, with the text before the first
abbrev pub pieces_of : List ℕ → List (List ℕ)
pieces_of path = slice_split (λ b. b == 47) path

-- a piece is the text, or is not empty
abbrev pub piece_fits : Piece → List ℕ → Bool
piece_fits (text t) piece = bytes_eq t piece
piece_fits (any name) piece = nat_lt 0 (length piece)

-- as many pieces, and each fits
abbrev pub fits : List Piece → List (List ℕ) → Bool
fits [] [] = true
fits [] (piece ∷ pieces) = false
fits (x ∷ xs) [] = false
fits (x ∷ xs) (piece ∷ pieces) = piece_fits x piece && fits xs pieces

-- nothing before the first slash, and then the row's pieces
abbrev pub row_fits : List ℕ → Row → Bool
row_fits path row = fits (text [] ∷ row.path) (pieces_of path)

-- what the table has for the path: the first row that fits
abbrev pub service_at : List ℕ → Option Served
service_at path = option_map (λ row. row.served) (find (row_fits path) table)

-- The router finds for every path of bytes what the table has for its pieces.
abbrev pub FoundByPieces : Type 0
FoundByPieces = (path : List ℕ) → All (λ b. b < 256) path → value_of (first router_rows path) ≡ service_at path

-- The bytes of a response.
use Rattle.std.specs.Prelude.{ℕ, ◌+◌, Bool, List, [], ◌++◌, length, decimal, codes, unwrap_or, if◌then◌else◌}
use Rattle.http.specs.StatusCode.{reason_phrase}
use Rattle.http_response.specs.declared.response.Content.{Content}
use Rattle.http_response.specs.declared.response.Content.TheVariants.{Json, PlainText}
use Rattle.http_response.specs.declared.response.Response.{Response}

-- the end of a line
abbrev pub crlf : List ℕ
crlf = codes "\r\n"

-- the kind of a body
abbrev pub content_type : Content → List ℕ
content_type Json = codes "application/json"
content_type PlainText = codes "text/plain"

-- what becomes of the connection
abbrev pub connection : Bool → List ℕ
connection closes = if closes then codes "close" else codes "keep-alive"

-- a line of the head
unfoldable pub line : List ℕ → List ℕ → List ℕ
line name value = name ++ value ++ crlf

-- the size of a text with such a line after it
abbrev pub size_with_line : (written name value : List ℕ) → ℕ
size_with_line written name value = length written + length name + length value + 2

-- the version, the status and its phrase
unfoldable pub status_line : ℕ → List ℕ
status_line status = codes "HTTP/1.1 " ++ decimal status ++ line (codes " ") (unwrap_or (reason_phrase status) [])

-- the three headers, and the empty line
abbrev pub header_lines : Content → Bool → ℕ → List ℕ
header_lines content closes size =
    line (codes "Content-Type: ") (content_type content)
    ++ line (codes "Content-Length: ") (decimal size)
    ++ line (codes "Connection: ") (connection closes)
    ++ line [] []

-- a status line, three headers, an empty line and the body
abbrev pub response_text : ℕ → Content → Bool → List ℕ → List ℕ
response_text status content closes body = status_line status ++ header_lines content closes (length body) ++ body

-- all of a response except its body, which has this size
abbrev pub head_text : ℕ → Content → Bool → ℕ → List ℕ
head_text status content closes size = status_line status ++ header_lines content closes size

-- the bytes of a response of the program
abbrev pub text_of : Response → List ℕ
text_of r = response_text r.status r.content r.closes r.body.now

-- the response where memory was refused or the store could not act
abbrev pub unavailable_text : List ℕ
unavailable_text =
    codes "HTTP/1.1 503 Service Unavailable" ++ crlf ++ codes "Content-Type: application/json" ++ crlf
    ++ codes "Content-Length: 23" ++ crlf ++ codes "Connection: close" ++ crlf ++ crlf
    ++ codes "{\"error\":\"Unavailable\"}"

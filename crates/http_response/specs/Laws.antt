-- Facts about responses.
use Rattle.std.specs.Prelude.{◌≡◌, true, codes}
use Rattle.http_response.specs.Response.{response_text, unavailable_text}
use Rattle.http_response.specs.declared.response.Content.TheVariants.{Json}

-- the constant text is the response with status 503
abbrev pub UnavailableIsResponse : Type 0
UnavailableIsResponse = unavailable_text ≡ response_text 503 Json true (codes "{\"error\":\"Unavailable\"}")

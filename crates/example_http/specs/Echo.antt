-- What is answered to a request.
use Rattle.std.specs.Prelude.{◌≡◌, ◌||◌, ℕ, ◌+◌, ◌%◌, ◌^◌, List, [], ◌∷◌, Option, Some, None}
use Rattle.std.specs.Prelude.{bytes_eq, codes, decimal, if◌then◌else◌}
use Rattle.http.specs.Request.{body_of, head_of}
use Rattle.http.specs.declared.request.Request.{Request}
use Rattle.http_header.specs.FieldValue.{FieldValue}
use Rattle.http_header.specs.HeaderMap.{get}
use Rattle.http_server.specs.Response.{IsResponse}
use Rattle.http_server.specs.declared.response.Response.{Response}
use Rattle.http_uri.specs.Uri.{uri_path}
use Rattle.example_http.specs.declared.echo.Echo.{Echo}
use Rattle.example_http.specs.declared.echo.Target.{Target}
use Rattle.example_http.specs.declared.echo.Target.TheVariants as Asks

-- What a request with this method and path asks for.
abbrev pub target_path : List ℕ → List ℕ → Target
target_path method path =
    if bytes_eq path (codes "/echo") then (if bytes_eq method (codes "POST") then Asks.Echo else Asks.OnlyPost)
    else if bytes_eq path (codes "/count")
    then (if bytes_eq method (codes "GET") || bytes_eq method (codes "HEAD") then Asks.Count else Asks.OnlyGet)
    else Asks.Missing

-- What a request asks for.
abbrev pub asked_path : Request (List ℕ) → Target
asked_path r = target_path (head_of r).method (uri_path (head_of r).uri)

-- The content type, if there is one.
abbrev pub kind_field : Option FieldValue → List (List ℕ × List ℕ)
kind_field (Some kind) = (codes "content-type", kind.bytes) ∷ []
kind_field None = []

-- The body of the request comes back, with its content type.
abbrev pub IsEcho : Request (List ℕ) → Response → Type 0
IsEcho r s = IsResponse 200 (kind_field (get (head_of r).headers (codes "content-type"))) (body_of r) s

-- The body is the number as text.
abbrev pub IsCount : ℕ → Response → Type 0
IsCount n s = IsResponse 200 ((codes "content-type", codes "text/plain") ∷ []) (decimal n) s

-- The reply to a request that asks for this, if so many were answered before.
abbrev pub Reply : ℕ → Request (List ℕ) → Target → Response → Type 0
Reply n r Asks.Echo s = IsEcho r s
Reply n r Asks.Count s = IsCount n s
Reply n r Asks.OnlyPost s = IsResponse 405 ((codes "allow", codes "POST") ∷ []) [] s
Reply n r Asks.OnlyGet s = IsResponse 405 ((codes "allow", codes "GET, HEAD") ∷ []) [] s
Reply n r Asks.Missing s = IsResponse 404 [] [] s

-- The service replies, and counts the request.
abbrev pub Answers : Echo → Request (List ℕ) → Response → Echo → Type 0
Answers old r s new = Reply old.answered r (asked_path r) s × (new.answered ≡ (old.answered + 1) % 2 ^ 64)

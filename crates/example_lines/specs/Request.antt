-- What a line asks for.
use Rattle.std.specs.Prelude.{◌==◌, ◌||◌, ◌-◌, ℕ, Bool, List, if◌then◌else◌, codes, drop, length, slice_index, take}
use Rattle.std.specs.List.{after_first, before_first}
use Rattle.std.specs.Str.{bytes_eq}
use Rattle.example_lines.specs.declared.request.Request.{Request}
use Rattle.example_lines.specs.declared.request.Request.TheVariants.{Count, Delete, Get, Malformed, Quit, Set, Unknown, Web}
use denote.Ref.{Bor}

-- Whether a byte is a space.
abbrev pub is_space : ℕ → Bool
is_space b = b == 32

-- To set a value, a key and a value are needed, and the value does not end in `\r`.
abbrev pub asked_to_set : List ℕ → List ℕ → Request (List ℕ)
asked_to_set key value =
    if length key == 0 || length value == 0 || slice_index value (length value - 1) == 13 then Malformed else Set key value

-- Whether a line is one of a web page's request.
abbrev pub is_of_web : List ℕ → Bool
is_of_web line = bytes_eq (take 5 line) (codes "POST ") || bytes_eq (take 5 line) (codes "Host:")

-- What a line asks for. Behind `SET` the key is what comes before the first space, and the value is the rest. Behind `GET` and
-- `DEL` the key is the rest.
abbrev pub request_of : List ℕ → Request (List ℕ)
request_of line =
    let verb = take 4 line in
    let rest = drop 4 line in
    if bytes_eq verb (codes "SET ") then asked_to_set (before_first is_space rest) (after_first is_space rest)
    else if bytes_eq verb (codes "GET ") then Get rest
    else if bytes_eq verb (codes "DEL ") then Delete rest
    else if bytes_eq line (codes "COUNT") then Count
    else if bytes_eq line (codes "QUIT") then Quit
    else if is_of_web line then Web
    else Unknown

-- The same request, with the bytes in place of references to them.
abbrev pub bytes_of : Request (Bor (List ℕ)) → Request (List ℕ)
bytes_of (Set key value) = Set key.now value.now
bytes_of (Get key) = Get key.now
bytes_of (Delete key) = Delete key.now
bytes_of Count = Count
bytes_of Quit = Quit
bytes_of Web = Web
bytes_of Malformed = Malformed
bytes_of Unknown = Unknown

-- What a server that is busy at first replies.
use Rattle.std.specs.Prelude.{ℕ, Result, Ok, Err, nat_lt, if◌then◌else◌}

-- The reply to the request with this number: an error to each of the first `busy` requests.
abbrev pub busy_reply : ℕ → ℕ → Result ℕ ℕ
busy_reply busy number = if nat_lt number busy then Err number else Ok number

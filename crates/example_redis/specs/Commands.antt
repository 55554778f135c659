-- What the commands do.
use Rattle.std.specs.Prelude.{◌≡◌, ◌||◌, ◌==◌, ◌+◌, ◌-◌, ℕ, ℤ, pos, Bool, true, false, List, [], ◌∷◌, ◌++◌}
use Rattle.std.specs.Prelude.{Option, Some, None, Result, Ok, Err, codes, if◌then◌else◌, length, map, nat_lt, take}
use Rattle.std.specs.Char.{to_ascii_lowercase}
use Rattle.std.specs.Option.{is_some}
use Rattle.std.specs.declared.alloc.AllocError.{AllocError}
use Rattle.std.specs.declared.alloc.Global.{Global}
use Rattle.std.specs.declared.vec.Vec.{Vec}
use Rattle.std.specs.Str.{bytes_eq}
use Rattle.example_redis.specs.Replies.{count}
use Rattle.example_redis.specs.Store.{HeldValues, fits, put, refusing, without}
use Rattle.example_redis.specs.declared.commands.Outcome.{Outcome}
use Rattle.example_redis.specs.declared.reply.Reply.{Reply}
use Rattle.example_redis.specs.declared.reply.Reply.TheVariants.{Simple, Error, Integer, Bulk, Null, Array'}
use Rattle.example_redis.specs.declared.verb.Verb.{Verb}
use Rattle.example_redis.specs.declared.verb.Verb.TheVariants.{Client, Config, Delete, Describe, Discard, Echo, Exec, Get, Multi, Ping, Quit, Select, Set, Size, Unknown, Web}

-- The command of a name, of those that are about the connection.
abbrev pub verb_of_connection : List ℕ → Verb
verb_of_connection name =
    if bytes_eq name (codes "select") then Select
    else if bytes_eq name (codes "command") then Describe
    else if bytes_eq name (codes "config") then Config
    else if bytes_eq name (codes "client") then Client
    else if bytes_eq name (codes "multi") then Multi
    else if bytes_eq name (codes "exec") then Exec
    else if bytes_eq name (codes "discard") then Discard
    else Unknown

-- The command of a name.
abbrev pub verb : List ℕ → Verb
verb name =
    if bytes_eq name (codes "ping") then Ping
    else if bytes_eq name (codes "echo") then Echo
    else if bytes_eq name (codes "set") then Set
    else if bytes_eq name (codes "get") then Get
    else if bytes_eq name (codes "del") then Delete
    else if bytes_eq name (codes "dbsize") then Size
    else if bytes_eq name (codes "quit") then Quit
    else if bytes_eq name (codes "post") || bytes_eq name (codes "host:") then Web
    else verb_of_connection name

-- The name of a command.
abbrev pub verb_name : Verb → List ℕ
verb_name Ping = codes "ping"
verb_name Echo = codes "echo"
verb_name Set = codes "set"
verb_name Get = codes "get"
verb_name Delete = codes "del"
verb_name Size = codes "dbsize"
verb_name Select = codes "select"
verb_name Describe = codes "command"
verb_name Config = codes "config"
verb_name Client = codes "client"
verb_name Multi = codes "multi"
verb_name Exec = codes "exec"
verb_name Discard = codes "discard"
verb_name Quit = codes "quit"
verb_name Web = []
verb_name Unknown = []

-- What is replied.
pub data Said : Type 0 where
  silent : Said
  simple : List ℕ → Said
  wrong : List ℕ → Said
  number : ℤ → Said
  bulk : List ℕ → Said
  null : Said
  array : ℕ → Said

-- What a reply says.
abbrev pub said : Option Reply → Said
said None = Said.silent
said (Some (Simple text)) = Said.simple text.now
said (Some (Error text)) = Said.wrong text.items
said (Some (Integer n)) = Said.number n
said (Some (Bulk bytes)) = Said.bulk bytes.items
said (Some Null) = Said.null
said (Some (Array' shape all)) = Said.array (count all)

-- What is said, whether the session goes on, and what is held then.
abbrev pub Done : Type 0
Done = Said × Bool × HeldValues

-- The value at a key, or that there is none.
abbrev pub found : Option (List ℕ) → Said
found None = Said.null
found (Some value) = Said.bulk value

-- How many of these keys had a value, and what is held without them.
abbrev pub delete_all : HeldValues → List (List ℕ) → ℕ × HeldValues
delete_all h [] = (0, h)
delete_all h (key ∷ keys) =
    let others = delete_all (without h key) keys in
    ((if is_some (h.at key) then 1 else 0) + others.0, others.1)

-- What is said of a wrong number of words.
abbrev pub wrong_count : Verb → Said
wrong_count v = Said.wrong (codes "ERR wrong number of arguments for '" ++ verb_name v ++ codes "' command")

-- A text with a space for each carriage return and line feed.
abbrev pub one_line : List ℕ → List ℕ
one_line text = map (λ b. if b == 13 || b == 10 then 32 else b) text

-- What is shown of some words behind what was shown before: each in quotes, until 128 bytes are shown.
abbrev pub shown_words : List ℕ → List (List ℕ) → List ℕ
shown_words shown [] = shown
shown_words shown (word ∷ words) =
    if nat_lt (length shown) 128 then shown_words (shown ++ codes "'" ++ take (128 - length shown) word ++ codes "' ") words else shown

-- What is said of a word that names no command, with words behind it.
abbrev pub unknown_text : List ℕ → List (List ℕ) → List ℕ
unknown_text name words =
    one_line (codes "ERR unknown command '" ++ take 128 name ++ codes "', with args beginning with: " ++ shown_words [] words)

-- What `SELECT` says of an index. There is one store.
abbrev pub selected : List ℕ → Said
selected index = if bytes_eq index (codes "0") then Said.simple (codes "OK") else Said.wrong (codes "ERR DB index is out of range")

-- What `COMMAND` says of a topic: how many commands there are.
abbrev pub described : List ℕ → Said
described topic = if bytes_eq topic (codes "count") then Said.number (pos 14) else Said.array 0

-- What `CONFIG` says: there is nothing to read, and nothing can be changed.
abbrev pub configured : List ℕ → Said
configured what = if bytes_eq what (codes "get") then Said.array 0 else Said.wrong (codes "ERR only CONFIG GET is supported")

-- What `CLIENT` says. The name of a client is of no consequence.
abbrev pub introduced : List ℕ → Said
introduced what =
    if bytes_eq what (codes "setname") || bytes_eq what (codes "setinfo") then Said.simple (codes "OK")
    else Said.wrong (codes "ERR only CLIENT SETNAME and CLIENT SETINFO are supported")

-- What is done if there is room for a value at a key, or not.
abbrev pub set_done : HeldValues → List ℕ → List ℕ → Done
set_done h key value =
    if fits (put h key value) then (Said.simple (codes "OK"), true, put h key value)
    else (Said.wrong (codes "OOM command not allowed when used memory > 'maxmemory'."), true, h)

-- Whether a command takes this many words behind its name.
abbrev pub takes : Verb → ℕ → Bool
takes Ping n = nat_lt n 2
takes Echo n = n == 1
takes Set n = nat_lt 1 n
takes Get n = n == 1
takes Delete n = nat_lt 0 n
takes Size n = n == 0
takes Select n = n == 1
takes Config n = nat_lt 0 n
takes Client n = nat_lt 0 n
takes Multi n = n == 0
takes Exec n = n == 0
takes Discard n = n == 0
takes Describe n = true
takes Quit n = true
takes Web n = true
takes Unknown n = true

-- What a command does with the words behind its name. If it does not take so many, this does not say what is done: see `answer`.
abbrev pub does : HeldValues → List ℕ → Verb → List (List ℕ) → Done
does h name Ping [] = (Said.simple (codes "PONG"), true, h)
does h name Ping (text ∷ []) = (Said.bulk text, true, h)
does h name Echo (text ∷ []) = (Said.bulk text, true, h)
does h name Set (key ∷ value ∷ []) = set_done h key value
does h name Set (key ∷ value ∷ option ∷ options) = (Said.wrong (codes "ERR syntax error"), true, h)
does h name Get (key ∷ []) = (found (h.at key), true, h)
does h name Delete (key ∷ keys) = let done = delete_all h (key ∷ keys) in (Said.number (pos done.0), true, done.1)
does h name Size [] = (Said.number (pos h.size), true, h)
does h name Select (index ∷ []) = (selected index, true, h)
does h name Describe [] = (Said.array 0, true, h)
does h name Describe (topic ∷ words) = (described (map to_ascii_lowercase topic), true, h)
does h name Config (what ∷ words) = (configured (map to_ascii_lowercase what), true, h)
does h name Client (what ∷ words) = (introduced (map to_ascii_lowercase what), true, h)
does h name Multi [] = (Said.wrong (codes "ERR MULTI is not supported: nothing is performed up to EXEC or DISCARD"), true, refusing h true)
does h name Exec [] = (Said.wrong (codes "ERR EXEC without MULTI"), true, h)
does h name Discard [] = (Said.wrong (codes "ERR DISCARD without MULTI"), true, h)
does h name Quit words = (Said.simple (codes "OK"), false, h)
does h name Web words = (Said.silent, false, h)
does h name Unknown words = (Said.wrong (unknown_text name words), true, h)
does h name v words = (Said.silent, true, h)

-- What is done for a command with the words behind its name. If it does not take so many, it does nothing, and that is what is said.
abbrev pub answer : HeldValues → List ℕ → Verb → List (List ℕ) → Done
answer h name v words = if takes v (length words) then does h name v words else (wrong_count v, true, h)

-- What is done with a command in a transaction that is refused. Nothing is performed, up to `EXEC` or `DISCARD`.
abbrev pub refuse_in : HeldValues → Verb → Done
refuse_in h Exec = (Said.wrong (codes "EXECABORT Transaction discarded because of previous errors."), true, refusing h false)
refuse_in h Discard = (Said.simple (codes "OK"), true, refusing h false)
refuse_in h Quit = (Said.simple (codes "OK"), false, h)
refuse_in h Web = (Said.silent, false, h)
refuse_in h v = (Said.wrong (codes "ERR not performed, since MULTI was refused"), true, h)

-- What is done for a command, whether a transaction is refused or not.
abbrev pub answer_or_refuse : HeldValues → List ℕ → Verb → List (List ℕ) → Done
answer_or_refuse h name v words = if h.refuses then refuse_in h v else answer h name v words

-- What is done with the words of a request. Without words nothing is said.
abbrev pub perform : HeldValues → List (List ℕ) → Done
perform h [] = (Said.silent, true, h)
perform h (name ∷ words) = answer_or_refuse h name (verb (map to_ascii_lowercase name)) words

-- The bytes of each word.
abbrev pub texts : List (Vec ℕ Global) → List (List ℕ)
texts words = map (λ w. w.items) words

-- The outcome is what is done, or memory was refused and the same is held.
abbrev pub IsDone : HeldValues → Done → Result Outcome AllocError → HeldValues → Type 0
IsDone h done (Ok outcome) g = (said outcome.reply ≡ done.0) × (outcome.goes_on ≡ done.1) × (g ≡ done.2)
IsDone h done (Err e) g = g ≡ h

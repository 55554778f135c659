-- What the commands say can be encoded.
use Rattle.std.specs.Prelude.{◌≡◌, ◌≢◌, ◌≤◌, ◌||◌, ◌==◌, ℕ, zero, suc, Bool, true, false, List, []}
use Rattle.std.specs.Prelude.{◌∷◌, ◌++◌, Option, Some, None, codes, if◌then◌else◌, length, map, pos, take, ⊤}
use Rattle.std.specs.Char.{to_ascii_lowercase}
use Rattle.std.proofs.Common.{◌∙◌, arith, refl, subst, sym}
use Rattle.std.proofs.lemmas.Bool.{eq-eqb}
use Rattle.example_redis.specs.Commands.{Done, Said, answer, configured, described, does, found, introduced, one_line, perform, refuse_in, said, selected, set_done, shown_words, takes, unknown_text, verb, verb_name, wrong_count}
use Rattle.example_redis.specs.Replies.{HaveLines, IsEncodable, IsOneLine, count, greatest_depth}
use Rattle.std.specs.Str.{bytes_eq}
use Rattle.example_redis.specs.Store.{HeldValues, fits, put}
use Rattle.example_redis.specs.declared.reply.Reply.{Reply, Row_of-Reply, end_of-Reply, more_of-Reply}
use Rattle.example_redis.specs.declared.reply.Reply.TheVariants.{Simple, Error, Integer, Bulk, Null, Array'}
use Rattle.example_redis.specs.declared.verb.Verb.{Verb}
use Rattle.example_redis.specs.declared.verb.Verb.TheVariants.{Client, Config, Delete, Describe, Discard, Echo, Exec, Get, Multi, Ping, Quit, Select, Set, Size, Unknown, Web}

-- Whether a text has no carriage return and no line feed.
abbrev is_line : List ℕ → Bool
is_line [] = true
is_line (b ∷ text) = if b == 13 || b == 10 then false else is_line text

neither : (p q rest : Bool) → (if p || q then false else rest) ≡ true → (p ≡ false) × (q ≡ false) × (rest ≡ true)
neither true q rest e = absurd (cc e)
neither false true rest e = absurd (cc e)
neither false false rest e = (refl, refl, e)

differs : (b n : ℕ) → (b == n) ≡ false → b ≢ n
differs b n other e = absurd (cc (sym other ∙ eq-eqb b n e))

line_by_test : (text : List ℕ) → is_line text ≡ true → IsOneLine text
line_by_test [] e k d inside = absurd (omega (arith, inside))
line_by_test (b ∷ text) e zero d inside =
    let parts = neither (b == 13) (b == 10) (is_line text) e in
    (differs b 13 parts.0, differs b 10 parts.1)
line_by_test (b ∷ text) e (suc k) d inside =
    line_by_test text (neither (b == 13) (b == 10) (is_line text) e).2 k d (omega (arith, inside))

line_joined : (p q : Bool) (rest : Bool) → p ≡ false → q ≡ false → rest ≡ true → (if p || q then false else rest) ≡ true
line_joined true q rest p other e = absurd (cc p)
line_joined false true rest p other e = absurd (cc other)
line_joined false false rest p other e = e

line_append : (a b : List ℕ) → is_line a ≡ true → is_line b ≡ true → is_line (a ++ b) ≡ true
line_append [] b e h = h
line_append (x ∷ a) b e h =
    let parts = neither (x == 13) (x == 10) (is_line a) e in
    line_joined (x == 13) (x == 10) (is_line (a ++ b)) parts.0 parts.1 (line_append a b parts.2 h)

shown : (p q : Bool) (b : ℕ) → (b == 13) ≡ p → (b == 10) ≡ q
    → (((if p || q then 32 else b) == 13) ≡ false) × (((if p || q then 32 else b) == 10) ≡ false)
shown true q b e h = (refl, refl)
shown false true b e h = (refl, refl)
shown false false b e h = (e, h)

one_line_is : (text : List ℕ) → is_line (one_line text) ≡ true
one_line_is [] = refl
one_line_is (b ∷ text) =
    let clean = shown (b == 13) (b == 10) b refl refl in
    line_joined _ _ (is_line (one_line text)) clean.0 clean.1 (one_line_is text)

-- What is said is lines where it has to be, and no array but an empty one.
abbrev IsPlainText : Said → Type 0
IsPlainText (Said.simple text) = IsOneLine text
IsPlainText (Said.wrong text) = IsOneLine text
IsPlainText (Said.array n) = n ≡ 0
IsPlainText _ = ⊤

plain_found : (o : Option (List ℕ)) → IsPlainText (found o)
plain_found None = tt
plain_found (Some value) = tt

name_is_line : (v : Verb) → is_line (verb_name v) ≡ true
name_is_line Ping = refl
name_is_line Echo = refl
name_is_line Set = refl
name_is_line Get = refl
name_is_line Delete = refl
name_is_line Size = refl
name_is_line Select = refl
name_is_line Describe = refl
name_is_line Config = refl
name_is_line Client = refl
name_is_line Multi = refl
name_is_line Exec = refl
name_is_line Discard = refl
name_is_line Web = refl
name_is_line Quit = refl
name_is_line Unknown = refl

-- A text between two others.
between : (a text b : List ℕ) → is_line a ≡ true → is_line text ≡ true → is_line b ≡ true → IsOneLine (a ++ text ++ b)
between a text b before here behind = line_by_test (a ++ text ++ b) (line_append (a ++ text) b (line_append a text before here) behind)

plain_wrong : (v : Verb) → IsPlainText (wrong_count v)
plain_wrong v = between (codes "ERR wrong number of arguments for '") (verb_name v) (codes "' command") refl (name_is_line v) refl

plain_unknown : (name : List ℕ) (words : List (List ℕ)) → IsPlainText (Said.wrong (unknown_text name words))
plain_unknown name words = line_by_test (unknown_text name words)
    (one_line_is (codes "ERR unknown command '" ++ take 128 name ++ codes "', with args beginning with: " ++ shown_words [] words))

plain_if : (b : Bool) (one other : Done) → IsPlainText one.0 → IsPlainText other.0 → IsPlainText (if b then one else other).0
plain_if true one other a d = a
plain_if false one other a d = d

plain_either : (b : Bool) (one other : Said) → IsPlainText one → IsPlainText other → IsPlainText (if b then one else other)
plain_either true one other a d = a
plain_either false one other a d = d

plain_set : (h : HeldValues) (key value : List ℕ) → IsPlainText (set_done h key value).0
plain_set h key value =
    plain_if (fits (put h key value)) _ _ (line_by_test (codes "OK") refl)
    (line_by_test (codes "OOM command not allowed when used memory > 'maxmemory'.") refl)

plain_selected : (index : List ℕ) → IsPlainText (selected index)
plain_selected index =
    plain_either (bytes_eq index (codes "0")) _ _ (line_by_test (codes "OK") refl)
    (line_by_test (codes "ERR DB index is out of range") refl)

plain_described : (topic : List ℕ) → IsPlainText (described topic)
plain_described topic = plain_either (bytes_eq topic (codes "count")) (Said.number (pos 14)) (Said.array 0) tt refl

plain_configured : (what : List ℕ) → IsPlainText (configured what)
plain_configured what =
    plain_either (bytes_eq what (codes "get")) (Said.array 0) _ refl (line_by_test (codes "ERR only CONFIG GET is supported") refl)

plain_introduced : (what : List ℕ) → IsPlainText (introduced what)
plain_introduced what =
    plain_either (bytes_eq what (codes "setname") || bytes_eq what (codes "setinfo")) _ _ (line_by_test (codes "OK") refl)
    (line_by_test (codes "ERR only CLIENT SETNAME and CLIENT SETINFO are supported") refl)

plain_does : (h : HeldValues) (name : List ℕ) (v : Verb) (ws : List (List ℕ)) → IsPlainText (does h name v ws).0
plain_does h name Ping [] = line_by_test (codes "PONG") refl
plain_does h name Ping (a ∷ []) = tt
plain_does h name Ping (a ∷ b ∷ ws) = tt
plain_does h name Echo [] = tt
plain_does h name Echo (a ∷ []) = tt
plain_does h name Echo (a ∷ b ∷ ws) = tt
plain_does h name Set [] = tt
plain_does h name Set (a ∷ []) = tt
plain_does h name Set (a ∷ b ∷ []) = plain_set h a b
plain_does h name Set (a ∷ b ∷ d ∷ ws) = line_by_test (codes "ERR syntax error") refl
plain_does h name Get [] = tt
plain_does h name Get (a ∷ []) = plain_found (h.at a)
plain_does h name Get (a ∷ b ∷ ws) = tt
plain_does h name Delete [] = tt
plain_does h name Delete (a ∷ ws) = tt
plain_does h name Size [] = tt
plain_does h name Size (a ∷ ws) = tt
plain_does h name Select [] = tt
plain_does h name Select (a ∷ []) = plain_selected a
plain_does h name Select (a ∷ b ∷ ws) = tt
plain_does h name Describe [] = refl
plain_does h name Describe (a ∷ ws) = plain_described (map to_ascii_lowercase a)
plain_does h name Config [] = tt
plain_does h name Config (a ∷ ws) = plain_configured (map to_ascii_lowercase a)
plain_does h name Client [] = tt
plain_does h name Client (a ∷ ws) = plain_introduced (map to_ascii_lowercase a)
plain_does h name Multi [] = line_by_test (codes "ERR MULTI is not supported: nothing is performed up to EXEC or DISCARD") refl
plain_does h name Multi (a ∷ ws) = tt
plain_does h name Exec [] = line_by_test (codes "ERR EXEC without MULTI") refl
plain_does h name Exec (a ∷ ws) = tt
plain_does h name Discard [] = line_by_test (codes "ERR DISCARD without MULTI") refl
plain_does h name Discard (a ∷ ws) = tt
plain_does h name Quit ws = line_by_test (codes "OK") refl
plain_does h name Web ws = tt
plain_does h name Unknown ws = plain_unknown name ws

plain_answer : (h : HeldValues) (name : List ℕ) (v : Verb) (ws : List (List ℕ)) → IsPlainText (answer h name v ws).0
plain_answer h name v ws = plain_if (takes v (length ws)) _ _ (plain_does h name v ws) (plain_wrong v)

plain_not_performed : IsPlainText (Said.wrong (codes "ERR not performed, since MULTI was refused"))
plain_not_performed = line_by_test (codes "ERR not performed, since MULTI was refused") refl

plain_refused : (h : HeldValues) (v : Verb) → IsPlainText (refuse_in h v).0
plain_refused h Exec = line_by_test (codes "EXECABORT Transaction discarded because of previous errors.") refl
plain_refused h Discard = line_by_test (codes "OK") refl
plain_refused h Quit = line_by_test (codes "OK") refl
plain_refused h Web = tt
plain_refused h Ping = plain_not_performed
plain_refused h Echo = plain_not_performed
plain_refused h Set = plain_not_performed
plain_refused h Get = plain_not_performed
plain_refused h Delete = plain_not_performed
plain_refused h Size = plain_not_performed
plain_refused h Select = plain_not_performed
plain_refused h Describe = plain_not_performed
plain_refused h Config = plain_not_performed
plain_refused h Client = plain_not_performed
plain_refused h Multi = plain_not_performed
plain_refused h Unknown = plain_not_performed

plain_done : (h : HeldValues) (words : List (List ℕ)) → IsPlainText (perform h words).0
plain_done h [] = tt
plain_done h (name ∷ words) =
    let v = verb (map to_ascii_lowercase name) in
    plain_if h.refuses _ _ (plain_refused h v) (plain_answer h name v words)

no_replies : {m : _} (all : Row_of-Reply m) → count all ≡ 0 → (greatest_depth all ≤ 0) × HaveLines all
no_replies end_of-Reply none = (omega arith, tt)
no_replies (more_of-Reply reply rest) none = absurd (omega (arith, none))

plain_encodable : (reply : Reply) → IsPlainText (said (Some reply)) → IsEncodable 1 reply
plain_encodable (Simple text) line = (omega arith, line)
plain_encodable (Error text) line = (omega arith, line)
plain_encodable (Integer n) line = (omega arith, tt)
plain_encodable (Bulk bytes) line = (omega arith, tt)
plain_encodable Null line = (omega arith, tt)
plain_encodable (Array' shape all) none =
    let empty = no_replies all none in
    (omega (arith, empty.0), empty.1)

-- An encoder that allows an array refuses no reply of the commands.
pub replies_encodable : (h : HeldValues) (words : List (List ℕ)) (reply : Reply) → said (Some reply) ≡ (perform h words).0 → IsEncodable 1 reply
replies_encodable h words reply is = plain_encodable reply (subst IsPlainText (sym is) (plain_done h words))

-- The bytes of an array are those of its replies.
use mathlib.Core.Former.{Count}
use Rattle.std.specs.Prelude.{◌≡◌, ◌≤◌, ◌<◌, ◌-◌, ℕ, zero, suc, MatchResult, Result, Ok, Err, List, ◌++◌, codes, decimal, length, take}
use Rattle.std.specs.List.{AllByRecursion, flat_map}
use Rattle.std.specs.Result.{IsErrAnd}
use Rattle.std.specs.declared.alloc.Global.{Global}
use Rattle.std.specs.declared.vec.Vec.{Vec}
use Rattle.std.proofs.Common.{◌∙◌, ap, append_assoc, arith, get_or, refl, subst, sym}
use Rattle.std.proofs.lemmas.List.{take_all}
use Rattle.example_redis.specs.Replies.{HasLines, HaveLines, IsEncodable, IsRefused, all_bytes, count, greatest_depth, line_bytes, reply_bytes, reply_depth}
use Rattle.example_redis.specs.declared.error.ReplyError.{ReplyError}
use Rattle.example_redis.specs.declared.error.ReplyError.TheVariants.{Io, LineBreak, Memory, Nested}
use Rattle.example_redis.specs.declared.reply.Reply.{Reply, Row_of-Reply, end_of-Reply, more_of-Reply, items-the_row-Reply, items_hidden-the_row-Reply-0}
use Rattle.example_redis.specs.declared.reply.Reply.TheVariants.{Array, Array'}

row_bytes : (n : _) (row : Row_of-Reply n) → all_bytes row ≡ flat_map reply_bytes (items-the_row-Reply n row)
row_bytes n end_of-Reply = refl
row_bytes n (more_of-Reply reply rest) = ap (λ l. reply_bytes reply ++ l) (row_bytes _ rest)

row_count : (n : _) (row : Row_of-Reply n) → count row ≡ length (items-the_row-Reply n row)
row_count n end_of-Reply = refl
row_count n (more_of-Reply reply rest) = ap suc (row_count _ rest)

-- The shape and the replies of an array.
abbrev pub row_of : Reply → (n : Count) × Row_of-Reply n
row_of (Array' _ row) = (_, row)
row_of _ = (_, end_of-Reply)

pub array_bytes : (items : Vec Reply Global)
    → reply_bytes (Array items) ≡ line_bytes (codes "*") (decimal (length items.items)) ++ flat_map reply_bytes items.items
array_bytes items =
    let row = row_of (Array items) in
    let same = items_hidden-the_row-Reply-0 items in
    ap (λ n. line_bytes (codes "*") (decimal n) ++ all_bytes row.1) (row_count row.0 row.1 ∙ ap length same)
    ∙ ap (λ l. line_bytes (codes "*") (decimal (length items.items)) ++ l) (row_bytes row.0 row.1 ∙ ap (flat_map reply_bytes) same)

pub array_count : (items : Vec Reply Global) → count (row_of (Array items)).1 ≡ length items.items
array_count items = let row = row_of (Array items) in row_count row.0 row.1 ∙ ap length (items_hidden-the_row-Reply-0 items)

-- The first line of an array, and then its replies.
pub array_written : (items : Vec Reply Global) (shown : List Reply) (i n : ℕ) (front before after text : List ℕ) → shown ≡ items.items
    → length shown ≤ i → n ≡ length items.items → text ≡ decimal n → before ≡ front ++ line_bytes (codes "*") text
    → after ≡ before ++ flat_map reply_bytes (take i shown) → after ≡ front ++ reply_bytes (Array items)
array_written items shown i n front before after text same past long is line written =
    let all : take i shown ≡ items.items = take_all i shown past ∙ same in
    let header : line_bytes (codes "*") text ≡ line_bytes (codes "*") (decimal (length items.items)) =
    ap (line_bytes (codes "*")) (is ∙ ap decimal long) in
    written ∙ ap (λ l. before ++ flat_map reply_bytes l) all ∙ ap (λ l. l ++ flat_map reply_bytes items.items) (line ∙ ap (λ l. front ++ l) header)
    ∙ append_assoc front (line_bytes (codes "*") (decimal (length items.items))) (flat_map reply_bytes items.items)
    ∙ ap (λ l. front ++ l) (sym (array_bytes items))

row_encodable : (depth : ℕ) (n : _) (row : Row_of-Reply n) → AllByRecursion (IsEncodable depth) (items-the_row-Reply n row)
    → (greatest_depth row ≤ depth) × HaveLines row
row_encodable depth n end_of-Reply all = (omega arith, tt)
row_encodable depth n (more_of-Reply reply rest) all =
    let others = row_encodable depth _ rest all.1 in
    (omega (arith, all.0.0, others.0), (all.0.1, others.1))

-- An array of replies that can be encoded can be.
pub array_encodable : (items : Vec Reply Global) (depth : ℕ) → 0 < depth → AllByRecursion (IsEncodable (depth - 1)) items.items
    → IsEncodable depth (Array items)
array_encodable items depth some all =
    let row = row_of (Array items) in
    let same = items_hidden-the_row-Reply-0 items in
    let both = row_encodable (depth - 1) row.0 row.1 (subst (AllByRecursion (IsEncodable (depth - 1))) (sym same) all) in
    let deep : suc (greatest_depth row.1) ≤ depth = omega (arith, both.0, some) in
    (deep, both.1)

row_at : (n : _) (row : Row_of-Reply n) (k : ℕ) (d : Reply) → k < length (items-the_row-Reply n row)
    → (reply_depth (get_or (items-the_row-Reply n row) k d) ≤ greatest_depth row) × (HaveLines row → HasLines (get_or (items-the_row-Reply n row) k d))
row_at n end_of-Reply k d inside = absurd (omega (arith, inside))
row_at n (more_of-Reply reply rest) zero d inside = (omega arith, λ lines. lines.0)
row_at n (more_of-Reply reply rest) (suc k) d inside =
    let inner = row_at _ rest k d (omega (arith, inside)) in
    (omega (arith, inner.0), λ lines. inner.1 lines.1)

-- An array is refused for a reply in it.
pub array_refused : (items : Vec Reply Global) (depth k : ℕ) (reply : Reply) (e : ReplyError) → 0 < depth → k < length items.items
    → reply ≡ get_or items.items k reply → IsRefused (depth - 1) reply e → IsRefused depth (Array items) e
array_refused items depth k reply e some inside is h =
    let row = row_of (Array items) in
    let same = items_hidden-the_row-Reply-0 items in
    let list = items-the_row-Reply row.0 row.1 in
    let there : get_or list k reply ≡ reply = ap (λ l. get_or l k reply) same ∙ sym is in
    let found = row_at row.0 row.1 k reply (omega (arith, inside, ap length same)) in
    let deep : reply_depth reply ≤ greatest_depth row.1 = omega (arith, found.0, ap reply_depth there) in
    by e h deep (λ lines. subst HasLines there (found.1 lines))
  where
    by : (e : ReplyError) → IsRefused (depth - 1) reply e → reply_depth reply ≤ greatest_depth (row_of (Array items)).1
        → (HasLines (Array items) → HasLines reply) → IsRefused depth (Array items) e
    by Nested h deep lines =
        let all : depth < suc (greatest_depth (row_of (Array items)).1) = omega (arith, h, deep, some) in all
    by LineBreak h deep lines = λ whole. h (lines whole)
    by Memory h deep lines = tt
    by (Io e) h deep lines = h

-- The same where the error is handed on.
pub array_refused_as : (items : Vec Reply Global) (depth k : ℕ) (reply : Reply) (e : ReplyError) (r : Result (Unit {0}) ReplyError) (item : Reply)
    → 0 < depth → k < length items.items → reply ≡ get_or items.items k reply → IsRefused (depth - 1) reply e → item ≡ Array items
    → IsErrAnd r (λ x. x ≡ e) → MatchResult r (λ u. IsEncodable depth item) (IsRefused depth item)
array_refused_as items depth k reply e (Ok u) item some inside is h array same = absurd same
array_refused_as items depth k reply e (Err x) item some inside is h array same =
    subst (λ (i : Reply). IsRefused depth i x) (sym array)
    (subst (IsRefused depth (Array items)) (sym same) (array_refused items depth k reply e some inside is h))

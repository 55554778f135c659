-- Words that are read one by one.
use Rattle.std.proofs.Common.{◌≡◌, ◌≢◌, ◌∙◌, ◌||◌, Bool, true, false, List, [], ◌∷◌, ◌++◌, append_assoc, not, refl, sym}
use Rattle.std.proofs.lemmas.Slice.Eq.{bytes_eq-Decides}
use Rattle.std.specs.Prelude.{String, codes, string_bytes}
use Rattle.std.specs.declared.alloc.Global.{Global}
use Rattle.std.specs.List.{filter, list_any}
use Rattle.programs.specs.Starting.{AreOthers, is_help, is_quiet}
use Rattle.programs.specs.declared.command.Command.{Command}

-- Some words were read, and `more` are left. No word so far is `--help`.
pub record SoFar (all : List (String Global)) (command : Command) (more : List (String Global)) : Type 0 where
  pub no_help : list_any is_help all ≡ list_any is_help more
  pub kept : filter (λ word. not (is_quiet word)) all ≡ command.words.items ++ filter (λ word. not (is_quiet word)) more
  pub quiet : list_any is_quiet all ≡ command.quiet || list_any is_quiet more
  pub others : AreOthers command.words.items

not_so : (b : Bool) → (b ≡ true → ⊥) → b ≡ false
not_so true h = absurd (h refl)
not_so false h = refl

others_more : (words : List (String Global)) (word : String Global) → AreOthers words → string_bytes word ≢ codes "--quiet"
    → string_bytes word ≢ codes "--help" → AreOthers (words ++ word ∷ [])
others_more [] word h quiet help = ((quiet, help), tt)
others_more (one ∷ words) word h quiet help = (h.0, others_more words word h.1 quiet help)

-- One more word is kept.
pub one_more : (all : List (String Global)) (before after : Command) (word : String Global) (more : List (String Global))
    → SoFar all before (word ∷ more) → string_bytes word ≢ codes "--quiet" → string_bytes word ≢ codes "--help"
    → after.words.items ≡ before.words.items ++ word ∷ [] → after.quiet ≡ before.quiet → SoFar all after more
one_more all before after word more so_far not_quiet not_help items same =
    let quiet : is_quiet word ≡ false = not_so (is_quiet word) (λ e. not_quiet ((bytes_eq-Decides (string_bytes word) (codes "--quiet")).0 e)) in
    let help : is_help word ≡ false = not_so (is_help word) (λ e. not_help ((bytes_eq-Decides (string_bytes word) (codes "--help")).0 e)) in
    record {
      no_help = so_far.no_help ∙ rw help refl;
      kept = so_far.kept ∙ rw (quiet, items) (sym (append_assoc before.words.items (word ∷ []) (filter (λ w. not (is_quiet w)) more)));
      quiet = so_far.quiet ∙ rw (quiet, same) refl;
      others = rw items (others_more before.words.items word so_far.others not_quiet not_help);
    }

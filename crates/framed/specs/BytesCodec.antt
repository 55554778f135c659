-- Pieces of bytes are given as they are.
use Rattle.std.specs.Prelude.{◌≡◌, ◌<◌, ℕ, List, [], ◌∷◌, ◌++◌, length}
use Rattle.std.proofs.Common.{append-nil, arith, refl, sym}
use Rattle.tokio_util.specs.Codec.Chunks.{gives_chunks}
use Rattle.framed.specs.Prompt.{PromptLaws}

no_piece : (xs ys : List ℕ) → 0 < length xs → [] ≡ xs ++ ys → ⊥
no_piece [] ys some e = omega (arith, some)
no_piece (x ∷ xs) ys some e = cc e

pub chunks_prompt : {D : Type 0} → PromptLaws (gives_chunks {D = D}) (λ _. 0)
chunks_prompt =
    record {
      alone = λ s xs x t ys h. (x.items, h.1, (h.0, sym (append-nil x.items)));
      owed = λ s x t h. absurd (no_piece x.items [] h.0 h.1);
      waits = λ s xs h. refl;
      last = λ s xs x t ys h. let e = h.1 in cc e;
    }

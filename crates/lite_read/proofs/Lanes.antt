-- From the mask of one load to how many of its bytes pass a test.
use Rattle.std.specs.Prelude.{◌≡◌, ℕ, ◌+◌, ◌^◌, ◌≤◌, Bool, true, List, length}
use Rattle.std.proofs.Common.{◌%◌, map}
use Rattle.lite_read.specs.Uses.{false, not, cond, leb, refl, sym, ap, ◌∙◌, arith, inl, inr, le-leb, lt-leb, lt-ltb, length-chunk, is_ascii}
use Rattle.lite_read.specs.Uses.{prefix_len}
use Rattle.std.proofs.lemmas.Bool.{cases_lt, le-ltb}
use Rattle.std.proofs.lemmas.List.{length-map}
use Rattle.std.proofs.lemmas.Simd.{first_set_mask_l, leading_from_mask_l, map-map, mask_l-mod}
use lib.Lanes.{chunk, mask_l, top}
use Rattle.lite_read.specs.Scan.{first_set}

-- a lane that holds all ones where the test fails
flag : (b : Bool) → not (top 7 (cond b 255 0)) ≡ not b
flag true = refl
flag false = refl

-- the lanes z were computed from n bytes of d, each all ones where `fails` says so
module _ (fails : ℕ → Bool) (d : List ℕ) (at n : ℕ) (z : List ℕ) (few : n ≤ 64) (room : at + n ≤ length d)
    (lanes : z ≡ map (λ x. cond (fails x) 255 0) (chunk at n d)) where
  abbrev v : List ℕ
  v = chunk at n d

  abbrev stops : ℕ → Bool
  stops x = top 7 (cond (fails x) 255 0)

  long : length v ≡ n
  long = length-chunk at n d room

  mask : mask_l (map (top 7) z) % 2 ^ 64 ≡ mask_l (map stops v)
  mask = ap (λ l. mask_l l % 2 ^ 64) (ap (map _) lanes ∙ map-map _ (λ x. cond _ 255 0) v)
      ∙ mask_l-mod _ 64 (omega (arith, length-map v stops, long, few))

  passing : prefix_len (λ x. not (stops x)) v ≡ prefix_len (λ x. not (fails x)) v
  passing = ap (λ p. prefix_len p v) (λ i. λ x. flag (fails x) i)

  pub run_of : n ≡ 32 → first_set (mask_l (map (top 7) z) % 2 ^ 64) ≡ prefix_len (λ x. not (fails x)) v
  run_of is = ap first_set mask ∙ first_set_mask_l stops v 32 (long ∙ is) (omega arith) ∙ passing

  pub none_of : mask_l (map (top 7) z) % 2 ^ 64 ≡ 0 → prefix_len (λ x. not (fails x)) v ≡ n
  none_of none = sym passing ∙ leading_from_mask_l stops v (sym mask ∙ none) ∙ long

pub below_128 : (b : ℕ) → not (leb 128 b) ≡ is_ascii b
below_128 b =
    elim (cases_lt b 128) [
      | inl below ↦ ap not (lt-leb 128 b below) ∙ sym (lt-ltb b 128 below)
      | inr above ↦ ap not (le-leb 128 b (omega (arith, above))) ∙ sym (le-ltb b 128 (omega (arith, above)))
    ]

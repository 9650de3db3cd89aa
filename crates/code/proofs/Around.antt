-- What encoding does, from its contract alone: where nothing is refused the element is in the part that is lent, and the bytes around
-- the part stay.
use Prim.Native.Nat.{ℕ, ◌+◌, ◌≤◌}
use mathlib.Core.Path.{◌≡◌, sym, ap, subst, ◌∙◌}
use mathlib.Core.Bool.{Bool, cond}
use mathlib.Core.List.{List, ◌++◌}
use native.Mathlib.Omega.{arith}
use native.Mathlib.Decide.{ℕ_discrete}
use borrow.Author.Tests.{eq-eqb, ne_eqb}
use lib.ListN.{length, get_or, take, drop}
use Rattle.laws.specs.Parts.{over}
use Rattle.laws.proofs.Parts.{over_back, over_byte, over_byte_after, over_byte_before, over_length, over_same, taken_length}
use Rattle.config.specs.declared.Config.{Config}
use Rattle.config.specs.Refusal.{Verdict}
use Rattle.config.specs.Config.{Valid, board_length}
use Rattle.config.specs.Questions.{first_no}
use Rattle.config.specs.Refusal.{verdict_number}
use Rattle.config.proofs.Valid.{valid_asked}
use Rattle.code.specs.Around.{AroundPost}
use Rattle.code.specs.Element.{element}
use Rattle.code.specs.Encode.{EncodePost, encode_questions}
use Rattle.code.proofs.Decoding.{element-at, length_element}
use Rattle.code.proofs.Encodable.{accepted, encodable}

-- ---- the part

module _ (cfg : Config) (board : List ℕ) (s : ℕ) (before after : List ℕ) (r : Verdict) (post : EncodePost cfg board s before after r) where
  abbrev answer : ℕ
  answer = first_no (encode_questions cfg (length board) s (length before))

  part_encoded : answer ≡ 0 → after ≡ element cfg board s
  part_encoded none = post.part ∙ ap (λ (c : Bool). cond c (element cfg board s) before) (eq-eqb answer 0 none)

  part_kept : (answer ≡ 0 → ⊥) → after ≡ before
  part_kept some = post.part ∙ ap (λ (c : Bool). cond c (element cfg board s) before) (ne_eqb answer 0 some)

  part_long : length after ≡ length before
  part_long = elim (ℕ_discrete answer 0) as (λ _. length after ≡ length before) [
    | yes none ↦
        ap length (part_encoded none) ∙ length_element cfg board s
        ∙ sym (encodable cfg (length board) s (length before) none).part_length
    | no some ↦ ap length (part_kept some)
  ]

  -- it holds the element, where what the questions ask is so
  pub encodes : Valid cfg → length board ≡ board_length cfg → length before ≡ cfg.e → 1 ≤ s → s ≤ cfg.n → after ≡ element cfg board s
  encodes valid lb lp low high = part_encoded (sym (accepted cfg (length board) s (length before) (valid_asked cfg valid) lb lp low high))

-- ---- the caller's buffer

-- the n bytes from `start` on are lent, and come back as `part`
module _ (cfg : Config) (board : List ℕ) (s start n : ℕ) (before part : List ℕ) (r : Verdict) (room : start + n ≤ length before)
    (post : EncodePost cfg board s (take n (drop start before)) part r) where
  abbrev back : List ℕ
  back = take start before ++ (part ++ drop n (drop start before))

  is_over : back ≡ over start n part before
  is_over = over_back start n part before

  lent_long : length (take n (drop start before)) ≡ n
  lent_long = taken_length before start n room

  left_long : length part ≡ n
  left_long = part_long cfg board s (take n (drop start before)) part r post ∙ lent_long

  number : verdict_number r ≡ first_no (encode_questions cfg (length board) s n)
  number = post.number ∙ ap (λ (m : ℕ). first_no (encode_questions cfg (length board) s m)) lent_long

  -- by equation, where what the questions ask is so
  pub encodes_over : Valid cfg → length board ≡ board_length cfg → n ≡ cfg.e → 1 ≤ s → s ≤ cfg.n
      → back ≡ over start n (element cfg board s) before
  encodes_over valid lb lp low high =
      is_over
      ∙ ap (λ (l : List ℕ). over start n l before)
      (encodes cfg board s (take n (drop start before)) part r post valid lb (lent_long ∙ lp) low high)

  around_over : AroundPost cfg board s start n before (over start n part before) r
  around_over =
      record {
        number = number;
        size = over_length start n part before left_long room;
        element =
            λ none j h.
            let yes = encodable cfg (length board) s n (sym number ∙ none) in
            over_byte start n part before left_long room j (omega (arith, yes.part_length))
            ∙ ap (λ (l : List ℕ). get_or l j 0)
            (part_encoded cfg board s (take n (drop start before)) part r post (sym post.number ∙ none))
            ∙ element-at cfg board s j h;
        below = over_byte_before start n part before left_long room;
        above = over_byte_after start n part before left_long room;
        refused =
            λ some.
            ap (λ (l : List ℕ). over start n l before)
            (part_kept cfg board s (take n (drop start before)) part r post (λ none. some (post.number ∙ none)))
            ∙ over_same start n before;
      }

  -- byte by byte, refused or not
  pub around : AroundPost cfg board s start n before back r
  around = subst (λ (l : List ℕ). AroundPost cfg board s start n before l r) (sym is_over) around_over

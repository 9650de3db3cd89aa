-- What decoding does, from its contract alone: whatever call of `decode` refuses nothing.
use Prim.Native.Nat.{ℕ, ◌*◌, ◌<◌}
use mathlib.Core.Path.{◌≡◌, sym, ap, ◌∙◌}
use mathlib.Core.List.{List}
use native.Mathlib.Omega.{arith}
use native.Mathlib.Nat.{mul-le-mul_right}
use borrow.Author.Tests.{eq-eqb}
use lib.ListN.{length, get_or, drop}
use lib.Seq.{get_or-drop, get_or-take}
use Rattle.config.specs.declared.Config.{Config}
use Rattle.config.specs.Refusal.{Verdict}
use Rattle.config.specs.Config.{board_length}
use Rattle.config.specs.Questions.{first_no}
use Rattle.config.specs.Refusal.{verdict_number}
use Rattle.laws.specs.Bytes.{Bytes}
use Rattle.laws.specs.Parts.{part}
use Rattle.code.specs.Decode.{DecodePost, decode_questions}
use Rattle.code.specs.Decoded.{decoded}
use Rattle.code.specs.Element.{element}
use Rattle.code.specs.inner.Calls.{DecodePre}
use Rattle.code.proofs.Decodable.{decodable}
use Rattle.code.proofs.Decoding.{bytes_decoded, decode_elements, element-at, encode_decoded, length_decoded}

-- the call, that it refused nothing, and that its elements are bytes
module _ (cfg : Config) (servers elements before after : List ℕ) (r : Verdict) (post : DecodePost cfg servers elements before after r)
    (accepted : verdict_number r ≡ 0) (b : Bytes elements) where
  none : first_no (decode_questions cfg servers (length elements) (length before)) ≡ 0
  none = sym post.number ∙ accepted

  asked : DecodePre cfg servers (length elements) (length before)
  asked = decodable cfg servers (length elements) (length before) none

  left : after ≡ decoded cfg servers elements
  left = post.buffer ∙ rw (eq-eqb (first_no (decode_questions cfg servers (length elements) (length before))) 0 none)

  -- it leaves a board
  pub decodes_board : (length after ≡ board_length cfg) × Bytes after
  decodes_board =
      rw left (length_decoded cfg servers elements, bytes_decoded cfg asked.valid servers asked.rises asked.enough elements b)

  -- "Decoding reverses the square of powers for the k servers used.": the first k elements are those of that board
  pub decode_reverses : (i : ℕ) → i < cfg.k → part cfg.e i elements ≡ element cfg after (get_or servers i 0)
  decode_reverses i h =
      sym
      (ap (λ board. element cfg board (get_or servers i 0)) left
      ∙ encode_decoded cfg asked.valid servers asked.rises asked.enough elements b
      (omega (arith, asked.elements-length, mul-le-mul_right cfg.e asked.enough)) i h)

  -- and of no other
  pub decode_only : (board : List ℕ) → length board ≡ board_length cfg → Bytes board
      → ((i : ℕ) → i < cfg.k → part cfg.e i elements ≡ element cfg board (get_or servers i 0)) → after ≡ board
  decode_only board long bytes same =
      left
      ∙ decode_elements cfg asked.valid servers asked.rises asked.enough board elements long bytes
      (λ i j h l. sym (get_or-take cfg.e (drop (i * cfg.e) elements) j 0 l ∙ get_or-drop (i * cfg.e) elements j 0)
      ∙ ap (λ (e : List ℕ). get_or e j 0) (same i h)
      ∙ element-at cfg board (get_or servers i 0) j l)

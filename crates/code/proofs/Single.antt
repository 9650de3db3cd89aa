-- Where k is 1, an element is the board.
use Prim.Native.Nat.{ℕ, ◌+◌, ◌*◌, ◌-◌, ◌≤◌}
use mathlib.Core.Path.{◌≡◌, sym, ap, ◌∙◌}
use mathlib.Core.Bool.{true}
use mathlib.Core.List.{List, ◌++◌}
use native.Mathlib.Omega.{arith}
use native.Mathlib.Nat.{mul-le-mul_right, zero-mul}
use lib.Bits.{xor_zero_l}
use lib.ListN.{length, get_or, take, drop, length-take}
use lib.Seq.{ext_get_or, length-take-le}
use Rattle.config.specs.declared.Config.{Config}
use Rattle.config.specs.Config.{board_length, Valid}
use Rattle.field.specs.Field.{times, power}
use Rattle.field.proofs.Laws.{times_one}
use Rattle.laws.specs.Bytes.{Bytes}
use Rattle.laws.proofs.Parts.{copied}
use Rattle.code.specs.Polynomial.{sum}
use Rattle.code.specs.Element.{byte_field, element, element_byte}
use Rattle.code.specs.inner.Calls.{DecodePre}
use Rattle.code.specs.Decoded.{decoded, rising}
use Rattle.code.proofs.Decoding.{length_element, element-at, length_decoded, bytes_decoded, encode_decoded}

one_term : (f : ℕ → ℕ) (k : ℕ) → k ≡ 1 → sum byte_field k f ≡ f 0
unfolding sum
one_term f k e = ap (λ n. sum byte_field n f) e ∙ xor_zero_l (f 0)

pub element_one : (cfg : Config) (board : List ℕ) (s : ℕ) → cfg.k ≡ 1 → length board ≡ cfg.e → Bytes board → element cfg board s ≡ board
unfolding element_byte power
element_one cfg board s one lb b =
    ext_get_or 0 (element cfg board s) board (length_element cfg board s ∙ sym lb)
    (λ j h. element-at cfg board s j (rw length_element at h)
    ∙ one_term (λ i. times (get_or board (i * cfg.e + j) 0) (power s i)) cfg.k one
    ∙ ap (λ n. times (get_or board n 0) 1) (omega arith)
    ∙ times_one (get_or board j 0) (b j))

module _ (cfg : Config) (servers elements buffer : List ℕ) (d : DecodePre cfg servers (length elements) (length buffer)) (one : cfg.k ≡ 1) where
  size : board_length cfg ≡ cfg.e
  size = ap (λ n. n * cfg.e) one ∙ omega arith

  pub enough : cfg.e ≤ length elements
  enough = omega (arith, size, d.elements-length, mul-le-mul_right cfg.e d.enough)

  pub buffer_size : length buffer ≡ cfg.e
  buffer_size = d.buffer_length ∙ size

  pub part_small : length (take (cfg.e - 0) (drop 0 elements)) ≤ length buffer
  part_small = omega (arith, length-take (cfg.e - 0) elements, buffer_size)

  pub single : Bytes elements → (m : ℕ) → m ≡ length (take (cfg.e - 0) (drop 0 elements))
      → take m (take (cfg.e - 0) (drop 0 elements)) ++ drop m buffer ≡ decoded cfg servers elements
  single b m lm =
      let whole : cfg.e - 0 ≡ cfg.e = omega arith in
      let length_part : length (take (cfg.e - 0) elements) ≡ cfg.e =
      ap (λ n. length (take n elements)) whole ∙ length-take-le cfg.e elements enough in
      copied (take (cfg.e - 0) elements) buffer m lm (buffer_size ∙ sym length_part)
      ∙ ap (λ n. take n elements) whole
      ∙ sym
      (sym (element_one cfg board (get_or servers 0 0) one (length_decoded cfg servers elements ∙ size) (bytes_decoded cfg v servers up many elements b))
      ∙ encode_decoded cfg v servers up many elements b (omega (arith, size, enough)) 0 (omega arith)
      ∙ ap (λ n. take cfg.e (drop n elements)) (zero-mul cfg.e))
    where
      board : List ℕ
      board = decoded cfg servers elements

      v : Valid cfg
      v = d.valid

      up : rising cfg.n servers ≡ true
      up = d.rises

      many : cfg.k ≤ length servers
      many = d.enough

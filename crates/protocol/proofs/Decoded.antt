-- What elements give back is a board: V bytes, "zeros after" its length.
use Prim.Native.Nat.{ℕ, zero, suc, ◌≤◌}
use mathlib.Core.Path.{◌≡◌, refl, ap, ◌∙◌}
use mathlib.Core.List.{List, [], ◌∷◌, ◌++◌, map, Memᴰ}
use native.Mathlib.Omega.{arith}
use lib.ListN.{length, get_or, length-map}
use Rattle.config.specs.declared.Config.{Config}
use Rattle.config.specs.Config.{Valid, board_length}
use Rattle.laws.specs.Bytes.{Bytes, joined}
use Rattle.code.specs.Decoded.{decoded_pairs, rising}
use Rattle.code.proofs.Decoding.{bytes_decoded, length_decoded}
use Rattle.record.specs.Element.{Element}
use Rattle.protocol.specs.Boards.{IsBoard, bytes_sent, decode, lowest_length}
use Rattle.protocol.specs.Laws.{Rising}
use Rattle.protocol.proofs.Boards.{rises}
use Rattle.protocol.proofs.Cut.{cut_past, filled, length_cut}

-- whatever the elements are, all past the length is 0
pub decode_zeros : (cfg : Config) (xs : List (ℕ × Element)) (i : ℕ) → (decode cfg xs).length ≤ i → get_or (decode cfg xs).bytes i 0 ≡ 0
decode_zeros cfg xs i h = cut_past (lowest_length xs) (decoded_pairs cfg (map bytes_sent xs)) i h

-- and there are V bytes
pub decode_whole : (cfg : Config) (xs : List (ℕ × Element)) → length (decode cfg xs).bytes ≡ board_length cfg
unfolding decoded_pairs
decode_whole cfg xs =
    length_cut (lowest_length xs) (decoded_pairs cfg (map bytes_sent xs))
    ∙ length_decoded cfg (map (λ p. p.0) (map bytes_sent xs)) (joined (map (λ p. p.1) (map bytes_sent xs)))

bytes_append : (l m : List ℕ) → Bytes l → Bytes m → Bytes (l ++ m)
bytes_append [] m h g i = g i
bytes_append (x ∷ l) m h g zero = h 0
bytes_append (x ∷ l) m h g (suc i) = bytes_append l m (λ j. h (suc j)) g i

-- each element is bytes
abbrev pub EachBytes : List (ℕ × Element) → Type 0
EachBytes xs = (x : ℕ × Element) → Memᴰ x xs → Bytes x.1.bytes

joined_bytes : (xs : List (ℕ × Element)) → EachBytes xs → Bytes (joined (map (λ p. p.1) (map bytes_sent xs)))
unfolding joined
joined_bytes [] h i = omega arith
joined_bytes (x ∷ xs) h i =
    bytes_append x.1.bytes (joined (map (λ p. p.1) (map bytes_sent xs))) (h x (Memᴰ.head refl))
    (joined_bytes xs (λ y j. h y (Memᴰ.tail j))) i

sent-by : (xs : List (ℕ × Element)) → map (λ p. p.0) (map bytes_sent xs) ≡ map (λ x. x.0) xs
sent-by [] = refl
sent-by (x ∷ xs) = ap (◌∷◌ x.0) (sent-by xs)

-- Elements of k servers or more, which rise strictly within 1 to N, give back a board, if the length sent with the lowest is at most V.
pub decode_board : (cfg : Config) → Valid cfg → (xs : List (ℕ × Element)) → cfg.k ≤ length xs → Rising 0 cfg.n xs → EachBytes xs
    → lowest_length xs ≤ board_length cfg → IsBoard cfg (decode cfg xs)
unfolding decoded_pairs
decode_board cfg valid xs many up bytes fits =
    record {
      whole = decode_whole cfg xs;
      fits = fits;
      filled =
          filled (lowest_length xs) (decoded_pairs cfg (map bytes_sent xs))
          (bytes_decoded cfg valid servers
          (ap (rising cfg.n) (sent-by xs) ∙ rises cfg.n 0 xs up)
          (omega (arith, many, length-map (map bytes_sent xs) (λ (p : ℕ × List ℕ). p.0), length-map xs bytes_sent))
          (joined (map (λ p. p.1) (map bytes_sent xs))) (joined_bytes xs bytes));
    }
  where
    servers : List ℕ
    servers = map (λ p. p.0) (map bytes_sent xs)

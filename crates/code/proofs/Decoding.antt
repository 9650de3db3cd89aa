-- Any k elements of a board give that board back, and only it: for every valid configuration and every k servers.
use Prim.Native.Nat.{ℕ, zero, suc, ◌+◌, ◌*◌, ◌/◌, ◌%◌, ◌<◌, ◌≤◌}
use mathlib.Core.Path.{◌≡◌, refl, sym, ap, ap₂, subst, ◌∙◌}
use mathlib.Core.Bool.{true}
use mathlib.Core.List.{List, [], ◌∷◌, map}
use native.Mathlib.Omega.{arith}
use native.Mathlib.Nat.{div-lt_iff_lt-mul, div-add-mod', mod-lt, mul-le-mul_right}
use lib.Arith.{digits_lt, digits_div, digits_mod}
use lib.ListN.{length, get_or, take, drop, length-map, length-drop}
use lib.Seq.{ext_get_or, get_or-take, get_or-drop, length-take-le}
use Rattle.config.specs.declared.Config.{Config}
use Rattle.config.specs.Config.{board_length, Valid}
use Rattle.laws.specs.Bytes.{Bytes, joined, tabulate}
use Rattle.laws.specs.Parts.{part}
use Rattle.code.specs.Polynomial.{value, interpolated}
use Rattle.code.specs.Element.{byte_field, element, element_byte}
use Rattle.code.specs.Decoded.{decoded, decoded_byte, decoded_pairs, rising}
use Rattle.laws.proofs.Bytes.{Each, bytes_tabulate, get_d_tabulate, joined_at, length_joined, length_tabulate, tabulate_cong}
use Rattle.code.proofs.Lagrange.{interpolated_cong}
use Rattle.code.proofs.Numbers.{value_lt, horner, interpolated_lt, at_points, from_values}
use Rattle.code.proofs.Rising as rise

-- the coefficients of byte j: a board's bytes E apart
abbrev pub column : ℕ → ℕ → List ℕ → ℕ → List ℕ
column k e board j = tabulate k (λ i. get_or board (i * e + j) 0)

module _ (cfg : Config) (board : List ℕ) (b : Bytes board) where
  -- byte j of an element is the value of column j at the server
  pub element_value : (s j : ℕ) → s < 256 → element_byte cfg board s j ≡ value byte_field (column cfg.k cfg.e board j) s
  unfolding element_byte
  element_value s j h = horner cfg.k (λ i. get_or board (i * cfg.e + j) 0) s (λ i. b (i * cfg.e + j)) h

  pub element_byte_lt : (s j : ℕ) → s < 256 → element_byte cfg board s j < 256
  element_byte_lt s j h =
      subst (λ n. n < 256) (sym (element_value s j h))
      (value_lt (column cfg.k cfg.e board j) s (bytes_tabulate cfg.k (λ i. get_or board (i * cfg.e + j) 0) (λ i. b (i * cfg.e + j))) h)

  pub bytes_element : (s : ℕ) → s < 256 → Bytes (element cfg board s)
  unfolding element
  bytes_element s h = bytes_tabulate cfg.e (element_byte cfg board s) (λ j. element_byte_lt s j h)

pub length_element : (cfg : Config) (board : List ℕ) (s : ℕ) → length (element cfg board s) ≡ cfg.e
unfolding element
length_element cfg board s = length_tabulate cfg.e (element_byte cfg board s)

pub element-at : (cfg : Config) (board : List ℕ) (s j : ℕ) → j < cfg.e → get_or (element cfg board s) j 0 ≡ element_byte cfg board s j
unfolding element
element-at cfg board s j h = get_d_tabulate cfg.e (element_byte cfg board s) j 0 h

module _ (cfg : Config) (servers elements : List ℕ) where
  pub length_decoded : length (decoded cfg servers elements) ≡ board_length cfg
  unfolding decoded
  length_decoded = length_tabulate (board_length cfg) (λ m. decoded_byte cfg.k cfg.e servers elements (m / cfg.e) (m % cfg.e))

  pub decoded_at : (i j : ℕ) → i < cfg.k → j < cfg.e
      → get_or (decoded cfg servers elements) (i * cfg.e + j) 0 ≡ decoded_byte cfg.k cfg.e servers elements i j
  unfolding decoded
  decoded_at i j l m =
      get_d_tabulate (board_length cfg) (λ n. decoded_byte cfg.k cfg.e servers elements (n / cfg.e) (n % cfg.e)) (i * cfg.e + j) 0 (digits_lt l m)
      ∙ ap₂ (decoded_byte cfg.k cfg.e servers elements) (digits_div i m) (digits_mod i m)

mapped : (f : ℕ → List ℕ) (ss : List ℕ) (r : ℕ) → r < length ss → get_or (map f ss) r [] ≡ f (get_or ss r 0)
mapped f [] r h = absurd (omega arith)
mapped f (s ∷ ss) zero h = refl
mapped f (s ∷ ss) (suc r) h = mapped f ss r (omega arith)

numbers_of : (f : ℕ → List ℕ) (ss : List ℕ) → map (λ (p : ℕ × List ℕ). p.0) (map (λ s. (s, f s)) ss) ≡ ss
numbers_of f [] = refl
numbers_of f (s ∷ ss) = ap (◌∷◌ s) (numbers_of f ss)

values_of : (f : ℕ → List ℕ) (ss : List ℕ) → map (λ (p : ℕ × List ℕ). p.1) (map (λ s. (s, f s)) ss) ≡ map f ss
values_of f [] = refl
values_of f (s ∷ ss) = ap (◌∷◌ (f s)) (values_of f ss)

module _ (cfg : Config) (v : Valid cfg) (servers : List ℕ) (up : rising cfg.n servers ≡ true) (enough : cfg.k ≤ length servers) where
  abbrev used : List ℕ
  used = take cfg.k servers

  size : length used ≡ cfg.k
  size = length-take-le cfg.k servers enough

  used_at : (r : ℕ) → r < cfg.k → get_or used r 0 ≡ get_or servers r 0
  used_at r h = get_or-take cfg.k servers r 0 h

  pub bytes_decoded : (elements : List ℕ) → Bytes elements → Bytes (decoded cfg servers elements)
  unfolding decoded decoded_byte
  bytes_decoded elements h =
      bytes_tabulate (board_length cfg) (λ m. decoded_byte cfg.k cfg.e servers elements (m / cfg.e) (m % cfg.e))
      (λ m. interpolated_lt used (λ r. get_or elements (r * cfg.e + m % cfg.e) 0) (m / cfg.e)
      (rise.bytes_take cfg.n servers up (omega arith) cfg.k enough) (λ r. h (r * cfg.e + m % cfg.e)))

  -- the first k elements are those of the board
  abbrev pub Elements : List ℕ → List ℕ → Type 0
  Elements board elements = (r j : ℕ) → r < cfg.k → j < cfg.e
      → get_or elements (r * cfg.e + j) 0 ≡ element_byte cfg board (get_or servers r 0) j

  server_lt : (r : ℕ) → get_or servers r 0 < 256
  server_lt r = rise.bytes cfg.n servers up (omega arith) r

  decoded-byte : (board elements : List ℕ) → Bytes board → Elements board elements → (i j : ℕ) → i < cfg.k → j < cfg.e
      → decoded_byte cfg.k cfg.e servers elements i j ≡ get_or board (i * cfg.e + j) 0
  unfolding decoded_byte
  decoded-byte board elements b h i j l m =
      interpolated_cong byte_field used
      (λ r. get_or elements (r * cfg.e + j) 0)
      (λ r. value byte_field (column cfg.k cfg.e board j) (get_or used r 0))
      (λ r o. let f : r < cfg.k = subst (λ n. r < n) size o in
      h r j f m ∙ element_value cfg board b (get_or servers r 0) j (server_lt r)
      ∙ ap (value byte_field (column cfg.k cfg.e board j)) (sym (used_at r f)))
      i
      ∙ sym (get_d_tabulate (length used) (interpolated byte_field used w) i 0 (rw size l))
      ∙ ap (λ p. get_or p i 0)
      (from_values used (column cfg.k cfg.e board j)
      (rise.bytes_take cfg.n servers up (omega arith) cfg.k enough)
      (bytes_tabulate cfg.k (λ a. get_or board (a * cfg.e + j) 0) (λ a. b (a * cfg.e + j)))
      (rise.distinct_take cfg.n servers up cfg.k enough)
      (length_tabulate cfg.k (λ a. get_or board (a * cfg.e + j) 0) ∙ sym size))
      ∙ get_d_tabulate cfg.k (λ a. get_or board (a * cfg.e + j) 0) i 0 l
    where
      w : ℕ → ℕ
      w r = value byte_field (column cfg.k cfg.e board j) (get_or used r 0)

  -- any k elements of a board decode to that board
  pub decode_elements : (board elements : List ℕ) → length board ≡ board_length cfg → Bytes board → Elements board elements
      → decoded cfg servers elements ≡ board
  decode_elements board elements lb b h =
      ext_get_or 0 (decoded cfg servers elements) board (length_decoded cfg servers elements ∙ sym lb)
      (λ m l. at m (rw (length_decoded cfg servers elements) at l))
    where
      at : (m : ℕ) → m < board_length cfg → get_or (decoded cfg servers elements) m 0 ≡ get_or board m 0
      at m l =
          let i : m / cfg.e < cfg.k = (div-lt_iff_lt-mul v.e_low).1 l in
          let j : m % cfg.e < cfg.e = mod-lt m v.e_low in
          ap (λ n. get_or (decoded cfg servers elements) n 0) (sym (div-add-mod' m cfg.e))
          ∙ decoded_at cfg servers elements (m / cfg.e) (m % cfg.e) i j
          ∙ decoded-byte board elements b h (m / cfg.e) (m % cfg.e) i j
          ∙ ap (λ n. get_or board n 0) (div-add-mod' m cfg.e)

  -- the elements of a board, one after the other
  abbrev pub elements_of : List ℕ → List ℕ
  elements_of board = joined (map (element cfg board) servers)

  mapped_at : (board : List ℕ) (r : ℕ) → r < length servers
      → get_or (map (element cfg board) servers) r [] ≡ element cfg board (get_or servers r 0)
  mapped_at board r h = mapped (element cfg board) servers r h

  each_element : (board : List ℕ) → Each cfg.e (map (element cfg board) servers)
  each_element board r h =
      ap length (mapped_at board r (subst (λ n. r < n) (length-map servers (element cfg board)) h))
      ∙ length_element cfg board (get_or servers r 0)

  joined_elements : (board : List ℕ) → Elements board (elements_of board)
  joined_elements board r j l m =
      joined_at cfg.e (map (element cfg board) servers) (each_element board) r j
      (rw (length-map servers (element cfg board)) (omega arith)) m
      ∙ ap (λ x. get_or x j 0) (mapped_at board r (omega arith))
      ∙ element-at cfg board (get_or servers r 0) j m

  pub length_elements : (board : List ℕ) → length (elements_of board) ≡ length servers * cfg.e
  length_elements board =
      length_joined cfg.e (map (element cfg board) servers) (each_element board)
      ∙ ap (λ n. n * cfg.e) (length-map servers (element cfg board))

  pub decode_joined : (board : List ℕ) → length board ≡ board_length cfg → Bytes board → decoded cfg servers (elements_of board) ≡ board
  decode_joined board lb b = decode_elements board (elements_of board) lb b (joined_elements board)

  -- the same, of server numbers each with its element
  pub decode_pairs : (board : List ℕ) → length board ≡ board_length cfg → Bytes board
      → decoded_pairs cfg (map (λ s. (s, element cfg board s)) servers) ≡ board
  unfolding decoded_pairs
  decode_pairs board lb b =
      ap₂ (λ ss es. decoded cfg ss (joined es)) (numbers_of (element cfg board) servers) (values_of (element cfg board) servers)
      ∙ decode_joined board lb b

  -- two boards that agree in k elements are one board
  pub one_board : (board other : List ℕ) → length board ≡ board_length cfg → length other ≡ board_length cfg → Bytes board → Bytes other
      → ((r : ℕ) → r < cfg.k → element cfg board (get_or servers r 0) ≡ element cfg other (get_or servers r 0)) → board ≡ other
  one_board board other lb lo b c h =
      sym (decode_joined board lb b)
      ∙ decode_elements other (elements_of board) lo c
      (λ r j l m. joined_elements board r j l m
      ∙ sym (element-at cfg board (get_or servers r 0) j m)
      ∙ ap (λ x. get_or x j 0) (h r l)
      ∙ element-at cfg other (get_or servers r 0) j m)

  column_decoded : (elements : List ℕ) (j : ℕ) → j < cfg.e
      → column cfg.k cfg.e (decoded cfg servers elements) j ≡ tabulate (length used) (interpolated byte_field used (λ r. get_or elements (r * cfg.e + j) 0))
  unfolding decoded_byte
  column_decoded elements j h =
      tabulate_cong cfg.k
      (λ i. get_or (decoded cfg servers elements) (i * cfg.e + j) 0)
      (interpolated byte_field used (λ r. get_or elements (r * cfg.e + j) 0))
      (λ i l. decoded_at cfg servers elements i j l h)
      ∙ ap (λ n. tabulate n (interpolated byte_field used (λ r. get_or elements (r * cfg.e + j) 0))) (sym size)

  -- byte j of the element of server r of what was decoded is byte j of the element that was handed in
  encode_byte : (elements : List ℕ) → Bytes elements → (r j : ℕ) → r < cfg.k → j < cfg.e
      → element_byte cfg (decoded cfg servers elements) (get_or servers r 0) j ≡ get_or elements (r * cfg.e + j) 0
  encode_byte elements h r j l m =
      element_value cfg (decoded cfg servers elements) (bytes_decoded elements h) (get_or servers r 0) j (server_lt r)
      ∙ ap₂ (value byte_field) (column_decoded elements j m) (sym (used_at r l))
      ∙ at_points used (λ t. get_or elements (t * cfg.e + j) 0)
      (rise.bytes_take cfg.n servers up (omega arith) cfg.k enough) (λ t. h (t * cfg.e + j))
      (rise.distinct_take cfg.n servers up cfg.k enough) r (rw size l)

  -- encoding what was decoded gives the k elements back: any k elements are those of some board
  pub encode_decoded : (elements : List ℕ) → Bytes elements → cfg.k * cfg.e ≤ length elements → (r : ℕ) → r < cfg.k
      → element cfg (decoded cfg servers elements) (get_or servers r 0) ≡ part cfg.e r elements
  encode_decoded elements h f r l =
      ext_get_or 0 (element cfg (decoded cfg servers elements) (get_or servers r 0)) (part cfg.e r elements)
      (length_element cfg (decoded cfg servers elements) (get_or servers r 0)
      ∙ sym (length-take-le cfg.e (drop (r * cfg.e) elements)
      (rw (length-drop (r * cfg.e) elements) (omega (arith, mul-le-mul_right cfg.e l)))))
      (λ j m. let n : j < cfg.e = rw length_element at m in
      element-at cfg (decoded cfg servers elements) (get_or servers r 0) j n
      ∙ encode_byte elements h r j l n
      ∙ sym (get_or-drop (r * cfg.e) elements j 0)
      ∙ sym (get_or-take cfg.e (drop (r * cfg.e) elements) j 0 n))

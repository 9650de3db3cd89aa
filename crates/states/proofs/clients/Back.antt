-- Unpacking what was packed gives a client's state back. Assumes nothing.
use mathlib.Core.Path.{◌≡◌, refl, ◌∙◌, ap₂}
use mathlib.Core.Bool.{Bool, true, false, cond}
use Prim.Native.Nat.{ℕ, ◌+◌, ◌*◌, ◌≤◌, ◌<◌}
use native.Mathlib.Omega.{arith}
use lib.Dec.{eqb}
use lib.ListN.{get_or}
use Rattle.laws.specs.Bytes.{tabulate}
use Rattle.laws.proofs.Bytes.{tabulate_cong}
use Rattle.record.specs.Record.{four_bytes, highest_number, little_two, number_at, two_bytes}
use Rattle.record.proofs.Laws.{flag_back, four_number, two_number}
use Rattle.client.specs.declared.Phase.{Phase}
use Rattle.client.specs.declared.Phase.TheVariants.{Idle, Asking, PreWriting, FinalisingWrite, FinalisingRead, Down}
use Rattle.client.specs.declared.State.{State}
use Rattle.client.specs.Servers.{member}
use Rattle.states.specs.declared.clients.Numbers.{Numbers}
use Rattle.states.specs.Bytes.{length_from, tag_from, tag_row}
use Rattle.states.specs.Clients.{head_row, kept_length, numbers_of, packed, packed_with, phase_of, sent_length, state_of, tidy}
use Rattle.states.proofs.Rows.{part_byte}
use Rattle.states.proofs.clients.Packed.{first, first_long}

-- what the numbers that the code holds are: those of a phase have four bytes, and lengths two
pub record NumbersFit (n : Numbers) : Type 0 where
  pub tag : n.tag.number ≤ highest_number
  pub counted : n.counted ≤ highest_number
  pub sent : n.sent ≤ highest_number

pub record Fitting (x : State) : Type 0 where
  pub operation : x.operation ≤ highest_number
  pub length : x.length < 65536
  pub lengths : (i : ℕ) → get_or x.lengths i 0 < 65536

-- a phase's numbers give it back
phase_numbers : (p : Phase) → phase_of (numbers_of p).which (numbers_of p).writes (numbers_of p).tag (numbers_of p).counted (numbers_of p).sent ≡ p
unfolding phase_of numbers_of
phase_numbers Idle = refl
phase_numbers (Asking writes best counted) = refl
phase_numbers (PreWriting tag counted) = refl
phase_numbers (FinalisingWrite tag counted) = refl
phase_numbers (FinalisingRead tag counted sent) = refl
phase_numbers Down = refl

-- a length that is kept or not has two bytes
kept_small : (b : Bool) (n : ℕ) → n < 65536 → cond b n 0 < 65536
kept_small true n h = h
kept_small false n h = omega arith

module _ (x : State) (n : Numbers) (fits : Fitting x) (small : NumbersFit n) where
  -- byte j of the length at place i
  byte : (i j at : ℕ) → i < 16 → j < 2 → at ≡ 24 + (i * 2 + j) → get_or (packed_with x n) at 0 ≡ get_or (two_bytes (sent_length x.lengths n.sent i)) j 0
  unfolding packed_with two_bytes
  byte = part_byte 2 16 (λ i. two_bytes (sent_length x.lengths n.sent i)) (λ i. refl) (first x n) 24 (first_long x n)

  length_sent : (i : ℕ) → i < 16 → length_from (packed_with x n) (24 + 2 * i) ≡ sent_length x.lengths n.sent i
  unfolding two_bytes sent_length
  length_sent i h =
      ap₂ (λ (a b : ℕ). little_two a b) (byte i 0 (24 + 2 * i) h (omega arith) (omega arith)) (byte i 1 (24 + 2 * i + 1) h (omega arith) (omega arith))
      ∙ two_number (sent_length x.lengths n.sent i) (kept_small (member n.sent (i + 1)) (get_or x.lengths i 0) (fits.lengths i))

  lengths_back : tabulate 16 (λ i. length_from (packed_with x n) (24 + 2 * i)) ≡ tabulate 16 (sent_length x.lengths n.sent)
  lengths_back = tabulate_cong 16 _ _ length_sent

  operation_back : number_at 4 (packed_with x n) ≡ x.operation
  unfolding packed_with head_row four_bytes
  operation_back = four_number x.operation fits.operation

  length_back : length_from (packed_with x n) 13 ≡ kept_length x n
  unfolding packed_with head_row tag_row four_bytes two_bytes
  length_back = two_number (kept_length x n) (kept_small n.writes x.length fits.length)

  tag_back : tag_from (packed_with x n) 8 ≡ n.tag
  unfolding packed_with head_row tag_row four_bytes two_bytes
  tag_back = λ i. record { number = four_number n.tag.number small.tag i; client = n.tag.client }

  counted_back : number_at 16 (packed_with x n) ≡ n.counted
  unfolding packed_with head_row tag_row four_bytes two_bytes
  counted_back = four_number n.counted small.counted

  sent_back : number_at 20 (packed_with x n) ≡ n.sent
  unfolding packed_with head_row tag_row four_bytes two_bytes
  sent_back = four_number n.sent small.sent

  writes_back : eqb (get_or (packed_with x n) 2 0) 1 ≡ n.writes
  unfolding packed_with head_row four_bytes
  writes_back = flag_back n.writes

  which_back : get_or (packed_with x n) 1 0 ≡ n.which
  unfolding packed_with head_row four_bytes
  which_back = refl

  me_back : get_or (packed_with x n) 0 0 ≡ x.me.0
  unfolding packed_with head_row four_bytes
  me_back = refl

pub back : (x : State) → Fitting x → NumbersFit (numbers_of x.phase) → state_of (packed x) ≡ tidy x
unfolding state_of tidy
back x fits small =
    let n = numbers_of x.phase in
    let phase : (state_of (packed x)).phase ≡ x.phase =
    rw (which_back x n fits small, writes_back x n fits small, tag_back x n fits small, counted_back x n fits small, sent_back x n fits small) (phase_numbers x.phase) in
    λ i.
    record {
      me = record { 0 = me_back x n fits small i };
      operation = operation_back x n fits small i;
      phase = phase i;
      length = length_back x n fits small i;
      lengths = lengths_back x n fits small i;
    }

-- The program, given the records that are made, is called as the rig was by which they were made. Assumes nothing.
use Prim.Native.Nat.{ℕ, zero, suc, ◌+◌, ◌*◌, ◌≤◌}
use mathlib.Core.Path.{◌≡◌, refl, ap, ap₂, ◌∙◌}
use mathlib.Core.List.{List, [], ◌∷◌, ◌++◌}
use native.Mathlib.Omega.{arith}
use lib.ListN.{length, take, drop, get_or}
use Rattle.laws.specs.Bytes.{joined, tabulate}
use Rattle.config.specs.Config.{board_length}
use Rattle.record.specs.Record.{little_two, two_bytes}
use Rattle.record.proofs.Laws.{two_number}
use Rattle.protocol.specs.Boards.{BoardCall, BoardRig, board_of, decode, encode, event, fits_in, order}
use Rattle.protocol.specs.Rig as protocol
use Rattle.protocol.proofs.Room.{event_few}
use Rattle.lines.specs.Event.{call_at, calls_in}
use Rattle.lines.specs.Program.{program, program_messages}
use Rattle.maker.specs.Load.{Drawn, call_of, calls, calls_from, drawn, drawn_from, event_record, fresh, made, made_from}
use Rattle.maker.proofs.Made.{Small, small}

-- ---- a record as the program reads it

module _ (d : Drawn) (more : List ℕ) where
  -- the first
  call_first : Small d → call_at 1 0 (event_record d ++ more) ≡ call_of d
  unfolding call_at two_bytes
  call_first s =
      ap₂ (λ p n. record { code = d.call.code; party = d.call.party; position = p; board = board_of n (d.byte ∷ []) }) (two_number d.call.position s.position)
      (two_number d.call.length s.length)

  -- those behind it
  abbrev past : ℕ → ℕ
  past k = suc (suc (suc (suc (suc (suc (suc k))))))

  byte_later : {n k : ℕ} → n ≡ past k → get_or (event_record d ++ more) n 0 ≡ get_or more k 0
  unfolding two_bytes
  byte_later e = ap (λ j. get_or (event_record d ++ more) j 0) e

  bytes_later : {n k : ℕ} → n ≡ past k → drop n (event_record d ++ more) ≡ drop k more
  unfolding two_bytes
  bytes_later e = ap (λ j. drop j (event_record d ++ more)) e

  call_later : (i : ℕ) → call_at 1 (suc i * 7) (event_record d ++ more) ≡ call_at 1 (i * 7) more
  unfolding call_at
  call_later i =
      let at : suc i * 7 ≡ past (i * 7) = omega arith in
      let at_1 : suc i * 7 + 1 ≡ past (i * 7 + 1) = omega arith in
      let at-2 : suc i * 7 + 2 ≡ past (i * 7 + 2) = omega arith in
      let at-3 : suc i * 7 + 3 ≡ past (i * 7 + 3) = omega arith in
      let at-4 : suc i * 7 + 4 ≡ past (i * 7 + 4) = omega arith in
      let at_5 : suc i * 7 + 4 + 1 ≡ past (i * 7 + 4 + 1) = omega arith in
      let at-6 : suc i * 7 + 5 + 1 ≡ past (i * 7 + 5 + 1) = omega arith in
      λ t. record {
        code = byte_later at t;
        party = byte_later at_1 t;
        position = little_two (byte_later at-2 t) (byte_later at-3 t);
        board = board_of (little_two (byte_later at_5 t) (byte_later at-6 t)) (take 1 (bytes_later at-4 t));
      }

calls-in : (n last : ℕ) (r : BoardRig) → length r.in_flight ≤ program_messages → calls_in 1 n (made_from n last r) ≡ calls_from n last r
unfolding tabulate drawn_from joined
calls-in zero last r few = refl
calls-in (suc n) last r few =
    let d = drawn last (length r.in_flight) in
    let next = (event program program_messages r (call_of d)).rig in
    let rest = made_from n d.last next in
    ap₂ (λ (x : BoardCall) (xs : List BoardCall). x ∷ xs) (call_first d rest (small last (length r.in_flight) (omega (arith, few))))
    (ap (tabulate n) (λ t i. call_later d rest i t) ∙ calls-in n d.last next (event_few (order program) (encode program) (decode program) program (fits_in program) program_messages r (call_of d) few))

-- The calls that the program reads in the records of a count and a seed are those that they were made by.
pub quoted : (count seed : ℕ) → calls_in (board_length program) count (made count seed) ≡ calls count seed
unfolding protocol.fresh_rig
quoted count seed = calls-in count seed fresh (omega arith)

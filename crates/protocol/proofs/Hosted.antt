-- Along every run of hosts, what every party keeps and every message that was ever sent says is within a record's limits. Assumes nothing.
use mathlib.Core.Bool.{true}
use mathlib.Core.Option.{Option, none, some}
use mathlib.Core.List.{List, [], ◌++◌}
use mathlib.Core.Path.{◌≡◌, refl}
use Prim.Native.Nat.{ℕ}
use native.Mathlib.Omega.{arith}
use borrow.Author.Tests.{ltb-true}
use lib.Dec.{ltb}
use Rattle.config.specs.declared.Config.{Config}
use Rattle.config.specs.Config.{Valid}
use Rattle.config.specs.Questions.{first_no, within}
use Rattle.config.proofs.Questions.{yes_next}
use Rattle.record.specs.Record.{highest_number}
use Rattle.protocol.specs.Boards.{Board, BoardActed, BoardEvent, BoardHosted, BoardMessage, BoardParties, IsBoard, begin}
use Rattle.protocol.specs.Client.{begin_questions, is_idle, is_up}
use Rattle.protocol.specs.Hosts.{fresh, refuses, serves, writes, reads, steps}
use Rattle.protocol.specs.Parties.{questions_to_begin}
use Rattle.protocol.specs.Sound.{Sound}
use Rattle.protocol.proofs.Formed.{ActedFits, BoardFits, PartiesFit, begin_fits, client_acts_fits, client_within, fresh_fits, step_fits, to_server_fits}
use Rattle.protocol.proofs.Sound.{sound_append, sound_none}

pub record Fit (cfg : Config) (p : BoardParties) (ms : List BoardMessage) : Type 0 where
  pub parties : PartiesFit cfg p
  pub sent : Sound cfg ms

-- what a client's questions to begin show
pub begin_low : (cfg : Config) (p : BoardParties) (c : ℕ) → first_no (questions_to_begin cfg p c) ≡ 0
    → (within 1 cfg.c c ≡ true) × (ltb (p.clients c).operation highest_number ≡ true)
unfolding questions_to_begin begin_questions
begin_low cfg p c h =
    let x = p.clients c in
    let eight = yes_next 8 (within 1 cfg.c c) _ (omega arith) h in
    let nine = yes_next 9 (is_up x.phase) _ (omega arith) eight.1 in
    let ten = yes_next 10 (is_idle x.phase) _ (omega arith) nine.1 in
    let eleven = yes_next 11 (ltb x.operation highest_number) [] (omega arith) ten.1 in
    (eight.0, eleven.0)

module _ (cfg : Config) (valid : Valid cfg) (start : Board) (board : IsBoard cfg start) where
  acted : {sent : List BoardMessage} {x : BoardActed} → Sound cfg sent → ActedFits cfg x → Fit cfg x.parties (sent ++ x.sends)
  acted h k = record { parties = k.parties; sent = sound_append h k.sends }

  begun : {p : BoardParties} {sent : List BoardMessage} → Fit cfg p sent → (c : ℕ) (v : Option Board) → BoardFits cfg v → first_no (questions_to_begin cfg p c) ≡ 0
      → Fit cfg (begin cfg p c v).parties (sent ++ (begin cfg p c v).sends)
  begun {p} fit c v fits h =
      let low = begin_low cfg p c h in
      acted fit.sent (begin_fits cfg p fit.parties c low.0 (ltb-true (p.clients c).operation highest_number low.1) v fits)

  pub hosted_fits : {p : BoardParties} {sent : List BoardMessage} {events : List BoardEvent} → BoardHosted cfg start p sent events → Fit cfg p sent
  hosted_fits fresh = record { parties = fresh_fits cfg start board.fits; sent = sound_none }
  hosted_fits (refuses runs a number) = hosted_fits runs
  hosted_fits (serves {p} runs m i) =
      let fit = hosted_fits runs in
      acted fit.sent (to_server_fits cfg p fit.parties valid m (fit.sent.each m i))
  hosted_fits (writes runs c v asked is_board) = begun (hosted_fits runs) c (some v) is_board.fits asked
  hosted_fits (reads runs c v asked) = begun (hosted_fits runs) c none tt asked
  hosted_fits (steps {p} runs m i v) =
      let fit = hosted_fits runs in
      let good = fit.sent.each m i in
      acted fit.sent (client_acts_fits cfg p fit.parties m.client _
      (step_fits cfg m.client (client_within cfg m good) (p.clients m.client) valid (fit.parties.clients m.client) m good refl))

-- Events 1 to 5 by their codes: which begin, and which take a message out of the list; and that a move's answer is no refusal. Assumes nothing.
use Prim.Native.Nat.{ℕ}
use mathlib.Core.Path.{◌≡◌, refl}
use mathlib.Core.Bool.{Bool, true, false, cond}
use mathlib.Core.Option.{Option, none, some}
use native.Mathlib.Omega.{arith}
use lib.Dec.{leb}
use Rattle.config.specs.declared.Config.{Config}
use Rattle.config.specs.Questions.{within}
use Rattle.config.proofs.Questions.{within_high, within_low}
use Rattle.record.specs.Kinds.{is_for_server}
use Rattle.protocol.specs.Board.{is_accepted}
use Rattle.protocol.specs.Boards.{BoardActed, BoardCall, BoardEnded, BoardMessage, BoardParties, BoardRig, client_step, decode, deliver, encode, move, order, server_step}
use Rattle.protocol.specs.Client.{Ended}
use Rattle.protocol.specs.Network.{names_board}
use Rattle.protocol.specs.Parties as parties
use Rattle.protocol.specs.Parties.{answer_of, client_acts, quiet, server_acts}
use Rattle.protocol.specs.Rig as rig
use Rattle.protocol.specs.Rig.{Code, begin_write, begin_read, handOver, lose, double, crash_server, crash_client, restart_server, code_of, deliver_at, leaves}
use Rattle.protocol.proofs.Basics.{cond_elim}
use Rattle.boards.specs.inner.Named.{removes}
use Rattle.boards.proofs.Codes.{past}

-- it begins
abbrev pub begins : Code → Bool
begins begin_write = true
begins begin_read = true
begins handOver = false
begins lose = false
begins double = false
begins crash_server = false
begins crash_client = false
begins restart_server = false

-- the message that it names leaves the list
abbrev pub takes_away : Code → Bool
takes_away begin_write = false
takes_away begin_read = false
takes_away handOver = true
takes_away lose = true
takes_away double = false
takes_away crash_server = false
takes_away crash_client = false
takes_away restart_server = false

-- an event that names a board, by its code
pub record Coded (c : ℕ) : Type 0 where
  pub w : Code
  pub is : code_of c ≡ some w
  pub named : names_board (some w) ≡ true
  pub begin : leb c 2 ≡ begins w
  pub away : removes c ≡ takes_away w

pub coded : (c : ℕ) → within 1 5 c ≡ true → Coded c
unfolding code_of names_board
coded c h =
    past Coded 1 c (within_low 1 5 c h) (record { w = begin_write; is = refl; named = refl; begin = refl; away = refl })
    (λ l. past Coded 2 c l (record { w = begin_read; is = refl; named = refl; begin = refl; away = refl })
    (λ l. past Coded 3 c l (record { w = handOver; is = refl; named = refl; begin = refl; away = refl })
    (λ l. past Coded 4 c l (record { w = lose; is = refl; named = refl; begin = refl; away = refl })
    (λ l. past Coded 5 c l (record { w = double; is = refl; named = refl; begin = refl; away = refl })
    (λ l. absurd (omega (arith, l, within_high 1 5 c h)))))))

-- ---- a move's answer

abbrev Accepts : BoardActed → Type 0
Accepts x = is_accepted x.answer ≡ true

ended_accepted : (c : ℕ) (e : BoardEnded) → is_accepted (answer_of c e) ≡ true
unfolding answer_of is_accepted
ended_accepted c Ended.nothing = refl
ended_accepted c (Ended.written t) = refl
ended_accepted c Ended.spent = refl
ended_accepted c (Ended.read t v) = refl

module _ (cfg : Config) where
  deliver_accepted : (p : BoardParties) (m : BoardMessage) → Accepts (deliver cfg p m)
  unfolding parties.deliver client_acts server_acts quiet is_accepted
  deliver_accepted p m =
      let s = server_step cfg m.server (p.servers m.server) m in
      let c = client_step cfg m.client (p.clients m.client) m in
      cond_elim Accepts (is_for_server m.kind) (cond (p.up m.server) (server_acts p m.server s) (quiet p)) (client_acts p m.client c)
      (λ _. cond_elim Accepts (p.up m.server) (server_acts p m.server s) (quiet p) (λ _. refl) (λ _. refl))
      (λ _. ended_accepted m.client c.ended)

  delivered_accepted : (p : BoardParties) (o : Option BoardMessage) → Accepts (deliver_at (order cfg) (encode cfg) (decode cfg) cfg p o)
  unfolding deliver_at quiet is_accepted
  delivered_accepted p none = refl
  delivered_accepted p (some m) = deliver_accepted p m

  pub move_accepted : (r : BoardRig) (a : BoardCall) (w : Code) → is_accepted (move cfg r a w).answer ≡ true
  unfolding rig.move leaves parties.begin client_acts quiet parties.crash_server parties.crash_client parties.restart_server is_accepted
  move_accepted r a begin_write = ended_accepted _ _
  move_accepted r a begin_read = ended_accepted _ _
  move_accepted r a handOver = delivered_accepted _ _
  move_accepted r a lose = refl
  move_accepted r a double = refl
  move_accepted r a crash_server = refl
  move_accepted r a crash_client = refl
  move_accepted r a restart_server = refl

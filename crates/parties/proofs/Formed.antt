-- What a party keeps is within a record's limits, where question 6 of its state is answered yes and its numbers have four bytes. Assumes nothing.
use Prim.Native.Nat.{ℕ, zero, suc, ◌+◌, ◌*◌, ◌≤◌}
use mathlib.Core.Path.{◌≡◌, sym, ap₂, subst}
use mathlib.Core.Bool.{Bool, true, false, cond, ◌&&◌}
use mathlib.Core.Option.{none, some}
use mathlib.Core.List.{List}
use native.Mathlib.Nat.{mul-le-mul_right}
use native.Mathlib.Omega.{arith}
use borrow.Author.Tests.{eq-eqb, leb-true}
use lib.Dec.{leb}
use lib.ListN.{length, take, drop, length-drop}
use lib.Seq.{length-take-le}
use Rattle.laws.proofs.Bools.{and_left, and_right}
use Rattle.config.specs.declared.Config.{Config}
use Rattle.config.specs.Config.{board_length, store_length}
use Rattle.tag.specs.declared.Tag.{Tag}
use Rattle.tag.specs.Tag.{allowed}
use Rattle.record.specs.Record.{highest_number}
use Rattle.server.specs.declared.State as serverState
use Rattle.server.specs.Within.{every, lengths_within as lengths_in, state_within as server_state_within}
use Rattle.server.specs.View as serverView
use Rattle.server.specs.View.{each, place_at, stored_length, tag_at}
use Rattle.server.proofs.Limits.{state_allowed, state_count, state_highest, state_lengths}
use Rattle.client.specs.declared.Phase.{Phase}
use Rattle.client.specs.declared.Phase.TheVariants.{Idle, Asking, PreWriting, FinalisingWrite, FinalisingRead, Down}
use Rattle.client.specs.declared.State as clientState
use Rattle.client.specs.Servers.{within_servers}
use Rattle.client.specs.State as clientView
use Rattle.client.specs.State.{Slots, lengths_within, phase_of, phase_within, slots, state_within, tag_within, to_write}
use Rattle.client.proofs.Phases.{lengths-in, phase_in}
use Rattle.protocol.specs.Boards.{Board}
use Rattle.protocol.proofs.Formed.{BoardFits, PhaseFits, ServerFits, StoreFits, TagFits}

-- the number of the phase's tag has four bytes
unfoldable pub NumberedPhase : Phase → Type 0
NumberedPhase Idle = Unit {0}
NumberedPhase (Asking writes best counted) = best.number ≤ highest_number
NumberedPhase (PreWriting tag counted) = tag.number ≤ highest_number
NumberedPhase (FinalisingWrite tag counted) = tag.number ≤ highest_number
NumberedPhase (FinalisingRead tag counted sent) = tag.number ≤ highest_number
NumberedPhase Down = Unit {0}

module _ (cfg : Config) where
  tag_fits : (t : Tag) (counted : ℕ) → tag_within cfg t counted ≡ true → t.number ≤ highest_number → TagFits cfg t
  tag_fits t counted h n = (and_left (allowed cfg.c t) (within_servers cfg.n counted) h, n)

  board_fits : (writes : Bool) (v : Board) → cond writes (leb v.length (board_length cfg)) true ≡ true → BoardFits cfg (cond writes (some v) none)
  board_fits true v h = leb-true v.length (board_length cfg) h
  board_fits false v h = tt

  phase_fits : (p : Phase) (v : Board) (es : Slots) → phase_within cfg p ≡ true → lengths_within cfg p v.length es.lengths ≡ true → NumberedPhase p
      → PhaseFits cfg (phase_of cfg p v es)
  unfolding NumberedPhase PhaseFits phase_of phase_within lengths_within
  phase_fits Idle v es h l n = tt
  phase_fits (Asking writes best counted) v es h l n = (tag_fits best counted h n, board_fits writes v l)
  phase_fits (PreWriting tag counted) v es h l n = tag_fits tag counted h n
  phase_fits (FinalisingWrite tag counted) v es h l n = tag_fits tag counted h n
  phase_fits (FinalisingRead tag counted sent) v es h l n =
      tag_fits tag counted (and_left (tag_within cfg tag counted) (within_servers cfg.n sent) h) n
  phase_fits Down v es h l n = tt

  -- a client of which question 6 is answered yes
  pub client_seen_fits : (x : clientState.State) (kept es : List ℕ) → state_within cfg x ≡ true → NumberedPhase x.phase
      → PhaseFits cfg (clientView.view cfg x kept es).phase
  unfolding clientView.view
  client_seen_fits x kept es h n = phase_fits x.phase (to_write x kept) (slots x es) (phase_in cfg x h) (lengths-in cfg x h) n

-- the numbers of a server's tags have four bytes
pub record NumberedServer (x : serverState.State) : Type 0 where
  pub highest : x.highest.number ≤ highest_number
  pub tags : (j : ℕ) → (tag_at x.tags j).number ≤ highest_number

module _ (cfg : Config) (tags : List Tag) (lengths bytes : List ℕ) (numbers : (j : ℕ) → (tag_at tags j).number ≤ highest_number) where
  places_fit : (i n : ℕ) → every (allowed cfg.c) (each (tag_at tags) i n) ≡ true → lengths_in cfg (each (stored_length lengths) i n) ≡ true
      → (i + n) * cfg.e ≤ length bytes → StoreFits cfg (each (place_at cfg tags lengths bytes) i n)
  unfolding StoreFits each every lengths_in
  places_fit i zero h f l = tt
  places_fit i (suc n) h f l =
      let fits = leb (stored_length lengths i) (board_length cfg) in
      let others = every (λ k. leb k (board_length cfg)) (each (stored_length lengths) (suc i) n) in
      let t = tag_at tags i in
      let rest = every (allowed cfg.c) (each (tag_at tags) (suc i) n) in
      let next : suc i + n ≡ i + suc n = omega arith in
      let inside : suc i * cfg.e ≤ (i + suc n) * cfg.e = mul-le-mul_right cfg.e (omega arith) in (
        (
          (and_left (allowed cfg.c t) rest h, numbers i),
          ap₂ ◌&&◌
              (eq-eqb (length (take cfg.e (drop (i * cfg.e) bytes))) cfg.e
              (length-take-le cfg.e (drop (i * cfg.e) bytes) (omega (arith, inside, l, length-drop (i * cfg.e) bytes))))
              (and_left fits others f),
        ),
        places_fit (suc i) n (and_right (allowed cfg.c t) rest h) (and_right fits others f) (subst (λ k. k * cfg.e ≤ length bytes) (sym next) l),
      )

-- a server of which question 6 is answered yes, with its store
pub server_seen_fits : (cfg : Config) (x : serverState.State) (bytes : List ℕ) → server_state_within cfg x ≡ true → length bytes ≡ store_length cfg
    → NumberedServer x → ServerFits cfg (serverView.view cfg x bytes)
unfolding serverView.view
server_seen_fits cfg x bytes h long numbered =
    let none_before : 0 + x.count ≡ x.count = omega arith in
    let fits : x.count * cfg.e ≤ store_length cfg = mul-le-mul_right cfg.e (state_count cfg x h) in
    record {
      highest = (state_highest cfg x h, numbered.highest);
      stored =
          places_fit cfg x.tags x.lengths bytes numbered.tags 0 x.count (state_allowed cfg x h) (state_lengths cfg x h)
          (subst (λ k. k * cfg.e ≤ length bytes) (sym none_before) (omega (arith, fits, long)));
    }

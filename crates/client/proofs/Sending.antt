-- A message to each server: its record, the records one after the other, and the message that a phase begins with. Assumes nothing.
use mathlib.Core.Path.{◌≡◌, refl, sym, ap, ap₂, ◌∙◌, fun_ext}
use mathlib.Core.Bool.{Bool, true, false, cond, true≢false}
use mathlib.Core.Option.{none, some}
use mathlib.Core.List.{List, [], ◌∷◌, ◌++◌, append-nil, append_assoc}
use Prim.Native.Nat.{ℕ, suc, ◌+◌, ◌-◌, ◌*◌, ◌≤◌}
use native.Mathlib.Omega.{arith}
use borrow.Author.Tests.{eq-eqb, le-leb}
use lib.ListN.{length, take, drop, length-append, length-drop}
use Rattle.laws.specs.Parts.{over}
use Rattle.laws.proofs.Bools.{and_left}
use Rattle.laws.proofs.Parts.{over_lent, over_there}
use Rattle.config.specs.declared.Config.{Config}
use Rattle.config.specs.declared.Server.{Server}
use Rattle.config.specs.Refusal.{Verdict}
use Rattle.config.specs.Config.{board_length}
use Rattle.config.specs.Number.{client_number, server_number}
use Rattle.config.specs.Questions.{within}
use Rattle.tag.specs.declared.Tag.{Tag}
use Rattle.tag.specs.Tag.{allowed, start}
use Rattle.code.specs.Element.{element}
use Rattle.code.specs.Encode.{EncodePost}
use Rattle.code.proofs.Around.{encodes_over}
use Rattle.code.proofs.Decoding.{length_element}
use Rattle.record.specs.declared.Header.{Header}
use Rattle.record.specs.declared.Kind.{Kind}
use Rattle.record.specs.declared.Kind.TheVariants.{PreWrite, Query, ReadFinalise, WriteFinalise}
use Rattle.record.specs.Calls.{WritePost, is_header, is_sound, limits, with_element}
use Rattle.record.specs.Element.{element_with}
use Rattle.record.specs.Record.{all, element_in, highest_number, kind_number, length_fits, own_tag, presence, query_tag, record_of}
use Rattle.record.proofs.Callers.{was_written}
use Rattle.record.proofs.Written.{is-header, of-config}
use Rattle.protocol.specs.Boards.{BoardMessage}
use Rattle.protocol.specs.Number.{to_each}
use Rattle.client.specs.declared.Phase.{Phase}
use Rattle.client.specs.declared.Phase.TheVariants.{Idle, Asking, PreWriting, FinalisingWrite, FinalisingRead, Down}
use Rattle.client.specs.declared.State.{State}
use Rattle.client.specs.declared.send.Broadcast.{Broadcast}
use Rattle.client.specs.Quorum.{OwnTag}
use Rattle.client.specs.Send.{records_of}
use Rattle.client.specs.Servers.{within_servers}
use Rattle.client.specs.State.{phase_within, tag_within}
use Rattle.client.specs.inner.Send.{AnnouncePre, Opens, Sendable, ToEachPre, ToOnePre, addressed, broadcast, broadcast_of, filled, message_to, opening_of, with_element_of}
use Rattle.client.proofs.Fronts.{over_front}
use Rattle.client.proofs.Phases.{phase_in, self_in, tag_in}

-- ---- one record

-- the header of a message to a server
abbrev pub header_to : Broadcast → Server → Header
header_to b server =
    record {
      kind = b.kind;
      client = b.me;
      server = server;
      operation = b.operation;
      tag = b.tag;
      present = b.element;
      length = b.length;
    }

module _ (cfg : Config) (b : Broadcast) (ok : Sendable cfg b) (server : Server) (is : within 1 cfg.n (server_number server) ≡ true) (buffer : List ℕ)
    (long : length buffer ≡ 80) (o : b.operation ≤ highest_number) (n : b.tag.number ≤ highest_number) where
  in-limits : limits cfg (header_to b server) ≡ true
  in-limits = rw (ok.me, is, ok.tag)

  is-sound : is_sound (header_to b server) ≡ true
  unfolding is_sound all
  is-sound = rw (le-leb 1 b.operation ok.operation, ok.query, ok.own, ok.present)

  goes : is_header cfg (header_to b server) buffer ≡ true
  goes = is-header cfg (header_to b server) buffer long ok.valid.e_high o n in-limits is-sound ok.fits

  -- what writing it leaves
  pub written : (after : List ℕ) (r : Verdict) → WritePost cfg (header_to b server) buffer after r
      → after ≡ record_of cfg (addressed cfg b (server_number server) buffer)
  unfolding with_element
  written after r post = (was_written cfg (header_to b server) buffer ok.valid long (of-config cfg (header_to b server) buffer goes) ok.fits after r post).1

-- ---- the element in its record

-- nothing to encode
pub none_filled : (cfg : Config) (each : Bool) (s : ℕ) (board buffer : List ℕ) → each ≡ false → buffer ≡ filled cfg each s board buffer
none_filled cfg each s board buffer h = sym (ap (λ (b : Bool). filled cfg b s board buffer) h)

module _ (cfg : Config) (b : Broadcast) (s : ℕ) (board buffer : List ℕ) (ok : ToOnePre cfg b s board buffer) where
  room : 16 + cfg.e ≤ length buffer
  room = omega (arith, ok.room, ok.goes.valid.e_high)

  lent : 16 + cfg.e - 16 ≡ cfg.e
  lent = omega arith

  -- encoded at 16, as the code puts back what it lends
  pub encoded : b.element ≡ true → (part : List ℕ) (r : Verdict) → EncodePost cfg board s (take (16 + cfg.e - 16) (drop 16 buffer)) part r
      → take 16 buffer ++ (part ++ drop (16 + cfg.e - 16) (drop 16 buffer)) ≡ filled cfg b.element s board buffer
  encoded has part r post =
      encodes_over cfg board s 16 (16 + cfg.e - 16) buffer part r (omega (arith, room)) post ok.goes.valid (ok.board-length has) lent ok.low ok.high
      ∙ ap (λ (n : ℕ). over 16 n (element cfg board s) buffer) lent
      ∙ sym (ap (λ (each : Bool). filled cfg each s board buffer) has)

  -- the message is then that to server s
  pub filled_message : addressed cfg b s (filled cfg b.element s board buffer) ≡ message_to cfg b board s
  filled_message = go b.element
    where
      go : (each : Bool)
          → with_element_of b s (cond each (some (element_with b.length (element_in cfg (filled cfg each s board buffer)))) none)
          ≡ with_element_of b s (cond each (some (element_with b.length (element cfg board s))) none)
      go true =
          ap (λ (e : List ℕ). with_element_of b s (some (element_with b.length e)))
          (over_there 16 cfg.e (element cfg board s) buffer (length_element cfg board s) room)
      go false = refl

-- ---- one record more

records_more : (cfg : Config) (ms : List BoardMessage) (m : BoardMessage) → records_of cfg (ms ++ m ∷ []) ≡ records_of cfg ms ++ record_of cfg m
unfolding records_of
records_more cfg [] m = append-nil (record_of cfg m)
records_more cfg (x ∷ ms) m =
    ap (λ (r : List ℕ). record_of cfg x ++ r) (records_more cfg ms m) ∙ sym (append_assoc (record_of cfg x) (records_of cfg ms) (record_of cfg m))

module _ (cfg : Config) (f : ℕ → BoardMessage) (i : ℕ) (sends₀ sends part : List ℕ)
    (sofar : sends ≡ records_of cfg (to_each i f) ++ drop (80 * i) sends₀) (same : length sends ≡ length sends₀) (room : 80 * i + 80 ≤ length sends₀)
    {next : ℕ} (is : next ≡ suc i) (one : part ≡ record_of cfg (f next)) where
  abbrev sent : List ℕ
  sent = records_of cfg (to_each i f)

  sent_long : length sent ≡ 80 * i
  sent_long = omega (arith, ap length sofar, length-append sent (drop (80 * i) sends₀), length-drop (80 * i) sends₀)

  pub sent_more : take (80 * i) sends ++ (part ++ drop (80 * i + 80 - 80 * i) (drop (80 * i) sends))
      ≡ records_of cfg (to_each (suc i) f) ++ drop (80 * suc i) sends₀
  unfolding to_each
  sent_more =
      let end : 80 * i + 80 ≡ 80 * suc i = omega arith in
      over_lent (80 * i) 80 part sends
      ∙ ap₂ (over (80 * i) 80) (one ∙ ap (λ (s : ℕ). record_of cfg (f s)) is) sofar
      ∙ over_front sent sends₀ (80 * i) sent_long 80 (record_of cfg (f (suc i)))
      ∙ ap₂ (λ (l : List ℕ) (n : ℕ). l ++ drop n sends₀) (sym (records_more cfg (to_each i f) (f (suc i)))) end

-- ---- the message of a phase

-- one with an element has the length of the board kept
pub its_length : (x : State) (p : Phase) → (opening_of x p).element ≡ true → (opening_of x p).length ≡ x.length
unfolding opening_of
its_length x Idle e = absurd (true≢false (sym e))
its_length x (Asking writes best counted) e = absurd (true≢false (sym e))
its_length x (PreWriting tag counted) e = refl
its_length x (FinalisingWrite tag counted) e = absurd (true≢false (sym e))
its_length x (FinalisingRead tag counted sent) e = absurd (true≢false (sym e))
its_length x Down e = absurd (true≢false (sym e))

module _ (cfg : Config) (x : State) (board sends : List ℕ) (ok : AnnouncePre cfg x board sends) where
  message : (kind : Kind) (t : Tag) (e : Bool) (n : ℕ) → allowed cfg.c t ≡ true → query_tag (kind_number kind) t ≡ true
      → own_tag (kind_number kind) (client_number x.me) t ≡ true → presence (kind_number kind) e ≡ true → length_fits cfg e n ≡ true
      → Sendable cfg (broadcast_of x kind t e n)
  message kind t e n tag query own present fits =
      record {
        valid = ok.valid;
        me = self_in cfg x ok.within;
        operation = ok.operation;
        tag = tag;
        query = query;
        own = own;
        present = present;
        fits = fits;
      }

  goes_out : (p : Phase) → phase_within cfg p ≡ true → OwnTag x.me p → Opens cfg p x.length board → Sendable cfg (opening_of x p)
  unfolding phase_within opening_of
  goes_out Idle w own opens = message Query start false 0 refl refl refl refl refl
  goes_out (Asking writes best counted) w own opens = message Query start false 0 refl refl refl refl refl
  goes_out (PreWriting tag counted) w own opens = message PreWrite tag true x.length (tag_in cfg tag counted w) refl (eq-eqb tag.client (client_number x.me) own) refl
      (le-leb x.length (board_length cfg) opens.1)
  goes_out (FinalisingWrite tag counted) w own opens =
      message WriteFinalise tag false 0 (tag_in cfg tag counted w) refl (eq-eqb tag.client (client_number x.me) own) refl refl
  goes_out (FinalisingRead tag counted sent) w own opens =
      message ReadFinalise tag false 0 (tag_in cfg tag counted (and_left (tag_within cfg tag counted) (within_servers cfg.n sent) w)) refl refl refl refl
  goes_out Down w own opens = message Query start false 0 refl refl refl refl refl

  needs_board : (p : Phase) → Opens cfg p x.length board → (opening_of x p).element ≡ true → length board ≡ board_length cfg
  unfolding opening_of
  needs_board Idle opens e = absurd (true≢false (sym e))
  needs_board (Asking writes best counted) opens e = absurd (true≢false (sym e))
  needs_board (PreWriting tag counted) opens e = opens.0
  needs_board (FinalisingWrite tag counted) opens e = absurd (true≢false (sym e))
  needs_board (FinalisingRead tag counted sent) opens e = absurd (true≢false (sym e))
  needs_board Down opens e = absurd (true≢false (sym e))

  -- with the board, or with any other of its length
  pub sends_each : (other : List ℕ) → ((opening_of x x.phase).element ≡ true → length other ≡ length board) → ToEachPre cfg (opening_of x x.phase) other sends
  sends_each other same =
      record {
        goes = goes_out x.phase (phase_in cfg x ok.within) ok.own ok.opens;
        board-length = λ e. same e ∙ needs_board x.phase ok.opens e;
        room = ok.room;
      }

  pub whole : (opening_of x x.phase).element ≡ true → length board ≡ board_length cfg
  whole = needs_board x.phase ok.opens

  -- without an element the board is not looked at
  pub unlooked : (b : Broadcast) (other : List ℕ) → b.element ≡ false → broadcast cfg b board ≡ broadcast cfg b other
  unlooked b other e = ap (to_each cfg.n) (fun_ext (λ s. rw e))

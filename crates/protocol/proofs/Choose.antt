-- Asking ends: a read takes the best tag, a write the next above it.
use Prim.Native.Nat.{ℕ, ◌+◌, ◌≤◌}
use mathlib.Core.Path.{◌≡◌, refl, sym, ◌∙◌}
use mathlib.Core.Bool.{Bool, true, false≢true}
use mathlib.Core.Logic.{◌⊎◌, inl, inr, ⊎_elim}
use mathlib.Core.Option.{Option, none, some}
use mathlib.Core.List.{List, ◌++◌}
use native.Mathlib.Nat.{le_refl}
use native.Mathlib.Omega.{arith}
use Rattle.tag.specs.declared.Tag.{Tag}
use Rattle.record.specs.declared.Kind.TheVariants.{PreWrite, ReadFinalise}
use Rattle.record.specs.Message.{Message}
use Rattle.protocol.specs.Number.{upd, nothing_yet}
use Rattle.protocol.specs.Client.{Moved, enough, next_tag, send_read_finalises, send_pre_writes}
use Rattle.protocol.specs.Parties.{Parties, with_client}
use Rattle.protocol.proofs.Basics.{upd_elim, upd_same, upd_other, none≢some, some-injective}
use Rattle.protocol.proofs.World.{Setting, Ghost, know, Known, Current, Asking, Good}
use Rattle.protocol.proofs.Monotone.{Below, known_up}
use Rattle.protocol.proofs.LogChose.{chose, Choice}
use Rattle.protocol.proofs.Send.{sent_good}
use Rattle.protocol.proofs.EndOfAsking.{best_above, next_above, next_new}
use Rattle.protocol.proofs.ClientChange.{taken_up, client_chose}

module _ (S : Setting) where
  open S use {Value, Element, cfg, key, encode, IsBoard}

  module _ {ps : Parties Value Element} {ms : List (Message Element)} {g : Ghost S} {now : ℕ} (a : Good S ps ms g now) (c : ℕ) (best : Tag) (cs : ℕ → Bool) (q : enough cfg cs ≡ true) where
    abbrev o : ℕ
    o = (ps.clients c).operation

    -- client c has the tag that it took
    current_taken : (board : Option Value) (t : Tag) (bytes : ℕ → Option Value) → Current S g c board none → Current S (chose S g (g.latest c) t bytes) c board (some t)
    current_taken board t bytes before =
        record {
          begun = before.begun;
          chosen = upd_same g.chosen (g.latest c) (some t);
          ending = before.ending;
          low = before.low;
          high = before.high;
        }

    -- a read takes the best tag
    module _ (asks : Asking S (know S ps g) g c none best cs) where
      abbrev reads : Moved Value Element
      reads = send_read_finalises cfg c o best

      abbrev pub after_read : Ghost S
      after_read = chose S g (g.latest c) best g.bytes

      read_up : Below S (know S ps g) (know S (with_client ps c reads.client) after_read)
      unfolding send_read_finalises
      read_up = taken_up S a c reads.client best g.bytes refl (λ n v e. e)

      read_number : o ≤ (know S (with_client ps c reads.client) after_read).number c
      unfolding send_read_finalises know with_client
      read_number = rw (upd_same ps.clients c reads.client) (le_refl _)

      pub read_chose : Good S (with_client ps c reads.client) (ms ++ reads.sends) after_read (now + 1)
      unfolding send_read_finalises know with_client
      read_chose =
          client_chose S a c reads.client best g.bytes refl (λ n v e. e) reads.sends
          (record {
            begun = asks.current.begun;
            unchosen = asks.current.chosen;
            unended = asks.current.ending;
            known = known_up S read_up asks.known;
            boards = λ n v e. inl e;
            above = best_above S asks q a.log;
            client = λ v e. absurd (none≢some e);
            bytes = λ v e. absurd (none≢some e);
            above_start = λ v e. absurd (none≢some e);
            fresh = λ v e. absurd (none≢some e);
            above_write = λ v e. absurd (none≢some e);
          })
          (sent_good S ReadFinalise c o best nothing_yet (λ h. omega arith, λ h. omega arith, λ h. omega arith) read_number (known_up S read_up asks.known) (λ s x e. absurd (none≢some e)))
          (record {
            current = current_taken none best g.bytes asks.current;
            answers = λ s e. absurd (false≢true e);
            known = known_up S read_up asks.known;
            elements = λ s x e. absurd (none≢some e);
          })

    -- a write takes the next tag
    module _ (board : Value) (asks : Asking S (know S ps g) g c (some board) best cs) where
      abbrev t : Tag
      t = next_tag best c

      abbrev writes : Moved Value Element
      writes = send_pre_writes encode cfg c o board t

      abbrev bytes : ℕ → Option Value
      bytes = upd g.bytes (key t) (some board)

      abbrev pub after_write : Ghost S
      after_write = chose S g (g.latest c) t bytes

      -- no board has that tag
      new : (n : ℕ) (v : Value) → g.bytes n ≡ some v → n ≡ key t → ⊥
      unfolding know
      new n v e h =
          ⊎_elim (λ i. omega (arith, next_above S asks q a.log, asks.start, i, h))
          (λ i. next_new S asks q a.log i.0 v i.1 i.2 (i.3 ∙ h))
          (a.log.source n v e)

      grows : (n : ℕ) (v : Value) → g.bytes n ≡ some v → bytes n ≡ some v
      grows n v e = upd_other g.bytes (key t) (some board) n (new n v e) ∙ e

      write_up : Below S (know S ps g) (know S (with_client ps c writes.client) after_write)
      unfolding send_pre_writes
      write_up = taken_up S a c writes.client t bytes refl grows

      write_known : Known S (know S (with_client ps c writes.client) after_write) t
      unfolding know next_tag
      write_known =
          record { board = board; is = upd_same g.bytes (key t) (some board); within = asks.current.high }

      write_number : o ≤ (know S (with_client ps c writes.client) after_write).number c
      unfolding send_pre_writes know with_client
      write_number = rw (upd_same ps.clients c writes.client) (le_refl _)

      choice : Choice S (know S ps g) (know S (with_client ps c writes.client) after_write) g (g.latest c) c (some board) t
      unfolding know
      choice =
          record {
            begun = asks.current.begun;
            unchosen = asks.current.chosen;
            unended = asks.current.ending;
            known = write_known;
            boards = λ n v.
                upd_elim (λ (x : Option Value). x ≡ some v → (g.bytes n ≡ some v) ⊎ ((key t ≡ n) × (some board ≡ some v) × IsBoard v)) g.bytes (key t) (some board) n
                (λ e f. inr (sym e, f, asks.is_board v f))
                (λ e f. inl f);
            above = λ p x u e f h. omega (arith, best_above S asks q a.log p x u e f h, next_above S asks q a.log);
            client = λ v e. unfold next_tag in refl;
            bytes = λ v e. upd_same g.bytes (key t) (some board) ∙ e;
            above_start = λ v e. omega (arith, asks.start, next_above S asks q a.log);
            fresh = λ v e. next_new S asks q a.log;
            above_write = λ v e p x u h i j. omega (arith, best_above S asks q a.log p x u h i j, next_above S asks q a.log);
          }

      pub write_chose : Good S (with_client ps c writes.client) (ms ++ writes.sends) after_write (now + 1)
      unfolding send_pre_writes write_known
      write_chose =
          client_chose S a c writes.client t bytes refl grows writes.sends choice
          (sent_good S PreWrite c o t (λ s. some (encode board s)) (λ h. omega arith, λ h. omega arith, λ h. omega arith) write_number write_known (λ s x e. sym (some-injective e)))
          (record { board = board; current = current_taken (some board) t bytes asks.current })

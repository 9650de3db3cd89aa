-- Knowledge only grows, and what is good stays good.
use Prim.Native.Nat.{ℕ, ◌≤◌, ◌<◌}
use mathlib.Core.Path.{◌≡◌, refl, ◌∙◌}
use mathlib.Core.Option.{Option, some}
use native.Mathlib.Omega.{arith}
use Rattle.tag.specs.declared.Tag.{Tag}
use Rattle.record.specs.Message.{Message}
use Rattle.protocol.specs.Server.{Server, Stored}
use Rattle.protocol.specs.Client.{Phase, idle, asking, pre_writing, finalising_write, finalising_read, down}
use Rattle.protocol.specs.Board.{Answer, refused, nothing_ended, written_by, spent_by, read_by}
use Rattle.protocol.proofs.Quorum.{Quorum, quorum_map}
use Rattle.protocol.proofs.World.{Setting, Ghost, Knowledge, Known, GoodMessage, GoodStored, GoodServer, Current, GoodPhase, How}

module _ (S : Setting) where
  open S use {Value, Element, cfg, key, encode}

  -- highest tags and operation numbers rise, a base stays while the number does, boards only come
  pub record Below (k k' : Knowledge S) : Type 0 where
    pub high : (s : ℕ) → k.high s ≤ k'.high s
    pub number : (c : ℕ) → k.number c ≤ k'.number c
    pub base : (c : ℕ) → k.number c ≡ k'.number c → (s : ℕ) → k'.base c s ≡ k.base c s
    pub bytes : (n : ℕ) (v : Value) → k.bytes n ≡ some v → k'.bytes n ≡ some v

  -- what a change of the record leaves to client c: its latest operation, and what ended before that began
  pub record Keeps (g g' : Ghost S) (c : ℕ) : Type 0 where
    pub latest : g'.latest c ≡ g.latest c
    pub current : (board : Option Value) → g.begun (g.latest c) ≡ some (c, board) → (g'.begun (g.latest c) ≡ g.begun (g.latest c)) × (g'.chosen (g.latest c) ≡ g.chosen (g.latest c)) × (g'.ending (g.latest c) ≡ g.ending (g.latest c))
    pub earlier : (p : ℕ) (x : ℕ × Answer Value) (t : Tag) → g'.ending p ≡ some x → g'.chosen p ≡ some t → x.0 < g.latest c → (g.ending p ≡ some x) × (g.chosen p ≡ some t)
    pub begun : (p : ℕ) (board : Option Value) → g'.begun p ≡ some (c, board) → g.begun p ≡ some (c, board)
    pub ending : (p : ℕ) (x : ℕ × Answer Value) → g.ending p ≡ some x → g'.ending p ≡ some x

  -- how an operation ended stays so, while it has the tag that it had and boards only come
  pub how_kept : (g g' : Ghost S) (p : ℕ) → g'.chosen p ≡ g.chosen p → ((n : ℕ) (v : Value) → g.bytes n ≡ some v → g'.bytes n ≡ some v)
      → (b : Option Value) (answer : Answer Value) → How S g p b answer → How S g' p b answer
  how_kept g g' p same grows b (refused n) h = h
  how_kept g g' p same grows b nothing_ended h = h
  how_kept g g' p same grows b (written_by d u) h = (same ∙ h.0, h.1)
  how_kept g g' p same grows b (spent_by d) h = same ∙ h
  how_kept g g' p same grows b (read_by d u v) h = (same ∙ h.0, h.1, grows (key u) v h.2)

  pub keeps_refl : (g : Ghost S) (c : ℕ) → Keeps g g c
  keeps_refl g c =
      record {
        latest = refl;
        current = λ b e. (refl, refl, refl);
        earlier = λ p x t e f h. (e, f);
        begun = λ p b e. e;
        ending = λ p x e. e;
      }

  module _ {k k' : Knowledge S} (up : Below k k') where
    abbrev pub known_up : {t : Tag} → Known S k t → Known S k' t
    known_up {t} a = record { board = a.board; is = up.bytes (key t) a.board a.is; within = a.within }

    pub message_up : {m : Message Element} → GoodMessage S k m → GoodMessage S k' m
    message_up {m} a =
        record {
          begun = omega (arith, a.begun, up.number m.client);
          known = known_up a.known;
          element = a.element;
          query = λ kind o.
              let same : k.number m.client ≡ k'.number m.client = omega (arith, a.begun, up.number m.client) in
              omega (arith, a.query kind (omega arith), up.base m.client same m.server);
          write_finalised = λ kind. omega (arith, a.write_finalised kind, up.high m.server);
          read_finalised = λ kind. omega (arith, a.read_finalised kind, up.high m.server);
        }

    pub stored_up : {s : ℕ} {x : Stored Element} → GoodStored S k s x → GoodStored S k' s x
    stored_up {s} {x} a =
        record { board = a.board; is = up.bytes (key x.tag) a.board a.is; element = a.element }

    pub server-up : {s : ℕ} {v : Server Element} → GoodServer S k s v → GoodServer S k' s v
    server-up a = record { known = known_up a.known; stored = λ x i. stored_up (a.stored x i) }

    pub high_up : (n : ℕ) → Quorum cfg (λ s. n ≤ k.high s) → Quorum cfg (λ s. n ≤ k'.high s)
    high_up n = quorum_map {P = λ s. n ≤ k.high s} {Q = λ s. n ≤ k'.high s} (λ s h. omega (arith, h, up.high s))

    module _ {g g' : Ghost S} {c : ℕ} (keeps : Keeps g g' c) where
      current_up : {b : Option Value} {t : Option Tag} → Current S g c b t → Current S g' c b t
      current_up {b} {t} a =
          let same = keeps.current b a.begun in
          record {
            begun = rw keeps.latest (same.0 ∙ a.begun);
            chosen = rw keeps.latest (same.1 ∙ a.chosen);
            ending = rw keeps.latest (same.2 ∙ a.ending);
            low = a.low;
            high = a.high;
          }

      pub phase_up : k.number c ≡ k'.number c → (ph : Phase Value Element) → GoodPhase S k g c ph → GoodPhase S k' g' c ph
      phase_up o idle a =
          record {
            closed = λ p b e.
                let x = a.closed p b (keeps.begun p b e) in
                (x.0, keeps.ending p x.0 x.1);
          }
      phase_up o (asking b t cs) a =
          record {
            current = current_up a.current;
            is_board = a.is_board;
            known = known_up a.known;
            start = a.start;
            answers = λ s e. omega (arith, a.answers s e, up.base c o s);
            earlier = λ p x u e f h.
                let old : x.0 < g.latest c = omega (arith, keeps.latest, h) in
                let same = keeps.earlier p x u e f old in
                quorum_map {P = λ s. key u ≤ k.base c s} {Q = λ s. key u ≤ k'.base c s} (λ s l. omega (arith, l, up.base c o s))
                (a.earlier p x u same.0 same.1 old);
          }
      phase_up o (pre_writing t cs) a = record { board = a.board; current = current_up a.current }
      phase_up o (finalising_write t cs) a =
          record {
            board = a.board;
            current = current_up a.current;
            answers = λ s e. omega (arith, a.answers s e, up.high s);
          }
      phase_up o (finalising_read t cs es) a =
          record {
            current = current_up a.current;
            answers = λ s e. omega (arith, a.answers s e, up.high s);
            known = known_up a.known;
            elements = a.elements;
          }
      phase_up o down a = tt

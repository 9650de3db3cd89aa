-- A server's answers: they are messages of the configuration, and what a read finalise answers. Assumes nothing.
use Rattle.std.proofs.Common.{◌≡◌, ℕ, ◌-◌, ◌≤◌, true, false, leb, List, ◌++◌, length, take, drop, sym, refl, ap, ◌∙◌, subst, arith}
use mathlib.Core.Option.{Option, none, some}
use Rattle.laws.specs.Parts.{over}
use Rattle.laws.proofs.Parts.{over_copied_rest, over_length, over_there}
use Rattle.config.specs.declared.Config.{Config}
use Rattle.config.specs.declared.Server.{Server as ServerNumber}
use Rattle.config.specs.Config.{Valid}
use Rattle.config.specs.Number.{client_number, server_number}
use Rattle.config.specs.Questions.{within}
use Rattle.tag.specs.declared.Tag.{Tag}
use Rattle.tag.specs.Tag.{allowed, key}
use Rattle.record.specs.declared.Header.{Header}
use Rattle.record.specs.declared.Kind.{Kind}
use Rattle.record.specs.declared.Kind.TheVariants.{Cleared, ReadFinaliseAnswer}
use Rattle.record.specs.Element.{Element}
use Rattle.record.specs.Record.{all, highest_number, is_present, kind_number, message_clauses, of_config, own_tag, presence, query_tag, record_of, sized}
use Rattle.protocol.specs.Server.{answer_to, at_or_below_floor, element_of, read_answer}
use Rattle.server.specs.declared.serve.Reply.{Reply}
use Rattle.server.specs.declared.State.{State}
use Rattle.server.specs.declared.Stepped.{Stepped}
use Rattle.server.specs.inner.Serve.{ReadFinalisePost, ReadFinalisePre, RespondPost, RespondPre, bare_of, raised, read_answered, reply, reply_of}
use Rattle.server.specs.View.{floor_of, view}
use Rattle.server.proofs.Limits.{state_me}

pub reply_of_config : (cfg : Config) (me : ServerNumber) (h : Header) (kind : Kind) (t : Tag) (o : Option Element)
    → within 1 highest_number h.operation ≡ true → leb t.number highest_number ≡ true → sized cfg o ≡ true
    → query_tag (kind_number kind) t ≡ true → own_tag (kind_number kind) (client_number h.client) t ≡ true
    → presence (kind_number kind) (is_present o) ≡ true → within 1 cfg.c (client_number h.client) ≡ true
    → within 1 cfg.n (server_number me) ≡ true → allowed cfg.c t ≡ true → of_config cfg (reply me h kind t o) ≡ true
unfolding of_config message_clauses all reply
reply_of_config cfg me h kind t o operation number e q own p client server tag =
    rw (operation, number, e, q, own, p, client, server, tag)

-- an answer without an element
module _ (cfg : Config) (me : ServerNumber) (h : Header) (kind : Kind) (t : Tag) (r : Reply) (is : r ≡ bare_of kind t) (bs : List ℕ) where
  pub bare_respond : Valid cfg → length bs ≡ 80 → of_config cfg (reply me h kind t none) ≡ true → RespondPre cfg r (reply_of cfg me h r bs) bs
  bare_respond v e ok =
      subst (λ (x : Reply). RespondPre cfg x (reply_of cfg me h x bs) bs) (sym is) (record { valid = v; eighty = e; of_config = ok; fits = refl })

  pub bare_post : (s : State) (after : List ℕ) (x : Stepped) → RespondPost cfg s (reply_of cfg me h r bs) after x → RespondPost cfg s (reply me h kind t none) after x
  bare_post s after x p = subst (λ (y : Reply). RespondPost cfg s (reply_of cfg me h y bs) after x) is p

-- a raised state is of the same server
pub raised_me : (cfg : Config) (s : State) (t : Tag) {r : State} → r ≡ raised cfg s t → r.me ≡ s.me
unfolding raised
raised_me cfg s t e = ap (λ (x : State). x.me) e

-- the answers to a read finalise: kind 8, with an element or without one, and kind 9
module _ (cfg : Config) (s : State) (h : Header) (store answer : List ℕ) (f : ReadFinalisePre cfg s h store answer) (me : ServerNumber) (is : me ≡ s.me) where
  within_me : within 1 cfg.n (server_number me) ≡ true
  within_me = ap (λ (x : ServerNumber). within 1 cfg.n (server_number x)) is ∙ state_me cfg s f.held.within

  pub read_reply : (o : Option Element) → sized cfg o ≡ true → of_config cfg (reply me h ReadFinaliseAnswer h.tag o) ≡ true
  read_reply o e = reply_of_config cfg me h ReadFinaliseAnswer h.tag o f.operation f.number e refl refl refl f.client within_me f.allowed

  pub cleared_reply : of_config cfg (reply me h Cleared h.tag none) ≡ true
  cleared_reply = reply_of_config cfg me h Cleared h.tag none f.operation f.number refl refl refl refl f.client within_me f.allowed

-- an element copied into the answer's bytes
module _ (e : ℕ) (high : e ≤ 64) (answer src part : List ℕ) (eighty : length answer ≡ 80) (sized-src : length src ≡ e)
    (is : part ≡ take (length src) src ++ drop (length src) (take (length answer - 16) (drop 16 answer))) where
  abbrev copied : List ℕ
  copied = take 16 answer ++ (part ++ drop (length answer - 16) (drop 16 answer))

  is_over : copied ≡ over 16 e src answer
  is_over = over_copied_rest 16 e src answer part sized-src (omega arith) is

  pub copied_long : length copied ≡ 80
  copied_long = ap length is_over ∙ over_length 16 e src answer sized-src (omega arith) ∙ eighty

  pub copied_element : take e (drop 16 copied) ≡ src
  copied_element = ap (λ (l : List ℕ). take e (drop 16 l)) is_over ∙ over_there 16 e src answer sized-src (omega arith)

-- what a read finalise leaves, by what is stored
module _ (cfg : Config) (s after : State) (h : Header) (store : List ℕ) (is : after ≡ raised cfg s h.tag) where
  replied : (kind : Kind) (o : Option Element) → read_answered s h store cfg ≡ reply s.me h kind h.tag o → (bs : List ℕ) (r : Stepped)
      → RespondPost cfg after (reply after.me h kind h.tag o) bs r → ReadFinalisePost cfg s h store bs r
  replied kind o e bs r p =
      record {
        number = p.number;
        state = p.state ∙ is;
        answer = p.answer ∙ ap (λ (x : ServerNumber). record_of cfg (reply x h kind h.tag o)) (raised_me cfg s h.tag is) ∙ ap (record_of cfg) (sym e);
      }

  pub finalised_element : (element : Element) → element_of (key cfg) h.tag (view cfg s store).stored ≡ some element → (bs : List ℕ) (r : Stepped)
      → RespondPost cfg after (reply after.me h ReadFinaliseAnswer h.tag (some element)) bs r → ReadFinalisePost cfg s h store bs r
  unfolding read_answer answer_to reply
  finalised_element element e bs r p = replied ReadFinaliseAnswer (some element) (rw e) bs r p

  module _ (missing : element_of (key cfg) h.tag (view cfg s store).stored ≡ none) where
    pub finalised_none : at_or_below_floor (key cfg) h.tag (floor_of s.floor) ≡ false → (bs : List ℕ) (r : Stepped)
        → RespondPost cfg after (reply after.me h ReadFinaliseAnswer h.tag none) bs r → ReadFinalisePost cfg s h store bs r
    unfolding read_answer answer_to reply view
    finalised_none b bs r p = replied ReadFinaliseAnswer none (rw (missing, b)) bs r p

    pub finalised_cleared : at_or_below_floor (key cfg) h.tag (floor_of s.floor) ≡ true → (bs : List ℕ) (r : Stepped)
        → RespondPost cfg after (reply after.me h Cleared h.tag none) bs r → ReadFinalisePost cfg s h store bs r
    unfolding read_answer answer_to reply view
    finalised_cleared b bs r p = replied Cleared none (rw (missing, b)) bs r p

-- The record handed to a step: ill formed, for another party, or a request. Assumes nothing.
use Rattle.std.proofs.Common.{Ok, Err, ◌≡◌, ℕ, ◌≤◌, Bool, true, false, cond, List, length, sym, refl, ap, ◌∙◌, subst, arith, eq-eqb, ne_eqb}
use Rattle.config.specs.declared.Config.{Config}
use Rattle.config.specs.declared.Refusal.{Refusal}
use Rattle.config.specs.Number.{server_number}
use Rattle.config.specs.Questions.{first_no}
use Rattle.config.specs.Refusal.{refusal_number}
use Rattle.record.specs.declared.Header.{Header}
use Rattle.record.specs.Calls.{ReadPost, Reading, with_element}
use Rattle.record.specs.Element.{Element}
use Rattle.record.specs.Kinds.{is_for_server}
use Rattle.record.specs.Message.{Message}
use Rattle.record.specs.Record.{message_of, of_config, well_formed}
use Rattle.record.proofs.Callers.{its_message, read_12, read_well_formed, was_read, was_refused}
use Rattle.laws.specs.Bytes.{Bytes}
use Rattle.record.proofs.Laws.{message_of_config}
use Rattle.record.proofs.Parties.{number_low}
use Rattle.server.specs.declared.State.{State}
use Rattle.server.specs.Calls.{for_server, step_questions}
use Rattle.server.specs.inner.Receive.{ReceivePost}
use Rattle.server.specs.inner.Serve.{RequestPre, request_number}
use Rattle.server.proofs.Asked.{Holds, passed_valid, step_later}

-- a number of a refusal is no 0
refused_by : (b : Bool) (n : ℕ) → 1 ≤ n → n ≡ cond b 0 12 → b ≡ false
refused_by true n low e = absurd (omega arith)
refused_by false n low e = refl

module _ (cfg : Config) (s : State) (handed : List ℕ) (store answer : ℕ) (held : Holds cfg s store) (eighty : length handed ≡ 80)
    (answer_eighty : answer ≡ 80) (r : Reading) (post : ReadPost cfg handed r) where
  abbrev number : ℕ
  number = first_no (step_questions cfg s handed store answer)

  later : number ≡ cond (well_formed cfg handed) (cond (for_server (server_number s.me) (message_of cfg handed)) 0 16) 12
  later = step_later cfg s handed store answer held eighty answer_eighty

  pub step_ill : (why : Refusal) → r ≡ Err why → 12 ≡ number
  step_ill why e =
      let w : well_formed cfg handed ≡ false =
      refused_by (well_formed cfg handed) (refusal_number why) (number_low why) (was_refused cfg handed r post why e ∙ read_12 cfg handed held.0 eighty) in
      sym (later ∙ rw w)

  module _ (h : Header) (e : r ≡ Ok h) where
    well : well_formed cfg handed ≡ true
    well = read_well_formed cfg handed held.0 eighty (was_read cfg handed r post h e)

    its : with_element cfg h handed ≡ message_of cfg handed
    its = its_message cfg handed r post h e

    server_is : (message_of cfg handed).server ≡ server_number h.server
    unfolding with_element
    server_is = ap (λ (m : Message Element). m.server) (sym its)

    pub step_elsewhere : (server_number h.server ≡ server_number s.me → ⊥) → 16 ≡ number
    step_elsewhere ne = sym (later ∙ rw (well, ne_eqb (message_of cfg handed).server (server_number s.me) (λ z. ne (sym server_is ∙ z))))

    pub step_here : server_number h.server ≡ server_number s.me → ReceivePost cfg s handed store answer (Ok h)
    step_here is = (
      record { valid = held.0; within = held.1; long = held.2; eighty = eighty; answer_eighty = answer_eighty; well-formed = well },
      its,
      ap (λ (m : Message Element). request_number m) its
          ∙ sym (later ∙ rw (well, eq-eqb (message_of cfg handed).server (server_number s.me) (server_is ∙ is))),
    )

-- 16 is left, as to the kind
pub kind_asked : (cfg : Config) (s : State) (handed : List ℕ) (store answer : ℕ) (h : Header) → ReceivePost cfg s handed store answer (Ok h)
    → (b : Bool) → is_for_server h.kind ≡ b → cond b 0 16 ≡ first_no (step_questions cfg s handed store answer)
unfolding with_element
kind_asked cfg s handed store answer h told b e = ap (λ (x : Bool). cond x 0 16) (sym e) ∙ told.2

-- what was received is a request
pub step_request : (cfg : Config) (s : State) (handed store answer : List ℕ) (h : Header)
    → ReceivePost cfg s handed (length store) (length answer) (Ok h) → Bytes handed → RequestPre cfg s h handed store answer
step_request cfg s handed store answer h told bytes =
    let p = told.0 in
    record {
      held = passed_valid p;
      eighty = p.eighty;
      answer_eighty = p.answer_eighty;
      of_config =
          subst (λ (m : Message Element). of_config cfg m ≡ true) (sym told.1) (message_of_config cfg p.valid.e_high handed bytes p.well-formed);
    }

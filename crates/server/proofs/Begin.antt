-- A fresh server: refused, or made. Assumes nothing.
use Rattle.std.proofs.Common.{◌≡◌, ℕ, Bool, true, false, cond, ◌&&◌, eqb, List, [], ◌∷◌, ◌++◌, length, take, drop, sym, ap, ◌∙◌, arith, eq-eqb, ne_eqb}
use lib.Seq.{take-length}
use Rattle.config.specs.declared.Config.{Config}
use Rattle.config.specs.declared.Refusal.{Refusal}
use Rattle.config.specs.declared.Server.{Server as ServerNumber}
use Rattle.config.specs.Config.{board_length, questions, store_length}
use Rattle.config.specs.Number.{server_number}
use Rattle.config.specs.Questions.{ask, first_no, within}
use Rattle.config.specs.Refusal.{refusal_number, verdict_number}
use Rattle.config.proofs.Refusals.{refusal_low}
use Rattle.server.specs.declared.State.{State}
use Rattle.server.specs.declared.Stepped.{Stepped}
use Rattle.server.specs.Calls.{FreshPost, fresh_questions, fresh_state}
use Rattle.server.specs.inner.Serve.{unchanged}
use Rattle.server.proofs.Asked.{six}

module _ (cfg : Config) (me : ServerNumber) (element before : List ℕ) where
  pub not_fresh : (s : State) → s ≡ fresh_state me 0 → (r : Stepped) (why : Refusal) → r ≡ unchanged s why → refusal_number why ≡ first_no (fresh_questions cfg me element before)
      → FreshPost cfg me element before before r
  not_fresh s first r why is v =
      let some_number : eqb (first_no (fresh_questions cfg me element before)) 0 ≡ false =
      ne_eqb (first_no (fresh_questions cfg me element before)) 0 (λ z. omega (arith, refusal_low why)) in
      record {
        number = ap (λ (x : Stepped). verdict_number x.verdict) is ∙ v;
        state = ap (λ (x : Stepped). x.state) is ∙ first ∙ ap (λ (b : Bool). fresh_state me (cond b (board_length cfg) 0)) (sym some_number);
        store = rw some_number;
      }

  -- both lengths are right
  abbrev sizes : Bool
  sizes = eqb (length element) cfg.e && eqb (length before) (store_length cfg)

  -- the number is a server's
  abbrev exists : Bool
  exists = within 1 cfg.n (server_number me)

  module _ (passed : first_no (questions cfg) ≡ 0) where
    by_six : first_no (fresh_questions cfg me element before) ≡ cond sizes (cond exists 0 8) 6
    unfolding fresh_questions first_no
    by_six = six cfg sizes (ask 8 exists ∷ []) passed

    pub fresh_element : (length element ≡ cfg.e → ⊥) → first_no (fresh_questions cfg me element before) ≡ 6
    fresh_element h = by_six ∙ rw (ne_eqb (length element) cfg.e h)

    module _ (sized : length element ≡ cfg.e) where
      pub fresh_store : (length before ≡ store_length cfg → ⊥) → first_no (fresh_questions cfg me element before) ≡ 6
      fresh_store h = by_six ∙ rw (eq-eqb (length element) cfg.e sized, ne_eqb (length before) (store_length cfg) h)

      module _ (long : length before ≡ store_length cfg) where
        pub fresh_number : within 1 cfg.n (server_number me) ≡ false → first_no (fresh_questions cfg me element before) ≡ 8
        fresh_number h = by_six ∙ rw (eq-eqb (length element) cfg.e sized, eq-eqb (length before) (store_length cfg) long, h)

        pub made_fresh : within 1 cfg.n (server_number me) ≡ true → (after : List ℕ) (r : Stepped)
            → after ≡ take (length element) element ++ drop (length element) before → verdict_number r.verdict ≡ 0 → r.state ≡ fresh_state me (board_length cfg)
            → FreshPost cfg me element before after r
        made_fresh h after r e v s =
            let none : first_no (fresh_questions cfg me element before) ≡ 0 =
            by_six ∙ rw (eq-eqb (length element) cfg.e sized, eq-eqb (length before) (store_length cfg) long, h) in
            let yes : eqb (first_no (fresh_questions cfg me element before)) 0 ≡ true = eq-eqb (first_no (fresh_questions cfg me element before)) 0 none in
            record {
              number = v ∙ sym none;
              state = s ∙ ap (λ (b : Bool). fresh_state me (cond b (board_length cfg) 0)) (sym yes);
              store =
                  e ∙ ap (λ (l : List ℕ). l ++ drop (length element) before) (take-length element)
                  ∙ ap (λ (n : ℕ). element ++ drop n before) sized
                  ∙ rw yes;
            }

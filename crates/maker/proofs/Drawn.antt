-- The draws that the code takes are those of the definition, by the code drawn: a write's, a read's, those of an event of a message. Assumes
-- nothing.
use Prim.Native.Nat.{ℕ, ◌%◌}
use mathlib.Core.Path.{◌≡◌, sym, ap, ◌∙◌}
use borrow.Author.Tests.{eq-eqb, ne_eqb}
use Rattle.events.specs.declared.Call.{Call}
use Rattle.draws.specs.declared.Next.{Next}
use Rattle.draws.specs.Draws.{after, draw}
use Rattle.maker.specs.Load.{code_by, drawn, party_by, position_by}

abbrev call_with : ℕ → ℕ → ℕ → ℕ → Call
call_with code party position length = record { code = code; party = party; position = position; length = length }

module _ (g n : ℕ) {first second : Next} (e : first ≡ after (draw g)) (f : second ≡ after (draw first.generator.0)) where
  one : code_by first.draw ≡ code_by (draw g)
  one = ap (λ (x : Next). code_by x.draw) e

  two : second ≡ after (draw (draw g))
  two = f ∙ ap (λ (x : Next). after (draw x.generator.0)) e

  pub writes : {third : Next} → third ≡ after (draw second.generator.0) → code_by first.draw ≡ 1
      → {call : Call} → call ≡ call_with 1 (party_by second.draw) 0 1
      → record { call = call; byte = third.draw % 256; last = third.generator.0 } ≡ drawn g n
  unfolding drawn
  writes {third} h code {call} is =
      let three : third ≡ after (draw (draw (draw g))) = h ∙ ap (λ (x : Next). after (draw x.generator.0)) two in
      rw (eq-eqb (code_by (draw g)) 1 (sym one ∙ code))
      (λ i. record {
        call = (is ∙ ap (λ (x : Next). call_with 1 (party_by x.draw) 0 1) two) i;
        byte = (three i).draw % 256;
        last = (three i).generator.0;
      })

  -- no more is drawn
  module _ (other : code_by first.draw ≡ 1 → ⊥) {call : Call} where
    pub reads : code_by first.draw ≡ 2 → call ≡ call_with 2 (party_by second.draw) 0 0
        → record { call = call; byte = 0; last = second.generator.0 } ≡ drawn g n
    unfolding drawn
    reads code is =
        rw (ne_eqb (code_by (draw g)) 1 (λ z. other (one ∙ z)), eq-eqb (code_by (draw g)) 2 (sym one ∙ code))
        (λ i. record {
          call = (is ∙ ap (λ (x : Next). call_with 2 (party_by x.draw) 0 0) two) i;
          byte = 0;
          last = (two i).generator.0;
        })

    pub hands : (code_by first.draw ≡ 2 → ⊥) → {position : ℕ} → position ≡ position_by n second.draw
        → call ≡ call_with (code_by first.draw) 0 position 0 → record { call = call; byte = 0; last = second.generator.0 } ≡ drawn g n
    unfolding drawn
    hands not_read {position} at is =
        rw (ne_eqb (code_by (draw g)) 1 (λ z. other (one ∙ z)), ne_eqb (code_by (draw g)) 2 (λ z. not_read (one ∙ z)))
        (λ i. record {
          call = (is ∙ (λ j. call_with (one j) 0 ((at ∙ ap (λ (x : Next). position_by n x.draw) two) j) 0)) i;
          byte = 0;
          last = (two i).generator.0;
        })

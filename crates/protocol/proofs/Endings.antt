-- Each answer that names a client ends exactly one operation of that client.
use Prim.Native.Nat.{ℕ}
use mathlib.Core.Path.{◌≡◌, refl, sym, ◌∙◌, subst}
use mathlib.Core.Bool.{true, false≢true}
use mathlib.Core.Logic.{◌⊎◌, inl, inr, ⊎_elim}
use mathlib.Core.Option.{Option, none, some}
use mathlib.Core.List.{List}
use lib.ListN.{get_elem?}
use borrow.Author.Tests.{eq-eqb}
use Rattle.protocol.specs.Board.{Answer, Event, refused, nothing_ended, written_by, spent_by, read_by, names}
use Rattle.protocol.specs.Endings.{Begins, BeganWith, Ends, EndsOne}
use Rattle.protocol.proofs.World.{Setting, Ghost, Knowledge, How, GoodLog}
use Rattle.protocol.proofs.Recorded.{Coded, Opens, NoBegin, Recorded, end_recorded}

module _ (S : Setting) where
  open S use {Value}

  -- an operation began with event 1 or 2
  began_either : (c : ℕ) (board : Option Value) (x : Event Value) → Opens S x c board → Begins 1 x ⊎ Begins 2 x
  began_either c none x opens = inr (opens.accepted, opens.coded)
  began_either c (some v) x opens = inl (opens.accepted, opens.coded.0)

  -- by how an operation ended, what it began with
  began_with : (g : Ghost S) (p c : ℕ) (board : Option Value) (x : Event Value) (answer : Answer Value) → Opens S x c board → How S g p board answer → BeganWith answer x
  began_with g p c board x (refused n) opens how = absurd how
  began_with g p c board x nothing_ended opens how = absurd how
  began_with g p c board x (written_by d t) opens how = (opens.accepted, (subst (Coded S x.call) how.1.1 opens.coded).0)
  began_with g p c board x (spent_by d) opens how = began_either c board x opens
  began_with g p c board x (read_by d t v) opens how = (opens.accepted, subst (Coded S x.call) how.1 opens.coded)

  begins-write : (x : Event Value) → Begins 1 x → NoBegin S x → ⊥
  begins-write x b quiet = false≢true (sym quiet.0 ∙ rw b.0 (eq-eqb x.call.code 1 b.1))

  begins-read : (x : Event Value) → Begins 2 x → NoBegin S x → ⊥
  begins-read x b quiet = false≢true (sym quiet.1 ∙ rw b.0 (eq-eqb x.call.code 2 b.1))

  -- what an answer ended did begin
  begins : (x : Event Value) (answer : Answer Value) → BeganWith answer x → NoBegin S x → ⊥
  begins x (refused n) b quiet = b
  begins x nothing_ended b quiet = b
  begins x (written_by d t) b quiet = begins-write x b quiet
  begins x (spent_by d) b quiet = ⊎_elim (λ h. begins-write x h quiet) (λ h. begins-read x h quiet) b
  begins x (read_by d t v) b quiet = begins-read x b quiet

  module _ {k : Knowledge S} {g : Ghost S} {now : ℕ} {h : List (Event Value)} (a : GoodLog S k g now) (recorded : Recorded S h g) where
    one : (c q : ℕ) (x : Event Value) → get_elem? h q ≡ some x → names c x.answer ≡ true → (p : ℕ) × Ends h c q x.answer p
    one c q x e n =
        let o = recorded.named c q x e n in
        let t = recorded.begun o.0 c o.1 o.2 in (
          o.0,
          record {
            begin = t.event;
            stands = t.is;
            client = t.opens.party;
            kind = began_with g o.0 c o.1 t.event x.answer t.opens (a.ending_how o.0 (q, x.answer) o.3 c o.1 o.2);
            before = a.ending_after o.0 (q, x.answer) o.3;
            first = end_recorded S recorded o.0 c o.1 o.2 ∙ o.3;
          },
        )

    -- the record has the end
    ending_is : (c q : ℕ) (answer : Answer Value) (p : ℕ) → Ends h c q answer p → g.ending p ≡ some (q, answer)
    ending_is c q answer p ends = go (g.begun p) refl
      where
        go : (o : Option (ℕ × Option Value)) → g.begun p ≡ o → g.ending p ≡ some (q, answer)
        go none e = absurd (begins ends.begin answer ends.kind (recorded.blank p ends.begin ends.stands e))
        go (some y) e = sym (end_recorded S recorded p y.0 y.1 e) ∙ ends.first

    pub ends_one : EndsOne h
    ends_one =
        record {
          one = one;
          only = λ c q answer p r ends others. a.ending_once p r (q, answer) (q, answer) (ending_is c q answer p ends) (ending_is c q answer r others) refl;
        }

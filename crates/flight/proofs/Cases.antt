-- What each call gives, case by case. Assumes nothing.
use Prim.Native.Nat.{ℕ, ◌+◌, ◌-◌, ◌*◌, ◌/◌, ◌%◌, ◌≤◌, ◌<◌}
use mathlib.Core.Bool.{true, false, ◌&&◌, and-false}
use mathlib.Core.Path.{◌≡◌, refl, sym, ap, ap₂, ◌∙◌}
use mathlib.Core.List.{List, ◌++◌, append_assoc, append-nil}
use native.Mathlib.Omega.{arith}
use borrow.Author.Tests.{leb-true, lt-leb, ne_eqb}
use borrow.Table.Steps.{cases}
use lib.Dec.{eqb, ltb}
use lib.ListN.{length, take, drop, replicate, length-drop, drop_of_length-le}
use lib.Seq.{paste, take_all, drop-drop}
use Rattle.laws.proofs.Parts.{copied, lent_is, lent_length}
use Rattle.flight.specs.Flight.{AppendPost, DoublePost, RemovePost, TakePost, appended, appends, doubles, fits, record_length, stands}
use Rattle.flight.proofs.Laws.{append_count, append_none, appends_true, doubles_past, doubles_true, stands_past, stands_true, take_is, take_long}

-- ---- parts of a buffer that were lent

-- a part of 80 bytes, copied over as many others
whole : (bytes : List ℕ) (at : ℕ) (zeros r : List ℕ) → at + record_length ≤ length bytes → length zeros ≡ record_length
    → r ≡ take (length (take (at + record_length - at) (drop at bytes))) (take (at + record_length - at) (drop at bytes)) ++ drop (length (take (at + record_length - at) (drop at bytes))) zeros
    → r ≡ take record_length (drop at bytes)
whole bytes at zeros r h z e =
    e
    ∙ copied (take (at + record_length - at) (drop at bytes)) zeros _ refl (z ∙ sym (lent_length bytes at record_length h))
    ∙ lent_is bytes at record_length

-- all from a place on, with other bytes copied over its front
pasted : (bytes : List ℕ) (at : ℕ) (new mid : List ℕ)
    → mid ≡ take (length new) new ++ drop (length new) (take (length bytes - at) (drop at bytes))
    → take at bytes ++ (mid ++ drop (length bytes - at) (drop at bytes)) ≡ paste bytes at new (length new)
pasted bytes at new mid e =
    let rest = drop at bytes in
    ap (λ l. take at bytes ++ l)
    (ap₂ ◌++◌ e (drop_of_length-le rest {i = length bytes - at} (omega (arith, length-drop at bytes)))
    ∙ append-nil (take (length new) new ++ drop (length new) (take (length bytes - at) rest))
    ∙ ap (λ l. take (length new) new ++ l)
    (ap (drop (length new)) (take_all (length bytes - at) rest (omega (arith, length-drop at bytes))) ∙ drop-drop (length new) at bytes))
    ∙ sym (append_assoc (take at bytes) (take (length new) new) (drop (at + length new) bytes))

-- ---- taking and removing

module _ (n i : ℕ) (bytes : List ℕ) where
  short : length bytes / record_length < n → stands n i bytes ≡ false
  short h = ap (λ b. ltb i n && b) (lt-leb (record_length * n) (length bytes) (omega (arith, h))) ∙ and-false (ltb i n)

  pub take_missing : n ≤ i → TakePost n i bytes (replicate record_length 0)
  take_missing h = record { taken = rw (stands_past n i bytes h) refl }

  pub take_short : length bytes / record_length < n → TakePost n i bytes (replicate record_length 0)
  take_short h = record { taken = rw (short h) refl }

  pub take_there : (zeros r : List ℕ) → i < n → n ≤ length bytes / record_length → length zeros ≡ record_length
      → r
      ≡ take (length (take (record_length * i + record_length - record_length * i) (drop (record_length * i) bytes))) (take (record_length * i + record_length - record_length * i) (drop (record_length * i) bytes))
      ++ drop (length (take (record_length * i + record_length - record_length * i) (drop (record_length * i) bytes))) zeros
      → TakePost n i bytes r
  take_there zeros r h l z e =
      record { taken = rw (stands_true n i bytes h (omega (arith, l))) (whole bytes (record_length * i) zeros r (omega (arith, h, l)) z e) }

  pub remove_there : i < n → n ≤ length bytes / record_length
      → RemovePost n i bytes (n - 1)
      (paste bytes (record_length * i) (drop (record_length * i + record_length) bytes) (record_length * n - (record_length * i + record_length)))
  remove_there h l =
      let is : stands n i bytes ≡ true = stands_true n i bytes h (omega (arith, l)) in
      let behind : record_length * n - (record_length * i + record_length) ≡ record_length * (n - 1 - i) = omega (arith, h) in
      record {
        count = rw is refl;
        buffer = rw is (ap (paste bytes (record_length * i) (drop (record_length * i + record_length) bytes)) behind);
      }

-- ---- appending and doubling

module _ (n : ℕ) (new bytes : List ℕ) where
  held : appends n new bytes ≡ false → AppendPost n new bytes n bytes
  held h = record { count = rw h refl; buffer = rw h refl }

  pub append_broken : (length new % record_length ≡ 0 → ⊥) → AppendPost n new bytes n bytes
  append_broken h = held (ap (λ b. b && fits (n + length new / record_length) bytes) (ne_eqb (length new % record_length) 0 h))

  pub append_full : length bytes / record_length < n + length new / record_length → AppendPost n new bytes n bytes
  append_full h =
      held (ap (λ b. eqb (length new % record_length) 0 && b) (lt-leb (record_length * (n + length new / record_length)) (length bytes) (omega (arith, h)))
      ∙ and-false (eqb (length new % record_length) 0))

  pub append_there : (mid : List ℕ) → length new % record_length ≡ 0 → n + length new / record_length ≤ length bytes / record_length
      → mid ≡ take (length new) new ++ drop (length new) (take (length bytes - record_length * n) (drop (record_length * n) bytes))
      → AppendPost n new bytes (n + length new / record_length) (take (record_length * n) bytes ++ (mid ++ drop (length bytes - record_length * n) (drop (record_length * n) bytes)))
  append_there mid h l e =
      let is : appends n new bytes ≡ true = appends_true n (length new / record_length) new bytes (omega (arith, h)) (omega (arith, l)) in
      record { count = rw is refl; buffer = rw is (pasted bytes (record_length * n) new mid e) }

module _ (n i : ℕ) (bytes : List ℕ) where
  pub double_missing : n ≤ i → DoublePost n i bytes n bytes
  double_missing h = record { count = rw (doubles_past n i bytes h) refl; buffer = rw (doubles_past n i bytes h) refl }

  -- the record taken is appended
  pub double_there : (copy : List ℕ) (m : ℕ) (after : List ℕ) → i < n → TakePost n i bytes copy → AppendPost n copy bytes m after → DoublePost n i bytes m after
  double_there copy m after h t a =
      cases (fits (n + 1) bytes)
      (λ f.
      let room : record_length * (n + 1) ≤ length bytes = leb-true (record_length * (n + 1)) (length bytes) f in
      record {
        count = rw (doubles_true n i bytes h room) (append_count a 1 (take_long t) room);
        buffer = rw (doubles_true n i bytes h room)
            (rw (appends_true n 1 copy bytes (take_long t) room) at a.buffer
            ∙ ap (λ x. appended n x bytes) (take_is t h (omega (arith, room))));
      })
      (λ f.
      let one : n + length copy / record_length ≡ n + 1 = omega (arith, take_long t) in
      let full : doubles n i bytes ≡ false = ap (λ b. ltb i n && b) f ∙ and-false (ltb i n) in
      let stays = append_none a
      (ap (λ k. eqb (length copy % record_length) 0 && fits k bytes) one ∙ ap (λ b. eqb (length copy % record_length) 0 && b) f ∙ and-false (eqb (length copy % record_length) 0)) in
      record { count = rw full stays.0; buffer = rw full stays.1 })

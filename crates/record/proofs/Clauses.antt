-- A record's clauses: each follows from well formed, and all together give it. Assumes nothing.
use mathlib.Core.Path.{◌≡◌, refl, sym, ◌∙◌}
use mathlib.Core.Bool.{Bool, true, false, cond}
use mathlib.Core.List.{List, [], ◌∷◌}
use mathlib.Core.Option.{none, some}
use Prim.Native.Nat.{ℕ, zero, suc, ◌≤◌}
use native.Mathlib.Omega.{arith}
use borrow.Author.Tests.{eq-eqb, eqb-true}
use lib.ListN.{length, get_or}
use Rattle.laws.proofs.Bools.{and_left, and_right}
use Rattle.config.specs.declared.Config.{Config}
use Rattle.config.specs.Number.{client_number, server_number}
use Rattle.config.specs.Questions.{within}
use Rattle.config.proofs.Questions.{within_low, within_high}
use Rattle.tag.specs.Tag.{allowed}
use Rattle.record.specs.declared.Header.{Header}
use Rattle.record.specs.Element.{element_with}
use Rattle.record.specs.Calls.{is_sound, sound_clauses, with_element}
use Rattle.record.specs.inner.Parse.{laid_out, layout_clauses}
use Rattle.record.specs.Record.{all, clauses, client_at, element_in, is_kind, kind_at, kind_number, kind_of, length_at, length_fits, message_of, operation_at, present_at, server_at, tag_at, well_formed}

-- of clauses that all hold each holds
pub all_at : (bs : List Bool) → all bs ≡ true → (i : ℕ) → get_or bs i true ≡ true
unfolding all
all_at [] h i = refl
all_at (b ∷ bs) h zero = and_left b (all bs) h
all_at (b ∷ bs) h (suc i) = all_at bs (and_right b (all bs) h) i

-- where one implies another and the other does not hold
pub not_so : (a b : Bool) → (a ≡ true → b ≡ true) → b ≡ false → a ≡ false
not_so true b f h = sym (f refl) ∙ h
not_so false b f h = refl

-- the kind of a number, 1 to 9, has that number
numbered : (n : ℕ) → 1 ≤ n → n ≤ 9 → kind_number (kind_of n) ≡ n
unfolding kind_of
numbered zero low high = absurd (omega arith)
numbered (suc zero) low high = refl
numbered (suc (suc zero)) low high = refl
numbered (suc (suc (suc zero))) low high = refl
numbered (suc (suc (suc (suc zero)))) low high = refl
numbered (suc (suc (suc (suc (suc zero))))) low high = refl
numbered (suc (suc (suc (suc (suc (suc zero)))))) low high = refl
numbered (suc (suc (suc (suc (suc (suc (suc zero))))))) low high = refl
numbered (suc (suc (suc (suc (suc (suc (suc (suc zero)))))))) low high = refl
numbered (suc (suc (suc (suc (suc (suc (suc (suc (suc zero))))))))) low high = refl
numbered (suc (suc (suc (suc (suc (suc (suc (suc (suc (suc n)))))))))) low high = absurd (omega arith)

pub kind-number : (n : ℕ) → is_kind n ≡ true → kind_number (kind_of n) ≡ n
kind-number n h = numbered n (within_low 1 9 n h) (within_high 1 9 n h)

-- the clauses on what a header says, of the record's bytes
abbrev sound_at : List ℕ → List Bool
sound_at bs = sound_clauses (kind_at bs) (client_at bs) (operation_at bs) (tag_at bs) (present_at bs)

module _ (cfg : Config) (bs : List ℕ) where
  -- the clause at place i
  pub clause : (i : ℕ) → well_formed cfg bs ≡ true → get_or (clauses cfg bs) i true ≡ true
  unfolding well_formed
  clause i h = all_at (clauses cfg bs) h i

  pub its_length : well_formed cfg bs ≡ true → length bs ≡ 80
  unfolding clauses
  its_length h = eqb-true (length bs) 80 (clause 0 h)

  pub its_layout : well_formed cfg bs ≡ true → laid_out cfg bs ≡ true
  unfolding clauses laid_out all
  its_layout h = rw (clause 1 h, clause 2 h, clause 5 h, clause 6 h)

  pub its_kind : well_formed cfg bs ≡ true → is_kind (kind_at bs) ≡ true
  unfolding clauses
  its_kind h = clause 1 h

  pub its_client : well_formed cfg bs ≡ true → within 1 cfg.c (client_at bs) ≡ true
  unfolding clauses
  its_client h = clause 10 h

  pub its_server : well_formed cfg bs ≡ true → within 1 cfg.n (server_at bs) ≡ true
  unfolding clauses
  its_server h = clause 11 h

  pub its_tag : well_formed cfg bs ≡ true → allowed cfg.c (tag_at bs) ≡ true
  unfolding clauses
  its_tag h = clause 12 h

  pub its_fit : well_formed cfg bs ≡ true → length_fits cfg (present_at bs) (length_at bs) ≡ true
  unfolding clauses
  its_fit h = clause 4 h

  -- a header that says what the record says
  pub record Says (h : Header) : Type 0 where
    pub kind : h.kind ≡ kind_of (kind_at bs)
    pub client : client_number h.client ≡ client_at bs
    pub server : server_number h.server ≡ server_at bs
    pub operation : h.operation ≡ operation_at bs
    pub tag : h.tag ≡ tag_at bs
    pub present : h.present ≡ present_at bs
    pub length : h.length ≡ length_at bs

  pub says_message : (h : Header) → Says h → with_element cfg h bs ≡ message_of cfg bs
  unfolding with_element message_of
  says_message h s =
      λ i.
      record {
        kind = s.kind i;
        client = s.client i;
        server = s.server i;
        operation = s.operation i;
        tag = s.tag i;
        element = cond (s.present i) (some (element_with (s.length i) (element_in cfg bs))) none;
      }

  module _ (h : Header) (s : Says h) where
    -- the header's clauses, of the record's bytes
    says_sound : is_kind (kind_at bs) ≡ true → is_sound h ≡ all (sound_at bs)
    unfolding is_sound
    says_sound k = rw (s.kind, s.client, s.operation, s.tag, s.present, kind-number (kind_at bs) k)

    pub its_header : well_formed cfg bs ≡ true → is_sound h ≡ true
    unfolding clauses all
    its_header w = says_sound (its_kind w) ∙ rw (clause 3 w, clause 7 w, clause 8 w, clause 9 w)

    pub well-formed : length bs ≡ 80 → laid_out cfg bs ≡ true → within 1 cfg.c (client_at bs) ≡ true → within 1 cfg.n (server_at bs) ≡ true
        → allowed cfg.c (tag_at bs) ≡ true → length_fits cfg (present_at bs) (length_at bs) ≡ true → is_sound h ≡ true → well_formed cfg bs ≡ true
    unfolding well_formed clauses all laid_out
    well-formed e l c v t f o =
        let p = layout_clauses cfg bs in
        let q = sound_at bs in
        let k = all_at p l 0 in
        let o' = sym (says_sound k) ∙ o in
        rw (
          eq-eqb (length bs) 80 e,
          k,
          all_at p l 1,
          all_at q o' 0,
          f,
          all_at p l 2,
          all_at p l 3,
          all_at q o' 1,
          all_at q o' 2,
          all_at q o' 3,
          c,
          v,
          t,
        )

-- The lengths, and the code's calls. Assumes nothing.
use Prim.Native.Nat.{ℕ}
use mathlib.Core.Path.{◌≡◌, sym, ap, subst, ◌∙◌}
use mathlib.Core.List.{List}
use borrow.Author.Tests.{eq-eqb, ne_eqb}
use lib.ListN.{length}
use Rattle.std.proofs.Common.{Ok, Err}
use Rattle.config.specs.declared.Config.{Config}
use Rattle.config.specs.declared.Refusal.{Refusal}
use Rattle.config.specs.declared.Lengths.{Lengths}
use Rattle.config.specs.Config.{questions}
use Rattle.config.specs.Lengths.{lengths_of}
use Rattle.config.specs.Questions.{first_no}
use Rattle.config.specs.Refusal.{Verdict, refusal_number, verdict_number}
use Rattle.config.proofs.Valid.{valid_asked}
use Rattle.code.specs.Decode as code
use Rattle.code.specs.Decode.{decode_questions}
use Rattle.code.specs.Encode as code2
use Rattle.code.specs.Encode.{encode_questions}
use Rattle.code.specs.EncodeAll as code3
use Rattle.code.specs.EncodeAll.{encode_all_questions}
use Rattle.host.specs.Calls.{DecodePost, EncodeAllPost, EncodePost, LengthsPost}
use Rattle.host.specs.Config.{config_of}
use Rattle.host.specs.inner.Told.{ConfigRead, ConfigTold}
use Rattle.host.proofs.Made.{config_valid}
use Rattle.host.proofs.told.Laws.{first_told, length_numbered, not_zero, passes_told, stops_told}

-- a refusal: all is as it was
module _ (config : List ℕ) {why : Refusal} {n : ℕ} (is : n ≡ refusal_number why) where
  pub no_lengths : ConfigTold config (Err why) → (board store elements sends : ℕ) → LengthsPost config board store elements sends board store elements sends n
  no_lengths told board store elements sends =
      let none = ne_eqb n 0 (not_zero told is) in
      record { number = first_told told is; of_board = rw none; of_store = rw none; of_elements = rw none; of_sends = rw none }

  module _ (told : ConfigRead config (Err why)) where
    pub not_encoded : (board : List ℕ) (s : ℕ) (part : List ℕ) → EncodePost config board s part part n
    not_encoded board s part =
        record { number = stops_told told is (encode_questions (config_of config) (length board) s (length part)); encodes = rw (ne_eqb n 0 (not_zero told is)) }

    pub not_encoded_all : (board : List ℕ) (offset distance : ℕ) (buffer : List ℕ) → EncodeAllPost config board offset distance buffer buffer n
    not_encoded_all board offset distance buffer =
        record {
          number = stops_told told is (encode_all_questions (config_of config) (length board) offset distance (length buffer));
          encodes = rw (ne_eqb n 0 (not_zero told is));
        }

    pub not_decoded : (numbers elements board : List ℕ) → DecodePost config numbers elements board board n
    not_decoded numbers elements board =
        record {
          number = stops_told told is (decode_questions (config_of config) numbers (length elements) (length board));
          decodes = rw (ne_eqb n 0 (not_zero told is));
        }

module _ (config : List ℕ) {cfg : Config} where
  -- the lengths that a configuration gives
  pub its_lengths : ConfigTold config (Ok cfg) → (l : Lengths) → l ≡ lengths_of cfg 1 → (board store elements sends : ℕ)
      → LengthsPost config board store elements sends l.board l.store l.elements l.sends 0
  its_lengths told l e board store elements sends =
      let yes-all = eq-eqb (first_no (questions (config_of config))) 0 (valid_asked (config_of config) (config_valid config (sym told.number))) in
      let given : l ≡ lengths_of (config_of config) 1 = e ∙ ap (λ (x : Config). lengths_of x 1) told.gives in
      record {
        number = told.number;
        of_board = ap (λ (x : Lengths). x.board) given ∙ rw yes-all;
        of_store = ap (λ (x : Lengths). x.store) given ∙ rw yes-all;
        of_elements = ap (λ (x : Lengths). x.elements) given ∙ rw yes-all;
        of_sends = ap (λ (x : Lengths). x.sends) given ∙ rw yes-all;
      }

  -- the code
  module _ (told : ConfigRead config (Ok cfg)) where
    pub encoded : (board : List ℕ) (s : ℕ) (part part' : List ℕ) (v : Verdict) (number : ℕ) → number ≡ verdict_number v
        → code2.EncodePost cfg board s part part' v → EncodePost config board s part part' number
    encoded board s part part' v number e post =
        let q = encode_questions (config_of config) (length board) s (length part) in
        let below = subst (λ (x : Config). code2.EncodePost x board s part part' v) told.gives post in
        let first : number ≡ first_no q = e ∙ below.number in
        record { number = passes_told told (length_numbered config) q number first; encodes = below.part ∙ rw first }

    pub encoded_all : (board : List ℕ) (offset distance : ℕ) (buffer buffer' : List ℕ) (v : Verdict) (number : ℕ) → number ≡ verdict_number v
        → code3.EncodeAllPost cfg board offset distance buffer buffer' v → EncodeAllPost config board offset distance buffer buffer' number
    encoded_all board offset distance buffer buffer' v number e post =
        let q = encode_all_questions (config_of config) (length board) offset distance (length buffer) in
        let below = subst (λ (x : Config). code3.EncodeAllPost x board offset distance buffer buffer' v) told.gives post in
        let first : number ≡ first_no q = e ∙ below.number in
        record { number = passes_told told (length_numbered config) q number first; encodes = below.buffer ∙ rw first }

    pub decoded : (numbers elements board board' : List ℕ) (v : Verdict) (number : ℕ) → number ≡ verdict_number v
        → code.DecodePost cfg numbers elements board board' v → DecodePost config numbers elements board board' number
    decoded numbers elements board board' v number e post =
        let q = decode_questions (config_of config) numbers (length elements) (length board) in
        let below = subst (λ (x : Config). code.DecodePost x numbers elements board board' v) told.gives post in
        let first : number ≡ first_no q = e ∙ below.number in
        record { number = passes_told told (length_numbered config) q number first; decodes = below.buffer ∙ rw first }

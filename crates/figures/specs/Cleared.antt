-- Document 02, L2: figures of a record of kind 9. `proofs/Cleared.antt` proves them.
use Rattle.std.specs.Prelude.{ℕ, ◌≡◌, true, false, List, ◌∷◌, replicate}
use Rattle.std.proofs.Math.Option.{none}
use Rattle.record.specs.declared.Kind.TheVariants.{Cleared}
use Rattle.record.specs.Element.{Element}
use Rattle.record.specs.Kinds.{is_for_server}
use Rattle.record.specs.Message.{Message}
use Rattle.record.specs.Record.{kind_of, record_of, well_formed}
use Rattle.figures.specs.Figures.{tag}
use Rattle.figures.specs.Lengths.{bytes, shared}

-- server 4 tells client 2 in its operation 1 that the element of (1, 2) was cleared
abbrev pub cleared : Message Element
cleared = record { kind = Cleared; client = 2; server = 4; operation = 1; tag = tag 1 2; element = none }

-- the same of another tag, which has this number and client
abbrev pub of_tag : ℕ → ℕ → List ℕ
of_tag number client = 9 ∷ 2 ∷ 4 ∷ 0 ∷ 1 ∷ 0 ∷ 0 ∷ 0 ∷ number ∷ 0 ∷ 0 ∷ 0 ∷ client ∷ replicate 67 0

pub record Kind9 : Type 0 where
  -- "a record of kind 9, which repeats client, operation number and tag and has no element"
  pub written : record_of shared cleared ≡ bytes 9 0 0 0 0 0
  pub formed : well_formed shared (bytes 9 0 0 0 0 0) ≡ true
  pub element_of_9 : well_formed shared (bytes 9 1 2 0 0 90) ≡ false
  pub length_of_9 : well_formed shared (bytes 9 0 2 0 0 0) ≡ false
  pub byte_of_9 : well_formed shared (bytes 9 0 0 0 0 90) ≡ false
  -- its tag is any that is allowed
  pub other_client : well_formed shared (of_tag 1 1) ≡ true
  pub starting : well_formed shared (of_tag 0 0) ≡ true
  pub not_allowed : well_formed shared (of_tag 1 0) ≡ false
  -- a client receives it
  pub for_client : is_for_server (kind_of 9) ≡ false
  -- there is no kind 10
  pub tenth : well_formed shared (bytes 10 0 0 0 0 0) ≡ false

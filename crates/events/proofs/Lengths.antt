-- The lengths of the buffers lent to a rig: how great they are, and what question 6 shows of each. Assumes nothing.
use Prim.Native.Nat.{ℕ, ◌*◌, ◌≤◌}
use mathlib.Core.Path.{◌≡◌, refl, sym, ◌∙◌}
use mathlib.Core.Bool.{Bool, true, false, ◌&&◌}
use native.Mathlib.Nat.{mul-le-mul}
use borrow.Author.Tests.{eq-eqb, eqb-true, ne_eqb}
use lib.Dec.{eqb, leb}
use Rattle.laws.proofs.Bools.{and_left, and_right}
use Rattle.config.specs.declared.Config.{Config}
use Rattle.config.specs.Config.{Valid, board_length}
use Rattle.config.proofs.Sizes.{board_small, elements_small, store_small}
use Rattle.config.specs.Config.{store_length}
use Rattle.events.specs.declared.Sizes.{Sizes}
use Rattle.events.specs.Questions.{lent_sized, sized_by}
use Rattle.events.specs.inner.Questions.{sized_to_event}

module _ (cfg : Config) (v : Valid cfg) where
  pub stores_small : cfg.n * store_length cfg ≤ 8192
  stores_small = mul-le-mul v.n_high (store_small cfg v)

  pub boards_small : cfg.c * board_length cfg ≤ 16384
  boards_small = mul-le-mul v.c_high (board_small cfg v)

  pub all_elements_small : cfg.c * (cfg.n * cfg.e) ≤ 16384
  all_elements_small = mul-le-mul v.c_high (elements_small cfg v)

module _ (cfg : Config) (m messages stores boards elements : ℕ) (h : sized_by cfg m messages stores boards elements ≡ true) where
  abbrev A : Bool
  A = eqb messages (80 * m)

  abbrev B : Bool
  B = eqb stores (cfg.n * store_length cfg)

  abbrev C : Bool
  C = eqb boards (cfg.c * board_length cfg)

  abbrev D : Bool
  D = eqb elements (cfg.c * (cfg.n * cfg.e))

  first_two : (A && B) ≡ true
  unfolding sized_by
  first_two = and_left (A && B) C (and_left (A && B && C) D h)

  pub messages_are : messages ≡ 80 * m
  messages_are = eqb-true messages (80 * m) (and_left A B first_two)

  pub stores_are : stores ≡ cfg.n * store_length cfg
  stores_are = eqb-true stores (cfg.n * store_length cfg) (and_right A B first_two)

  pub boards_are : boards ≡ cfg.c * board_length cfg
  unfolding sized_by
  boards_are = eqb-true boards (cfg.c * board_length cfg) (and_right (A && B) C (and_left (A && B && C) D h))

  pub elements_are : elements ≡ cfg.c * (cfg.n * cfg.e)
  unfolding sized_by
  elements_are = eqb-true elements (cfg.c * (cfg.n * cfg.e)) (and_right (A && B && C) D h)

-- an event's, from those of a making
module _ (cfg : Config) (m count board read : ℕ) (x : Sizes) where
  pub event_short : lent_sized cfg m board x ≡ false → false ≡ sized_to_event cfg m count board read x
  event_short =
      go (eqb board (board_length cfg)) (sized_by cfg m x.messages x.stores x.boards x.elements) (eqb read (board_length cfg)) (leb count m)
    where
      go : (own lent room few : Bool) → (own && lent) ≡ false → false ≡ (own && room && lent && few)
      go false lent room few h = refl
      go true false false few h = refl
      go true false true few h = refl
      go true true room few h = cc

  module _ (h : lent_sized cfg m board x ≡ true) where
    abbrev lent : Bool
    lent = sized_by cfg m x.messages x.stores x.boards x.elements

    own : eqb board (board_length cfg) ≡ true
    own = and_left (eqb board (board_length cfg)) lent h

    long : board ≡ board_length cfg
    long = eqb-true board (board_length cfg) own

    pub event_read_short : (read ≡ board → ⊥) → false ≡ sized_to_event cfg m count board read x
    event_read_short n = rw (own, ne_eqb read (board_length cfg) (λ e. n (e ∙ sym long)))

    pub event_last : read ≡ board → leb count m ≡ sized_to_event cfg m count board read x
    event_last e = rw (own, eq-eqb read (board_length cfg) (e ∙ long), and_right (eqb board (board_length cfg)) lent h)

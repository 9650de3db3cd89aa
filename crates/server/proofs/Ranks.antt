-- A server's step and question 6 "With all ranks equal" are those of document 01's order of tags. Assumes nothing.
use Rattle.std.proofs.Common.{◌≡◌, ℕ, ◌+◌, Bool, true, false, ◌&&◌, eqb, List, [], ◌∷◌, length, refl, ap}
use mathlib.Core.Option.{Option, none, some}
use Rattle.laws.proofs.Bools.{and_left, and_right}
use Rattle.config.specs.declared.Config.{Config}
use Rattle.config.specs.Config.{RanksEqual}
use Rattle.config.specs.Number.{server_number}
use Rattle.config.specs.Questions.{first_no}
use Rattle.config.proofs.Questions.{within_high}
use Rattle.tag.specs.declared.Tag.{Tag}
use Rattle.tag.specs.Tag.{above, allowed, plain_above, plain_key}
use Rattle.tag.proofs.Order.{allowed_client}
use Rattle.tag.proofs.Ranks.{equal_above}
use Rattle.record.specs.Element.{Element}
use Rattle.record.specs.Record.{message_of}
use Rattle.record.proofs.Clauses.{its_client, its_tag}
use Rattle.protocol.specs.Number.{to_list}
use Rattle.protocol.specs.Server.{Server, Stored, server_step}
use Rattle.protocol.proofs.Limited.{Every, Limited, LimitedServer, no_one, one_more}
use Rattle.protocol.proofs.EqualRanks.{equal_server}
use Rattle.server.specs.declared.State.{State}
use Rattle.server.specs.Calls.{outcome, step_questions}
use Rattle.server.specs.Within.{every, floor_within, server_within, tags_of}
use Rattle.server.specs.View.{view}
use Rattle.server.proofs.Asked.{step_accepted}
use Rattle.server.proofs.Invariant.{tags-of}
use Rattle.server.proofs.Laws.{server-within}
use Rattle.server.proofs.Limits.{floor_allowed, within_allowed, within_floor, within_highest}

module _ (cfg : Config) (equal : RanksEqual cfg) where
  every_equal : (f : Tag) → allowed cfg.c f ≡ true → (ts : List Tag) → every (allowed cfg.c) ts ≡ true
      → every (λ (t : Tag). above cfg t f) ts ≡ every (λ (t : Tag). plain_above t f) ts
  unfolding every
  every_equal f ok [] all = refl
  every_equal f ok (t ∷ ts) all =
      let fits = and_left (allowed cfg.c t) (every (allowed cfg.c) ts) all in
      let rest = and_right (allowed cfg.c t) (every (allowed cfg.c) ts) all in
      rw (equal_above cfg equal t f (allowed_client cfg.c t fits) (allowed_client cfg.c f ok), every_equal f ok ts rest)

  -- question 6 of a floor, where the stored tags are within their limits
  pub floor_equal : (f : Tag) (ts : List Tag) → every (allowed cfg.c) ts ≡ true
      → floor_within cfg (some f) ts ≡ (allowed cfg.c f && eqb (length ts) (cfg.d + 1) && every (λ (t : Tag). plain_above t f) ts)
  unfolding floor_within
  floor_equal f ts all = go (allowed cfg.c f) refl
    where
      go : (b : Bool) → allowed cfg.c f ≡ b
          → (b && eqb (length ts) (cfg.d + 1) && every (λ (t : Tag). above cfg t f) ts) ≡ (b && eqb (length ts) (cfg.d + 1) && every (λ (t : Tag). plain_above t f) ts)
      go true e = ap (λ (x : Bool). true && eqb (length ts) (cfg.d + 1) && x) (every_equal f e ts all)
      go false e = refl

-- the tags of a server that passes question 6 are of the clients
module _ (cfg : Config) where
  floor_limited : (f : Option Tag) (ts : List Tag) → floor_within cfg f ts ≡ true → Every (Limited cfg.c) (to_list f)
  unfolding to_list
  floor_limited none ts h = no_one
  floor_limited (some f) ts h =
      one_more (allowed_client cfg.c f (floor_allowed cfg f ts h)) no_one

  stored_limited : (xs : List (Stored Element)) → every (allowed cfg.c) (tags_of xs) ≡ true → Every (λ (x : Stored Element). Limited cfg.c x.tag) xs
  unfolding every tags_of
  stored_limited [] h = no_one
  stored_limited (x ∷ xs) h =
      one_more (allowed_client cfg.c x.tag (and_left (allowed cfg.c x.tag) (every (allowed cfg.c) (tags_of xs)) h))
      (stored_limited xs (and_right (allowed cfg.c x.tag) (every (allowed cfg.c) (tags_of xs)) h))

  server_limited : (v : Server Element) → server_within cfg v ≡ true → LimitedServer cfg.c v
  server_limited v h =
      let ts = tags_of v.stored in
      let tags = tags-of cfg v h in
      record {
        highest = allowed_client cfg.c v.highest (within_highest cfg v.highest v.floor ts tags);
        floor = floor_limited v.floor ts (within_floor cfg v.highest v.floor ts tags);
        stored = stored_limited v.stored (within_allowed cfg v.highest v.floor ts tags);
      }

-- a step that is not refused
pub step_equal : (cfg : Config) → RanksEqual cfg → (s : State) (handed store : List ℕ) (answer : ℕ) → first_no (step_questions cfg s handed (length store) answer) ≡ 0
    → outcome cfg s store (message_of cfg handed) ≡ server_step plain_key cfg.d (server_number s.me) (view cfg s store) (message_of cfg handed)
unfolding message_of
step_equal cfg equal s handed store answer z =
    let passed = (step_accepted cfg s handed (length store) answer z).0 in
    equal_server cfg passed.valid equal (server_number s.me) (view cfg s store) (message_of cfg handed)
    (server_limited cfg (view cfg s store) (server-within cfg s store passed.within))
    (record {
      client = within_high 1 cfg.c _ (its_client cfg handed passed.well-formed);
      tag = allowed_client cfg.c (message_of cfg handed).tag (its_tag cfg handed passed.well-formed);
    })

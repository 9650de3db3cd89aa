-- A client's step "With all ranks equal" is that of document 01's order of tags. Assumes nothing.
use mathlib.Core.Path.{◌≡◌}
use mathlib.Core.Bool.{true, ◌&&◌}
use mathlib.Core.List.{List}
use Prim.Native.Nat.{ℕ}
use Rattle.laws.proofs.Bools.{and_left, and_right}
use Rattle.config.specs.declared.Config.{Config}
use Rattle.config.specs.Config.{RanksEqual, Valid}
use Rattle.config.specs.Number.{client_number}
use Rattle.config.specs.Questions.{within}
use Rattle.config.proofs.Questions.{within_high}
use Rattle.tag.specs.Tag.{plain_key}
use Rattle.tag.proofs.Order.{allowed_client}
use Rattle.record.specs.Record.{message_of, well_formed}
use Rattle.record.proofs.Clauses.{its_client, its_tag}
use Rattle.protocol.specs.Boards.{Board, decode, encode}
use Rattle.protocol.specs.Client as protocol
use Rattle.protocol.proofs.Limited.{LimitedPhase}
use Rattle.protocol.proofs.EqualRanks.{equal_client}
use Rattle.client.specs.declared.Phase.{Phase}
use Rattle.client.specs.declared.Phase.TheVariants.{Idle, Asking, PreWriting, FinalisingWrite, FinalisingRead, Down}
use Rattle.client.specs.declared.State.{State}
use Rattle.client.specs.Servers.{within_servers}
use Rattle.client.specs.Calls.{client_step}
use Rattle.client.specs.State.{Lent, Slots, lengths_within, phase_of, phase_within, seen, state_within, tag_within, view}
use Rattle.client.proofs.Phases.{tag_in}

-- the tag of a phase that passes question 6 is of a client
phase_limited : (cfg : Config) (p : Phase) → phase_within cfg p ≡ true → (board : Board) (es : Slots) → LimitedPhase cfg.c (phase_of cfg p board es)
unfolding phase_within phase_of
phase_limited cfg Idle w board es = tt
phase_limited cfg (Asking writes best counted) w board es = allowed_client cfg.c best (tag_in cfg best counted w)
phase_limited cfg (PreWriting tag counted) w board es = allowed_client cfg.c tag (tag_in cfg tag counted w)
phase_limited cfg (FinalisingWrite tag counted) w board es = allowed_client cfg.c tag (tag_in cfg tag counted w)
phase_limited cfg (FinalisingRead tag counted sent) w board es =
    allowed_client cfg.c tag (tag_in cfg tag counted (and_left (tag_within cfg tag counted) (within_servers cfg.n sent) w))
phase_limited cfg Down w board es = tt

-- a step of a state that passes question 6, on a well-formed record
pub step_equal : (cfg : Config) → Valid cfg → RanksEqual cfg → (x : State) (message : List ℕ) (l : Lent) → state_within cfg x ≡ true → well_formed cfg message ≡ true
    → client_step cfg x message l
    ≡ protocol.client_step plain_key (encode cfg) (decode cfg) cfg (client_number x.me) (seen cfg x l) (message_of cfg message)
unfolding message_of state_within view
step_equal cfg valid equal x message l held formed =
    let me = within 1 cfg.c (client_number x.me) in
    let phase = phase_within cfg x.phase in
    let both = and_left (me && phase) (lengths_within cfg x.phase x.length x.lengths) held in
    equal_client cfg valid equal (client_number x.me) (seen cfg x l) (message_of cfg message) (within_high 1 cfg.c (client_number x.me) (and_left me phase both))
    (phase_limited cfg x.phase (and_right me phase both) _ _)
    (record {
      client = within_high 1 cfg.c (message_of cfg message).client (its_client cfg message formed);
      tag = allowed_client cfg.c (message_of cfg message).tag (its_tag cfg message formed);
    })

use mathlib.Core.Path.{◌≡◌, refl, ◌∙◌, ap}
use mathlib.Core.List.{List, ◌++◌, append-nil}
use Prim.Native.Nat.{ℕ, ◌*◌}
use native.Mathlib.Numerals.{add-one}
use native.Mathlib.Omega.{arith}
use lib.ListN.{length, drop, drop_of_length-le}
use Rattle.laws.proofs.Parts.{lent_length}
use Rattle.config.specs.declared.Config.{Config}
use Rattle.protocol.specs.Boards.{BoardMessage}
use Rattle.protocol.specs.Number.{to_each}
use Rattle.client.specs.Send.{records_of}
use Rattle.client.specs.inner.Send.{message_to}
use Rattle.client.proofs.Sending.{sent_more}
use Rattle.client.proofs.send.to_each.Goals as goal

-- once all have theirs, the buffer holds nothing else
all : (cfg : Config) (f : ℕ → BoardMessage) (s : ℕ) (sends₀ sends : List ℕ) → sends ≡ records_of cfg (to_each s f) ++ drop (80 * s) sends₀
    → s ≡ cfg.n → length sends₀ ≡ 80 * cfg.n → sends ≡ records_of cfg (to_each cfg.n f)
all cfg f s sends₀ sends done end room =
    done ∙ ap (λ (l : List ℕ). records_of cfg (to_each s f) ++ l) (drop_of_length-le sends₀ {i = 80 * s} (omega arith)) ∙ append-nil (records_of cfg (to_each s f))
    ∙ ap (λ (i : ℕ). records_of cfg (to_each i f)) end

pub loop-i-init : goal.loop-i-init
unfolding to_each records_of
loop-i-init c = refl

pub to_one-requires : goal.to_one-requires
to_one-requires c =
    let s = c in
    let l = c.loop-i in
    record {
      goes = s.requires.goes;
      board-length = s.requires.board-length;
      low = omega arith;
      high = omega (arith, c.loop-i-test.true);
      room = lent_length l.sends (80 * l.i) 80 (omega (arith, c.loop-i-test.true, s.requires.room));
    }

pub loop-i-preserved : goal.loop-i-preserved
loop-i-preserved c =
    let s = c in
    let l = c.loop-i in
    let below = c.loop-i-test.true in
    let f = message_to s.args.cfg s.args.b s.args.board.now in
    rw (add-one l.i)
    (sent_more s.args.cfg f l.i s.args.sends.now l.sends _ l.invariant l.auto.sends (omega (arith, below, s.requires.room)) (add-one l.i) c.to_one.ensures)

pub returns : goal.returns
returns c =
    let s = c in
    let l = c.loop-i in
    all s.args.cfg (message_to s.args.cfg s.args.b s.args.board.now) l.i s.args.sends.now l.sends l.invariant (omega arith) s.requires.room

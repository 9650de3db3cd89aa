-- What a client is to do once an answer is counted.
use Rattle.std.specs.Prelude.{Bool, false, cond, ◌&&◌, leb, ltb}
use Rattle.config.specs.declared.Client.{Client}
use Rattle.config.specs.declared.Config.{Config}
use Rattle.config.specs.Number.{client_number}
use Rattle.tag.specs.declared.Tag.{Tag}
use Rattle.protocol.specs.Client.{enough, highest_number, next_tag}
use Rattle.protocol.specs.Number.{count}
use Rattle.client.specs.declared.Ended.TheVariants.{Written, Spent}
use Rattle.client.specs.declared.next.Move.{Move}
use Rattle.client.specs.declared.next.Move.TheVariants.{Waits, Begins, Ends, Shows}
use Rattle.client.specs.declared.Phase.{Phase}
use Rattle.client.specs.declared.Phase.TheVariants.{Idle, Asking, PreWriting, FinalisingWrite, FinalisingRead, Down}
use Rattle.client.specs.Servers.{member}

-- at least q servers are counted and, finalising a read, at least k sent an element
unfoldable pub is_enough : Config → Phase → Bool
is_enough cfg Idle = false
is_enough cfg (Asking writes best counted) = enough cfg (member counted)
is_enough cfg (PreWriting tag counted) = enough cfg (member counted)
is_enough cfg (FinalisingWrite tag counted) = enough cfg (member counted)
is_enough cfg (FinalisingRead tag counted sent) = enough cfg (member counted) && leb cfg.k (count (member sent) cfg.n)
is_enough cfg Down = false

-- the end of asking
unfoldable pub asked_of : Client → Bool → Tag → Move
asked_of me writes best =
    cond writes
    (cond (ltb best.number highest_number) (Begins (PreWriting (next_tag best (client_number me)) 0)) (Ends Spent))
    (Begins (FinalisingRead best 0 0))

-- with enough answers
unfoldable pub after_of : Client → Phase → Move
after_of me Idle = Waits
after_of me (Asking writes best counted) = asked_of me writes best
after_of me (PreWriting tag counted) = Begins (FinalisingWrite tag 0)
after_of me (FinalisingWrite tag counted) = Ends (Written tag)
after_of me (FinalisingRead tag counted sent) = Shows tag sent
after_of me Down = Waits

abbrev pub next_of : Config → Client → Phase → Move
next_of cfg me phase = cond (is_enough cfg phase) (after_of me phase) Waits

-- What a step's calls show is a step. Assumes nothing.
use Prim.Native.Nat.{ℕ, suc, ◌+◌, ◌-◌, ◌≤◌}
use mathlib.Core.Path.{◌≡◌, refl, sym, ap, subst, subst₂, ◌∙◌}
use mathlib.Core.List.{List, ◌++◌, append_assoc}
use native.Mathlib.Omega.{arith}
use lib.ListN.{length, take, drop, length-append}
use lib.Seq.{length-take-le, take_at}
use Rattle.config.specs.Config.{board_length}
use Rattle.events.specs.declared.Turn.{Turn}
use Rattle.events.specs.View.{Lent}
use Rattle.events.specs.Calls.{EventPost}
use Rattle.events.proofs.Numbers.{many}
use Rattle.draws.specs.declared.Generator.{Generator}
use Rattle.lines.specs.Program.{program, program_messages}
use Rattle.maker.specs.declared.Load.{Load}
use Rattle.maker.specs.Load as load
use Rattle.maker.specs.Load.{call_of, drawn, event_record}
use Rattle.maker.specs.Steps.{Step, Steps, drawn_of, next}

pub stepped : {x : Load} {l : Lent} {d : load.Drawn} → d ≡ drawn x.generator.0 x.rig.count → {bytes : List ℕ} → bytes ≡ event_record d
    → {read read' : List ℕ} {turn : Turn} {l' : Lent} → length read ≡ board_length program
    → EventPost program program_messages x.rig (call_of d) read l turn read' l'
    → {g : Generator} → g.0 ≡ d.last → Step x l bytes (record { generator = g; rig = turn.rig }) l'
stepped {x} {l} {d} e {bytes} record_is {read} {read'} {turn} {l'} lent post last =
    let same : d ≡ drawn_of x l = e ∙ ap (drawn x.generator.0) (sym (many program x.rig l)) in
    record {
      record_is = record_is ∙ ap event_record same;
      last = last ∙ ap (λ (z : load.Drawn). z.last) same;
      turn = turn;
      read = read;
      read' = read';
      lent = lent;
      event = subst (λ (z : load.Drawn). EventPost program program_messages x.rig (call_of z) read l turn read' l') same post;
      left = refl;
    }

-- one more, behind the others: the 7 bytes from a place on were lent to it
pub one_more : {x : Load} {l : Lent} (n at : ℕ) (out : List ℕ) {y : Load} {k : Lent} → Steps x l n (take at out) y k
    → at + 7 ≤ length out → {bytes : List ℕ} → length bytes ≡ 7 → {z : Load} {j : Lent} → Step y k bytes z j
    → Steps x l (n + 1) (take (at + 7) (take at out ++ (bytes ++ drop (at + 7 - at) (drop at out)))) z j
one_more {x} {l} n at out steps room {bytes} long {z} {j} s =
    let e : suc n ≡ n + 1 = omega arith in
    subst₂ (λ m (bs : List ℕ). Steps x l m bs z j) e
    (sym (ap (take (at + 7)) (sym (append_assoc (take at out) bytes _))
    ∙ take_at (take at out ++ bytes) _ (at + 7) (length-append (take at out) bytes ∙ omega (arith, length-take-le at out (omega (arith, room)), long))))
    (next steps s)

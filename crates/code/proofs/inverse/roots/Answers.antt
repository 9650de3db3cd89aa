-- `code::inverse::roots` meets its contract: p is the product for the servers so far.
use Prim.Native.Nat.{ℕ, ◌+◌, ◌-◌, ◌<◌, ◌≤◌}
use mathlib.Core.Path.{◌≡◌, ap, ◌∙◌}
use mathlib.Core.List.{List}
use native.Mathlib.Omega.{arith}
use lib.ListN.{drop, get_or, length, length-drop, take}
use lib.Seq.{get_or-drop, get_or-take, length-take-le}
use Rattle.code.specs.inner.Lanes.{first_roots, rooted_once}
use Rattle.code.proofs.FirstRoots.{roots_one, roots_more}
use Rattle.code.proofs.inverse.roots.Goals as goal

-- the servers but the first
others : ℕ → List ℕ → List ℕ
others k servers = take (k - 1) (drop 1 servers)

long : (k : ℕ) (servers : List ℕ) → k ≤ length servers → length (others k servers) ≡ k - 1
unfolding others
long k servers h = length-take-le (k - 1) (drop 1 servers) (omega (arith, length-drop 1 servers))

at : (k : ℕ) (servers : List ℕ) (i : ℕ) → i < k - 1 → get_or (others k servers) i 0 ≡ get_or servers (i + 1) 0
unfolding others
at k servers i h =
    get_or-take (k - 1) (drop 1 servers) i 0 h ∙ get_or-drop 1 servers i 0 ∙ ap (λ n. get_or servers n 0) (omega arith)

pub loop-s-init : goal.loop-s-init
loop-s-init c =
    let u = c.requires in
    roots_one c.args.servers.now (omega (arith, u.enough, u.low)) (c.type_inv.servers 0).fits

pub root-p-requires : goal.root-p-requires
unfolding others
root-p-requires c =
    let u = c.requires in
    let a = c.args in
    let l = c.loop-s in
    let here : l.s-index < a.k - 1 = omega (arith, long a.k a.servers.now u.enough) in
    omega (arith, at a.k a.servers.now l.s-index here, u.server_high (l.s-index + 1) (omega arith))

pub loop-s-preserved : goal.loop-s-preserved
unfolding others
loop-s-preserved c =
    let u = c.requires in
    let a = c.args in
    let l = c.loop-s in
    let here : l.s-index < a.k - 1 = omega (arith, long a.k a.servers.now u.enough) in
    c.root-p.ensures
    ∙ ap (rooted_once l.p) (at a.k a.servers.now l.s-index here)
    ∙ ap (λ p. rooted_once p (get_or a.servers.now (l.s-index + 1) 0)) l.invariant
    ∙ roots_more (l.s-index + 1) a.servers.now (omega (arith, u.enough))

pub returns : goal.returns
unfolding others
returns c =
    let u = c.requires in
    let a = c.args in
    let l = c.loop-s in
    let last : l.s-index + 1 ≡ a.k = omega (arith, u.low, long a.k a.servers.now u.enough) in
    l.invariant ∙ ap (λ n. first_roots n a.servers.now) last

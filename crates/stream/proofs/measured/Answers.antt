-- `stream::measured` meets its contract. Assumes nothing.
use Rattle.std.proofs.Common.{◌≡◌, ℕ, ◌*◌, ◌≤◌, Bool, true, false, refl, ap, ◌∙◌, arith}
use Rattle.config.specs.declared.Config.{Config}
use Rattle.config.specs.declared.Lengths.{Lengths}
use Rattle.config.specs.Config.{Valid}
use Rattle.config.specs.Lengths.{messages_length, valid_lengths}
use Rattle.config.specs.Questions.{within}
use Rattle.config.proofs.Sizes.{lengths_valid}
use Rattle.events.proofs.Lengths.{all_elements_small, boards_small, stores_small}
use Rattle.stream.proofs.measured.Goals as goal

messages-small : (m : ℕ) → m ≤ 512 → messages_length m ≤ 40960
messages-small m h = told (within 1 512 m) refl
  where
    told : (b : Bool) → within 1 512 m ≡ b → messages_length m ≤ 40960
    told true e = rw e (omega (arith, h))
    told false e = rw e (omega arith)

-- the lengths of one server and one client, and those of all
record Small (cfg : Config) (x : Lengths) : Type 0 where
  messages : x.messages ≤ 40960
  stores : cfg.n * x.store ≤ 8192
  boards : cfg.c * x.board ≤ 16384
  elements : cfg.c * x.elements ≤ 16384

small : (cfg : Config) → Valid cfg → (m : ℕ) → m ≤ 512 → {x : Lengths} → x ≡ valid_lengths cfg m → Small cfg x
small cfg v m h e =
    record {
      messages = omega (arith, ap (λ (x : Lengths). x.messages) e, messages-small m h);
      stores = omega (arith, ap (λ (x : Lengths). cfg.n * x.store) e, stores_small cfg v);
      boards = omega (arith, ap (λ (x : Lengths). cfg.c * x.board) e, boards_small cfg v);
      elements = omega (arith, ap (λ (x : Lengths). cfg.c * x.elements) e, all_elements_small cfg v);
    }

pub overflow_mul-result : goal.overflow_mul-result
overflow_mul-result c =
    let s = c in
    let x = small s.args.cfg s.requires.0 s.args.m s.requires.1 (c.lengths-long.ensures ∙ lengths_valid s.args.cfg s.requires.0 s.args.m) in
    record { fits = omega (arith, x.stores) }

pub overflow_mul-result-2 : goal.overflow_mul-result-2
overflow_mul-result-2 c =
    let s = c in
    let x = small s.args.cfg s.requires.0 s.args.m s.requires.1 (c.lengths-long.ensures ∙ lengths_valid s.args.cfg s.requires.0 s.args.m) in
    record { fits = omega (arith, x.boards) }

pub overflow_mul-result-3 : goal.overflow_mul-result-3
overflow_mul-result-3 c =
    let s = c in
    let x = small s.args.cfg s.requires.0 s.args.m s.requires.1 (c.lengths-long.ensures ∙ lengths_valid s.args.cfg s.requires.0 s.args.m) in
    record { fits = omega (arith, x.elements) }

pub returns : goal.returns
returns c =
    let s = c in
    let x = small s.args.cfg s.requires.0 s.args.m s.requires.1 (c.lengths-long.ensures ∙ lengths_valid s.args.cfg s.requires.0 s.args.m) in
    (x.messages, x.stores, x.boards, x.elements)

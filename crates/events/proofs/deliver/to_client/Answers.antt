use Prim.Native.Nat.{ℕ, ◌-◌, ◌*◌, ◌≤◌}
use mathlib.Core.Path.{◌≡◌, sym, ap, ◌∙◌}
use mathlib.Core.List.{List, [], ◌++◌}
use native.Mathlib.Omega.{arith}
use lib.ListN.{length, take, drop, replicate, length-append, length-drop, length-replicate}
use lib.Seq.{length-take-le}
use Rattle.laws.proofs.Parts.{lent_is, over_lent, part_fits}
use Rattle.config.specs.Config.{board_length}
use Rattle.config.proofs.Sizes.{board_small, elements_small}
use Rattle.record.proofs.Records.{records_front}
use Rattle.events.proofs.Lengths.{all_elements_small, boards_small}
use Rattle.events.proofs.deliver.Laws.{received_done, received_full, taken_long}
use Rattle.events.proofs.outcome.Laws.{sent_room}
use Rattle.events.proofs.deliver.to_client.Goals as goal

-- the front of the code's buffer for sends
zeros-front : (n : ℕ) → n ≤ 16 → length (take (80 * n - 0) (replicate {A = ℕ} 1280 0)) ≡ 80 * n
zeros-front n h =
    let e : 80 * n - 0 ≡ 80 * n = omega arith in
    ap (λ k. length (take k (replicate {A = ℕ} 1280 0))) e
    ∙ length-take-le (80 * n) (replicate {A = ℕ} 1280 0) (omega (arith, h, length-replicate {A = ℕ} 1280 0))

-- and all of it, with others at its front
zeros-behind : (n : ℕ) (xs : List ℕ) → n ≤ 16 → length xs ≡ 80 * n → length (xs ++ drop (80 * n - 0) (replicate {A = ℕ} 1280 0)) ≡ 1280
zeros-behind n xs h long =
    length-append xs (drop (80 * n - 0) (replicate {A = ℕ} 1280 0))
    ∙ omega (arith, h, long, length-drop (80 * n - 0) (replicate {A = ℕ} 1280 0), length-replicate {A = ℕ} 1280 0)

pub overflow_mul-long : goal.overflow_mul-long
overflow_mul-long c = let s = c in omega (arith, board_small s.args.cfg s.requires.part.valid)

pub overflow_mul-at : goal.overflow_mul-at
overflow_mul-at c =
    let s = c in
    let a = s.args in
    omega (arith, part_fits a.part.client a.cfg.c (board_length a.cfg) s.requires.part.client, boards_small a.cfg s.requires.part.valid)

pub overflow_add-to : goal.overflow_add-to
overflow_add-to c =
    let s = c in
    let a = s.args in
    omega (arith, part_fits a.part.client a.cfg.c (board_length a.cfg) s.requires.part.client, boards_small a.cfg s.requires.part.valid)

pub overflow_mul-wide : goal.overflow_mul-wide
overflow_mul-wide c = let s = c in omega (arith, elements_small s.args.cfg s.requires.part.valid)

pub overflow_mul-start : goal.overflow_mul-start
overflow_mul-start c =
    let s = c in
    let a = s.args in
    omega (arith, part_fits a.part.client a.cfg.c (a.cfg.n * a.cfg.e) s.requires.part.client, all_elements_small a.cfg s.requires.part.valid)

pub overflow_add-stop : goal.overflow_add-stop
overflow_add-stop c =
    let s = c in
    let a = s.args in
    omega (arith, part_fits a.part.client a.cfg.c (a.cfg.n * a.cfg.e) s.requires.part.client, all_elements_small a.cfg s.requires.part.valid)

pub overflow_mul-end : goal.overflow_mul-end
overflow_mul-end c = let s = c in omega (arith, s.requires.part.valid.n_high)

pub slice_bounds-client-end : goal.slice_bounds-client-end
slice_bounds-client-end c = let s = c in sym (taken_long s.requires.handing s.requires.part.fits)

pub slice_bounds-client-end-2 : goal.slice_bounds-client-end-2
slice_bounds-client-end-2 c =
    let s = c in
    let a = s.args in
    omega (arith, part_fits a.part.client a.cfg.c (board_length a.cfg) s.requires.part.client, s.requires.boards_long)

pub slice_bounds-client-end-3 : goal.slice_bounds-client-end-3
slice_bounds-client-end-3 c =
    let s = c in
    let a = s.args in
    omega (arith, part_fits a.part.client a.cfg.c (a.cfg.n * a.cfg.e) s.requires.part.client, s.requires.elements_long)

pub slice_bounds-sends-end : goal.slice_bounds-sends-end
slice_bounds-sends-end c = let s = c in omega (arith, s.requires.part.valid.n_high)

pub overflow_sub-part : goal.overflow_sub-part
overflow_sub-part c = let s = c in omega (arith, s.requires.handing.inside)

pub overflow_add-part : goal.overflow_add-part
overflow_add-part c =
    let s = c in
    let n = s.args.cfg.n in
    let high = s.requires.part.valid.n_high in
    omega (arith, sent_room s.requires.part.valid.e_high (c.client-acted.ensures []).acts, c.sends-2-1.given ∙ zeros-front n high, high, s.requires.part.few)

pub returns-then-m-part : goal.returns-then-m-part
returns-then-m-part c =
    let s = c in
    let a = s.args in
    let v = board_length a.cfg in
    let wide = a.cfg.n * a.cfg.e in
    let w = c.client-acted in
    received_full a.cfg a.m s.requires.part.valid.e_high a.part a.call a.handed a.read.now a.messages.now a.boards.now a.elements.now
    s.requires.handing.inside s.requires.handing.taken s.requires.handing.kind w.result _ _ w.new.elements _ _ _ _ c.refused.result
    (lent_is a.boards.now (a.part.client * v) v) (lent_is a.elements.now (a.part.client * wide) wide)
    (over_lent (a.part.client * wide) wide w.new.elements a.elements.now) (zeros-front a.cfg.n s.requires.part.valid.n_high) w.ensures
    c.refused.ensures c.if-m-part.true

pub slice_bounds-settle-end : goal.slice_bounds-settle-end
slice_bounds-settle-end c =
    let s = c in
    let n = s.args.cfg.n in
    let high = s.requires.part.valid.n_high in
    sym (zeros-behind n c.client-acted.new.sends high (c.sends-2-1.given ∙ zeros-front n high))

pub settle-requires : goal.settle-requires
settle-requires c =
    let s = c in
    let n = s.args.cfg.n in
    let high = s.requires.part.valid.n_high in
    let long = c.sends-2-1.given ∙ zeros-front n high in
    omega (arith, sent_room s.requires.part.valid.e_high (c.client-acted.ensures []).acts, long, high, zeros-behind n c.client-acted.new.sends high long)

pub returns : goal.returns
returns c =
    let s = c in
    let a = s.args in
    let v = board_length a.cfg in
    let wide = a.cfg.n * a.cfg.e in
    let w = c.client-acted in
    received_done a.cfg a.m s.requires.part.valid.e_high a.part a.call a.handed a.read.now a.messages.now a.boards.now a.elements.now
    s.requires.handing.inside s.requires.handing.taken s.requires.handing.kind w.result _ _ w.new.elements _ w.new.sends _ _ c.settle.result
    (lent_is a.boards.now (a.part.client * v) v) (lent_is a.elements.now (a.part.client * wide) wide)
    (over_lent (a.part.client * wide) wide w.new.elements a.elements.now) (zeros-front a.cfg.n s.requires.part.valid.n_high) w.ensures
    _ _ (records_front w.result.sent w.new.sends _ (sent_room s.requires.part.valid.e_high (w.ensures []).acts))
    c.settle.ensures c.if-m-part.false

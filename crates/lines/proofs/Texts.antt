-- Texts put into a buffer, one after another.
use Rattle.std.proofs.Common.{◌≡◌, ℕ, zero, suc, ◌+◌, ◌-◌, ◌*◌, ◌/◌, ◌%◌, ◌<◌, ◌≤◌, min, List, [], ◌∷◌, ◌++◌, length, get_or, take, drop, set, sym, refl, ap, ◌∙◌, ap₂, subst₂, append_assoc, add-zero, add-one, arith, length-append, length-set, take-append-drop, length-take-le, take-suc, drop-drop, take_at}
use lib.Seq.{set_split}
use Rattle.laws.specs.Parts.{over}
use Rattle.laws.proofs.Parts.{over_copied_rest, over_length, over_rest}
use Rattle.io.specs.Digits.{hex_digit_ascii}
use Rattle.lines.specs.Line.{blank, bytes_of, hex_of}
use Rattle.lines.specs.Text.{Appended}

-- bytes put behind others that were put there
over_joined : (out : List ℕ) (a : ℕ) (s t : List ℕ) → a + length s + length t ≤ length out
    → over (a + length s) (length t) t (over a (length s) s out) ≡ over a (length (s ++ t)) (s ++ t) out
over_joined out a s t room =
    ap₂ (λ (x y : List ℕ). x ++ (t ++ y)) front (rest ∙ ap (λ (n : ℕ). drop n out) both)
    ∙ append_assoc (take a out) s (t ++ drop (a + length (s ++ t)) out)
    ∙ ap (λ (l : List ℕ). take a out ++ l) (sym (append_assoc s t (drop (a + length (s ++ t)) out)))
  where
    both : a + length s + length t ≡ a + length (s ++ t)
    both = omega (arith, length-append s t)

    fits : a + length s ≤ length out
    fits = omega (arith, room)

    front : take (a + length s) (over a (length s) s out) ≡ take a out ++ s
    front =
        ap (take (a + length s)) (sym (append_assoc (take a out) s (drop (a + length s) out)))
        ∙ take_at (take a out ++ s) (drop (a + length s) out) (a + length s)
        (omega (arith, length-append (take a out) s, length-take-le a out (omega (arith, fits))))

    rest : drop (a + length s + length t) (over a (length s) s out) ≡ drop (a + length s + length t) out
    rest =
        sym (drop-drop (length t) (a + length s) (over a (length s) s out))
        ∙ ap (drop (length t)) (over_rest a (length s) s out refl fits)
        ∙ drop-drop (length t) (a + length s) out

-- a second text after the first
pub joined : {out : List ℕ} {a : ℕ} {s mid : List ℕ} {b : ℕ} {t last : List ℕ} {r : ℕ} → Appended out a s mid b → Appended mid b t last r
    → Appended out a (s ++ t) last r
joined {out} {a} {s} {mid} {b} {t} {last} {r} p q =
    let long : length mid ≡ length out =
    ap length p.whole ∙ over_length a (length s) s out refl (omega (arith, p.place, p.room)) in
    record {
      place = omega (arith, p.place, q.place, length-append s t);
      room = omega (arith, q.room, long);
      whole =
          q.whole
          ∙ ap₂ (λ (n : ℕ) (l : List ℕ). over n (length t) t l) p.place p.whole
          ∙ over_joined out a s t (omega (arith, p.place, q.place, q.room, long));
    }

-- no text
pub nothing : (out : List ℕ) (a : ℕ) → a ≤ length out → Appended out a [] out a
nothing out a h =
    record { place = omega arith; room = h; whole = rw add-zero (sym (take-append-drop a out)) }

-- the same text and place
pub recast : {out : List ℕ} {a : ℕ} {s t last : List ℕ} {r u : ℕ} → s ≡ t → r ≡ u → Appended out a s last r → Appended out a t last u
recast {out} {a} {s} {t} {last} e f p = subst₂ (λ (x : List ℕ) (y : ℕ). Appended out a x last y) e f p

-- one byte
pub one : (out : List ℕ) (a x : ℕ) → a < length out → Appended out a (x ∷ []) (set out a x) (a + 1)
one out a x h = record { place = refl; room = omega (arith, h); whole = rw add-one (set_split out a x h) }

-- the bytes of a word, copied into the buffer's part from the place on
pub copied : (out : List ℕ) (a : ℕ) (w part : List ℕ) (n : ℕ) → a + length w ≤ length out → n ≡ length w
    → part ≡ take (length w) w ++ drop (length w) (take (length out - a) (drop a out))
    → Appended out a w (take a out ++ (part ++ drop (length out - a) (drop a out))) (a + n)
copied out a w part n h e p =
    record {
      place = ap (λ (k : ℕ). a + k) e;
      room = omega (arith, h, e);
      whole = over_copied_rest a (length w) w out part refl h p;
    }

-- the digits of one more byte
pub hexed : (bs : List ℕ) (b : ℕ) → hex_of (bs ++ (b ∷ [])) ≡ hex_of bs ++ (hex_digit_ascii (b / 16) ∷ hex_digit_ascii (b % 16) ∷ [])
unfolding hex_of
hexed [] b = refl
hexed (x ∷ bs) b = ap (λ (l : List ℕ). hex_digit_ascii (x / 16) ∷ hex_digit_ascii (x % 16) ∷ l) (hexed bs b)

pub hex_length : (bs : List ℕ) → length (hex_of bs) ≡ 2 * length bs
unfolding hex_of
hex_length [] = refl
hex_length (x ∷ bs) = omega (arith, hex_length bs)

pub hex_next : (bs : List ℕ) (i : ℕ) → i < length bs
    → hex_of (take (i + 1) bs) ≡ hex_of (take i bs) ++ (hex_digit_ascii (get_or bs i 0 / 16) ∷ hex_digit_ascii (get_or bs i 0 % 16) ∷ [])
hex_next bs i h = rw (add-one, take-suc bs i 0 h) (hexed (take i bs) (get_or bs i 0))

-- the digits of one more byte are put into the buffer
pub hex_put : (bs start out : List ℕ) (a i to x y : ℕ) → i < length bs → to + 1 < length out → x ≡ hex_digit_ascii (get_or bs i 0 / 16)
    → y ≡ hex_digit_ascii (get_or bs i 0 % 16) → Appended start a (hex_of (take i bs)) out to
    → Appended start a (hex_of (take (i + 1) bs)) (set (set out to x) (to + 1) y) (to + 2)
hex_put bs start out a i to x y h room ex ey p =
    recast
    (ap₂ (λ (g h : ℕ). hex_of (take i bs) ++ (g ∷ h ∷ [])) ex ey ∙ sym (hex_next bs i h))
    (omega arith)
    (joined p (joined (one out to x (omega arith)) (one (set out to x) (to + 1) y (omega (arith, length-set out to x)))))

-- as many of the bytes as a length says
take_lesser : (n : ℕ) (bs : List ℕ) → take (min n (length bs)) bs ≡ take n bs
take_lesser zero bs = let e : min zero (length bs) ≡ 0 = omega arith in ap (λ (k : ℕ). take k bs) e
take_lesser (suc n) [] = let e : min (suc n) 0 ≡ 0 = omega arith in ap (λ (k : ℕ). take {A = ℕ} k []) e
take_lesser (suc n) (b ∷ bs) =
    let e : min (suc n) (length (b ∷ bs)) ≡ suc (min n (length bs)) = omega arith in
    ap (λ (k : ℕ). take k (b ∷ bs)) e ∙ ap (λ (l : List ℕ). b ∷ l) (take_lesser n bs)

-- they are none
pub none_shown : (n : ℕ) (bs : List ℕ) → min n (length bs) ≡ 0 → [] ≡ bytes_of (take n bs)
unfolding bytes_of
none_shown n bs e = sym (ap bytes_of (sym (take_lesser n bs) ∙ ap (λ (k : ℕ). take k bs) e))

-- they are some
some_bytes : (bs : List ℕ) → (length bs ≡ 0 → ⊥) → blank ++ hex_of bs ≡ bytes_of bs
unfolding bytes_of
some_bytes [] h = absurd (h refl)
some_bytes (b ∷ bs) h = refl

pub some_shown : (n end : ℕ) (bs : List ℕ) → end ≡ min n (length bs) → (end ≡ 0 → ⊥) → blank ++ hex_of (take end bs) ≡ bytes_of (take n bs)
some_shown n end bs e h =
    some_bytes (take end bs) (λ none. h (sym (length-take-le end bs (omega (arith, e))) ∙ none))
    ∙ ap (λ (k : ℕ). bytes_of (take k bs)) e ∙ ap bytes_of (take_lesser n bs)

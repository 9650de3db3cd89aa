-- What the bytes of a configuration and of a state tell. Assumes nothing.
use Prim.Native.Nat.{ℕ, ◌-◌}
use mathlib.Core.Path.{◌≡◌, refl, sym, ap, ◌∙◌}
use mathlib.Core.Bool.{true}
use mathlib.Core.List.{List, [], ◌∷◌, ◌++◌}
use native.Mathlib.Omega.{arith}
use borrow.Author.Tests.{eq-eqb, ne_eqb}
use lib.Dec.{eqb}
use lib.ListN.{length, take, drop, length-drop}
use lib.Seq.{take_all}
use Rattle.std.specs.Result.{IsErrAnd}
use Rattle.std.proofs.Common.{Result, Ok, Err}
use Rattle.laws.proofs.Parts.{copied}
use Rattle.config.specs.declared.Config.{Config}
use Rattle.config.specs.declared.Refusal.{Refusal}
use Rattle.config.specs.Questions.{Question, ask, first_no, numbered}
use Rattle.config.specs.Refusal.{refusal_number, verdict_number}
use Rattle.config.proofs.Questions.{first_no_no, first_no_yes, passes, stops}
use Rattle.config.proofs.Refusals.{refusal_low}
use Rattle.states.specs.declared.clients.Unpacked as clients
use Rattle.states.specs.declared.servers.Unpacked as servers
use Rattle.states.specs.Clients as clientBytes
use Rattle.states.specs.Servers as serverBytes
use Rattle.host.specs.Config.{client_questions, config_length, config_of, server_questions}
use Rattle.host.specs.inner.Told.{ClientTold, ConfigRead, ServerTold, Told}

-- the length's question
abbrev pub of_length : List ℕ → List Question
of_length bytes = ask 6 (eqb (length bytes) config_length) ∷ []

pub length_numbered : (bytes : List ℕ) → numbered (of_length bytes) ≡ true
unfolding numbered
length_numbered bytes = refl

-- bytes of another length
pub read_short : (bytes : List ℕ) → (length bytes ≡ config_length → ⊥) → 6 ≡ first_no (of_length bytes)
read_short bytes short = sym (first_no_no 6 (eqb (length bytes) config_length) [] (ne_eqb (length bytes) config_length short))

-- 21 bytes
pub read_whole : (bytes : List ℕ) → length bytes ≡ config_length → 0 ≡ first_no (of_length bytes)
unfolding first_no
read_whole bytes long = sym (first_no_yes 6 (eqb (length bytes) config_length) [] (eq-eqb (length bytes) config_length long))

-- the ranks that are copied are the last 16
module _ (bytes : List ℕ) (long : length bytes ≡ config_length) where
  abbrev pub ranks_in : List ℕ
  ranks_in = take (length bytes - 5) (drop 5 bytes)

  ranks_are : ranks_in ≡ drop 5 bytes
  ranks_are = take_all (length bytes - 5) (drop 5 bytes) (omega (arith, length-drop 5 bytes))

  ranks_long : length ranks_in ≡ 16
  ranks_long = ap length ranks_are ∙ omega (arith, length-drop 5 bytes)

  pub ranks_copied : (ranks out : List ℕ) → length ranks ≡ 16 → out ≡ take (length ranks_in) ranks_in ++ drop (length ranks_in) ranks → out ≡ drop 5 bytes
  ranks_copied ranks out sixteen e = e ∙ copied ranks_in ranks (length ranks_in) refl (sixteen ∙ sym ranks_long) ∙ ranks_are

-- ---- what is told

-- a refusal of the first no
pub untold : {T : Type 0} (r : Result T Refusal) (why : Refusal) (asks : List Question) (x : T) → IsErrAnd r (λ e. e ≡ why)
    → refusal_number why ≡ first_no asks → Told asks x r
untold (Ok given) why asks x h e = absurd h
untold (Err w) why asks x h e = record { number = ap refusal_number h ∙ e; gives = tt }

-- its number is that of what is asked first, whatever is asked behind it, and not 0
module _ {T : Type 0} {asks : List Question} {x : T} {why : Refusal} {n : ℕ} (told : Told asks x (Err why)) (is : n ≡ refusal_number why) where
  pub not_zero : n ≡ 0 → ⊥
  not_zero z = omega (arith, refusal_low why, is, z)

  pub first_told : n ≡ first_no asks
  first_told = is ∙ told.number

  pub stops_told : (rest : List Question) → n ≡ first_no (asks ++ rest)
  stops_told rest = stops asks rest n first_told not_zero

-- where nothing is refused, it is that of what is asked behind it
pub passes_told : {T : Type 0} {asks : List Question} {x y : T} → Told asks x (Ok y) → numbered asks ≡ true → (rest : List Question) (n : ℕ)
    → n ≡ first_no rest → n ≡ first_no (asks ++ rest)
passes_told {asks = asks} told known rest n e = passes asks rest 0 n known told.number refl e

-- ---- what is asked behind the length

module _ {T : Type 0} (config : List ℕ) (asks : Config → List Question) (x : T) where
  abbrev all : List Question
  all = of_length config ++ asks (config_of config)

  pub unread : (r : Result T Refusal) (why : Refusal) → IsErrAnd r (λ e. e ≡ why) → ConfigRead config (Err why) → Told all x r
  unread r why h told = untold r why all x h (stops_told told refl (asks (config_of config)))

  module _ {cfg : Config} (read : ConfigRead config (Ok cfg)) where
    behind : (n : ℕ) → n ≡ first_no (asks cfg) → n ≡ first_no all
    behind n e = passes_told read (length_numbered config) (asks (config_of config)) n (e ∙ ap (λ (y : Config). first_no (asks y)) read.gives)

    pub refused : (r : Result T Refusal) (why : Refusal) → IsErrAnd r (λ e. e ≡ why) → refusal_number why ≡ first_no (asks cfg) → Told all x r
    refused r why h e = untold r why all x h (behind (refusal_number why) e)

    pub given : (y : T) → 0 ≡ first_no (asks cfg) → y ≡ x → Told all x (Ok y)
    given y e is = record { number = behind 0 e; gives = is }

-- the state is unpacked
module _ (config state : List ℕ) {cfg : Config} (read : ConfigRead config (Ok cfg)) where
  pub server_given : (u : servers.Unpacked) → serverBytes.UnpackPost cfg state u → 0 ≡ verdict_number u.verdict
      → ServerTold config state (Ok (record { cfg = cfg; state = u.state }))
  unfolding server_questions
  server_given u post e =
      let none = e ∙ post.number in
      let is : u.state ≡ serverBytes.state_of state = post.state ∙ rw (eq-eqb (first_no (serverBytes.unpack_questions cfg state)) 0 (sym none)) in
      given config (λ cfg. serverBytes.unpack_questions cfg state) _ read _ none (λ i. record { cfg = read.gives i; state = is i })

  pub client_given : (u : clients.Unpacked) → clientBytes.UnpackPost cfg state u → 0 ≡ verdict_number u.verdict
      → ClientTold config state (Ok (record { cfg = cfg; state = u.state }))
  unfolding client_questions
  client_given u post e =
      let none = e ∙ post.number in
      let is : u.state ≡ clientBytes.state_of state = post.state ∙ rw (eq-eqb (first_no (clientBytes.unpack_questions cfg state)) 0 (sym none)) in
      given config (λ cfg. clientBytes.unpack_questions cfg state) _ read _ none (λ i. record { cfg = read.gives i; state = is i })

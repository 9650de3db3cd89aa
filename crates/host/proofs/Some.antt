-- There are runs: fresh parties of a configuration with one server and one client, and a starting board of one byte. Assumes nothing.
use Prim.Native.Nat.{ℕ, zero, suc}
use mathlib.Core.Path.{◌≡◌, refl}
use mathlib.Core.Bool.{true}
use mathlib.Core.List.{List, [], ◌∷◌, ◌++◌}
use native.Mathlib.Omega.{arith}
use borrow.Author.Tests.{eq-eqb}
use lib.ListN.{length, replicate}
use Rattle.laws.specs.Below.{all_below}
use Rattle.laws.specs.Bytes.{Bytes, joined, tabulate}
use Rattle.config.specs.Config.{questions, rank, ranks_within}
use Rattle.config.specs.Questions.{first_no, within}
use Rattle.code.specs.Element.{element}
use Rattle.code.specs.Encode.{encode_questions}
use Rattle.code.proofs.Decoding.{length_element}
use Rattle.record.specs.Record.{four_bytes, two_bytes}
use Rattle.server.specs.Calls as server
use Rattle.client.specs.Calls as client
use Rattle.client.specs.Servers.{member}
use Rattle.states.specs.Bytes.{tag_row}
use Rattle.states.specs.Clients as clients
use Rattle.states.specs.Servers as servers
use Rattle.host.specs.Calls.{fresh_client_questions, fresh_server_questions}
use Rattle.host.specs.Config.{config_of, config_questions}
use Rattle.host.specs.Runs.{ClientMade, Kept, Runs, ServerMade, made}

-- N, k, E and C are 1, D is 0
abbrev config : List ℕ
config = 1 ∷ 1 ∷ 0 ∷ 1 ∷ 1 ∷ replicate 16 0

abbrev start : List ℕ
start = 0 ∷ []

abbrev its_element : ℕ → List ℕ
its_element s = element (config_of config) start s

abbrev kept : Kept
kept =
    record {
      servers = λ s. record { state = servers.packed (server.fresh_state (record { 0 = s }) 1); store = its_element s ++ [] };
      clients = λ c. record { state = clients.packed (client.fresh_state (record { 0 = c })); board = []; elements = [] };
      sent = [];
    }

asked : first_no (config_questions config) ≡ 0
unfolding config_questions first_no questions ranks_within rank all_below
asked = refl

server_back : (s : ℕ) → servers.PackPost (server.fresh_state (record { 0 = s }) 1) (servers.packed (server.fresh_state (record { 0 = s }) 1))
unfolding servers.packed servers.state_of servers.tidy servers.head_row servers.floor_row servers.stored_row server.fresh_state tag_row four_bytes two_bytes joined tabulate
server_back s = record { bytes = refl; back = refl }

client_back : (c : ℕ) → clients.PackPost (client.fresh_state (record { 0 = c })) (clients.packed (client.fresh_state (record { 0 = c })))
unfolding member clients.packed_with clients.state_of clients.tidy clients.head_row clients.sent_length clients.numbers_of clients.phase_of tag_row four_bytes two_bytes joined tabulate
client_back c = record { bytes = refl; back = refl }

server-made : (s : ℕ) → within 1 1 s ≡ true → ServerMade config start s (kept.servers s)
unfolding config_questions fresh_server_questions first_no questions ranks_within rank all_below encode_questions
server-made s here =
    record {
      part = 0 ∷ [];
      element = its_element s;
      state_before = replicate 88 0;
      store_before = 0 ∷ [];
      encoded = record { number = rw here; encodes = refl };
      made = record {
        number = rw (here, eq-eqb (length (its_element s)) 1 (length_element (config_of config) start s));
        made = λ _. server_back s;
        stays = λ refuses. absurd (refuses refl);
        stored = refl;
      };
    }

client-made : (c : ℕ) → within 1 1 c ≡ true → ClientMade config c (kept.clients c)
unfolding config_questions fresh_client_questions first_no questions ranks_within rank all_below
client-made c here =
    record {
      state_before = replicate 56 0;
      made = record { number = rw here; made = λ _. client_back c; stays = λ refuses. absurd (refuses refl) };
    }

bytes : Bytes start
bytes zero = omega arith
bytes (suc i) = omega arith

pub some_run : Runs config start kept []
some_run = made asked bytes server-made client-made refl

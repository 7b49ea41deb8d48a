-- Give and take are reductions with the bench as the other thread: (send) and (recv), and then uses of (reclaim). No rule of document 01's own is needed. Assumes
-- nothing but what the table grants.
use Rattle.std.specs.Prelude.{ℕ, ◌<◌, ◌≡◌, true, length, set, Some}
use Rattle.std.proofs.Common.{arith, ◌∙◌, ap}
use Rattle.std.proofs.Math.Path.{refl}
use mathlib.Core.List.{List, [], ◌∷◌}
use Rattle.table.specs.Table.{Table, ports, carried}
use Rattle.table.specs.Layout.{definition_of, slot_type}
use Rattle.state.specs.State.{State, max_threads, max_channels, thread, stands_at, in_use, type_in, with_thread}
use Rattle.rules.specs.Program.{branch_at, next_of, field_b}
use Rattle.rules.specs.Start.{free_row}
use Rattle.rules.specs.Offers.{partner_of}
use Rattle.rules.specs.Moves.{met_by, value_by, met_by_bench}
use Rattle.rules.specs.Calls.{bench}
use Rattle.rules.specs.declared.Direction.{Direction}
use Rattle.rules.specs.declared.Direction.TheVariants.{Out, In}
use Rattle.rules_laws.specs.Granted.{Granted}
use Rattle.rules_laws.specs.Reading.Laws.{ready_used, waiting_used}
use Rattle.rules_laws.specs.Soundness.{RowSound, Sound}
use Rattle.rules_laws.specs.Onward.{met_by_ready}
use Rattle.rules_laws.specs.Meetings.{meets_by, value_type}
use Rattle.rules_laws.specs.Chosen.{Answering, partner_answers}
use Rattle.published.specs.Syntax.{Process, choice, Sum, branch, always, output, input}
use Rattle.published.specs.Agents as Agents
use Rattle.published.specs.Agents.{Env, look, bind, Commitment, Thread, Agent}
use Rattle.published.specs.Rules.{Rearranged, same_first, send, recv, last}
use Rattle.published.specs.Fired.{by_send, by_recv, fired, Labels, firing, Ends, TurnBy, SteppedBy}
use Rattle.published.specs.ProductLaws.{turned_back}
use Rattle.published_laws.specs.Readable.{Readable}
use Rattle.published_laws.specs.Standing.{process_at, waiting_thread, thread_of, threads_of, env_of, channels_of, agent_of}
use Rattle.published_laws.specs.Environments.{number_value, look_filled}
use Rattle.published_laws.specs.Products.{Bench, waiting_thread_lem, stored_first, row_first}
use Rattle.published_laws.proofs.Reclaims.{counted_anew}
use Rattle.published_laws.specs.Commitments.{pledge}
use Rattle.published_laws.specs.Afterwards.{gave_thread, received_thread}
use Rattle.published_laws.proofs.Alone.{turn_by_lem}
use Rattle.published_laws.proofs.Together.{met_commits}

module _ (tb : Table) (g : Granted tb) (rd : Readable tb) (s : State) (ok : Sound tb s) (p u j : ℕ) (port : p < ports tb) (def : ℕ → Process)
    (More : Agent → Agent → Type 0) (own : Labels More) where
  inside : u < max_threads → u < length s.threads
  inside l = rw ok.orderly.shaped.all_threads l

  same_channels : (row : List ℕ) → length (with_thread s u row).channels ≡ max_channels
  unfolding with_thread
  same_channels row = ok.orderly.shaped.all_channels

  abbrev rest : List Thread
  rest = threads_of tb (set s.threads u free_row)

  -- ---- the thread that is met

  module _ (d : Direction) (a : Answering tb s bench d p u j) where
    used : in_use (thread s u) ≡ true
    used = waiting_used (thread s u) a.waits

    sound : RowSound tb (type_in s) (thread s u)
    sound = ok.orderly.row u a.thread_in

    -- ports carry numbers
    number_slot : slot_type tb (definition_of tb (stands_at (thread s u))) (field_b tb (branch_at tb (stands_at (thread s u)) j)) ≡ 0
    number_slot =
        value_type tb g (type_in s) (thread s u) sound used j a.branch_in d a.does
        ∙ ap (λ (c : ℕ). carried tb (type_in s c)) a.is ∙ ap (carried tb) (ok.orderly.port p port) ∙ g.port_carries (omega arith)

    -- the commitment of it that is used
    abbrev used_up : Commitment
    used_up = pledge d p (field_b tb (branch_at tb (stands_at (thread s u)) j)) (process_at tb (next_of tb (stands_at (thread s u)) (branch_at tb (stands_at (thread s u)) j)))

    met_first : Rearranged (threads_of tb s.threads) (waiting_thread tb (thread s u) ∷ rest)
    met_first = rw (waiting_thread_lem tb (thread s u) a.waits) at (row_first tb s.threads u (inside a.thread_in) used)

    after_first : (v : ℕ) → Rearranged (threads_of tb (set s.threads u (met_by tb (thread s u) j v))) (thread_of tb (met_by tb (thread s u) j v) ∷ rest)
    after_first v =
        stored_first tb s.threads u (met_by tb (thread s u) j v) (inside a.thread_in) (ready_used (met_by tb (thread s u) j v) (met_by_ready tb (thread s u) j v))

  -- ---- give

  module _ (δ : Env) (c x v : ℕ) (E : Process) (q : Sum) (on : look δ c ≡ Some (Agents.channel p)) (has : look δ x ≡ Some (Agents.number v)) where
    -- the bench about to send the number v on port p, and after it
    abbrev giver : Thread
    giver = Agents.thread [] δ (choice (branch always (output c x) E q))

    abbrev gave : Thread
    gave = Agents.thread [] δ E

    sent : (a : Answering tb s bench In p u j)
        → TurnBy def More own (agent_of tb giver s) giver (fired 0 (by_send (waiting_thread tb (thread s u)) (used_up In a)))
        (agent_of tb gave (with_thread s u (met_by tb (thread s u) j v)))
    unfolding agent_of channels_of with_thread waiting_thread pledge Agents.holds firing Ends
    sent a =
        let b = branch_at tb (stands_at (thread s u)) j in
        let fits = number_value (slot_type tb (definition_of tb (stands_at (thread s u))) (field_b tb b)) v (number_slot In a) in
        let end : Rearranged (gave ∷ (Agents.thread [] (bind (env_of tb (thread s u)) (field_b tb b) (Agents.number v)) _ ∷ rest))
        (gave ∷ threads_of tb (set s.threads u (met_by tb (thread s u) j v))) =
        rw (received_thread tb g (type_in s) (thread s u) (sound In a) (used In a) j a.branch_in a.does v (Agents.number v) fits)
        at (same_first {t = gave} (turned_back (after_first In a v))) in
        turn_by_lem def More own (fired 0 (by_send (waiting_thread tb (thread s u)) (used_up In a))) (same_first (met_first In a))
        (last (send p (field_b tb b) (Agents.number v) refl on (met_commits tb s bench u j p In a) has), refl) end

    -- the thread that is found to receive goes on with v
    pub give_reduced : partner_of tb s bench In p ≡ Some (u, j) → Bench tb gave
        → (k : Commitment) × SteppedBy def More own (agent_of tb (Agents.thread [] δ (choice (branch always (output c x) E q))) s)
        (Agents.thread [] δ (choice (branch always (output c x) E q))) (fired 0 (by_send (thread_of tb (thread s u)) k))
        (agent_of tb (Agents.thread [] δ E) (met_by_bench tb s u j v))
    unfolding met_by_bench
    give_reduced e bn =
        let row = met_by tb (thread s u) j v in
        let a = partner_answers tb s bench In p u j e in
        let h = sent a in (
          used_up In a,
          rw (waiting_thread_lem tb (thread s u) a.waits) (record {
            stepped = record {
              between = agent_of tb gave (with_thread s u row);
              turn = h.turn;
              reclaimed = counted_anew tb (with_thread s u row) (same_channels row) gave bn;
            };
            ends = h.ends;
          }),
        )

  -- ---- take

  module _ (δ : Env) (c x : ℕ) (E : Process) (q : Sum) (on : look δ c ≡ Some (Agents.channel p)) where
    abbrev taker : Thread
    taker = Agents.thread [] δ (choice (branch always (input c x) E q))

    abbrev took : Thread
    took = Agents.thread [] (bind δ x (Agents.number (value_by tb (thread s u) j))) E

    received : (a : Answering tb s bench Out p u j)
        → TurnBy def More own (agent_of tb taker s) taker (fired 0 (by_recv (waiting_thread tb (thread s u)) (used_up Out a)))
        (agent_of tb took (with_thread s u (met_by tb (thread s u) j 0)))
    unfolding agent_of channels_of with_thread waiting_thread pledge Agents.holds value_by firing Ends
    received a =
        let b = branch_at tb (stands_at (thread s u)) j in
        let m = meets_by tb g (type_in s) (thread s u) (sound Out a) (used Out a) j a.branch_in Out a.does in
        let has = look_filled tb g rd (type_in s) (thread s u) (sound Out a) (used Out a) (field_b tb b) m.with_slot_lem
        ∙ number_value (slot_type tb (definition_of tb (stands_at (thread s u))) (field_b tb b)) (value_by tb (thread s u) j) (number_slot Out a) in
        let end = rw (gave_thread tb g (type_in s) (thread s u) (sound Out a) (used Out a) j a.branch_in a.does 0)
        at (same_first {t = took} (turned_back (after_first Out a 0))) in
        turn_by_lem def More own (fired 0 (by_recv (waiting_thread tb (thread s u)) (used_up Out a))) (same_first (met_first Out a))
        (last (recv p (field_b tb b) (Agents.number (value_by tb (thread s u) j)) refl on (met_commits tb s bench u j p Out a) has), refl) end

    -- the thread that is found to send goes on, and the bench has its number
    pub take_reduced : partner_of tb s bench Out p ≡ Some (u, j) → Bench tb took
        → (k : Commitment) × SteppedBy def More own (agent_of tb (Agents.thread [] δ (choice (branch always (input c x) E q))) s)
        (Agents.thread [] δ (choice (branch always (input c x) E q))) (fired 0 (by_recv (thread_of tb (thread s u)) k))
        (agent_of tb (Agents.thread [] (bind δ x (Agents.number (value_by tb (thread s u) j))) E) (met_by_bench tb s u j 0))
    unfolding met_by_bench
    take_reduced e bn =
        let row = met_by tb (thread s u) j 0 in
        let a = partner_answers tb s bench Out p u j e in
        let h = received a in (
          used_up Out a,
          rw (waiting_thread_lem tb (thread s u) a.waits) (record {
            stepped = record {
              between = agent_of tb took (with_thread s u row);
              turn = h.turn;
              reclaimed = counted_anew tb (with_thread s u row) (same_channels row) took bn;
            };
            ends = h.ends;
          }),
        )

-- A spawn and a meeting are reductions: (spawn), (send), (recv). Assumes nothing but what the table grants.
use Rattle.std.specs.Prelude.{ℕ, ◌<◌, ◌≡◌, refl, ◌≢◌, length, Some}
use Rattle.std.proofs.Common.{arith, ◌∙◌}
use Rattle.std.proofs.Math.Path.{sym, ap}
use Rattle.std.proofs.Math.Bool.{true}
use mathlib.Core.List.{List, [], ◌∷◌}
use Rattle.std.proofs.Math.ListN.{get_or, set, length-set}
use Rattle.std.proofs.lemmas.List.{set-get_or, set_comm}
use Rattle.std.proofs.Math.Seq.{get_or-set_other}
use Rattle.numbers.specs.Search.Laws.{contra}
use Rattle.table.specs.Table.{Table, carried}
use Rattle.table.specs.Layout.{branch_count, definition_of, slot_type}
use Rattle.state.specs.State.{State, max_threads, thread, stands_at, slot_of, in_use, is_ready, type_in, with_mark, with_thread}
use Rattle.rules.specs.Program.{kind_of, branch_at, next_of, child_of, field_a, field_b, act_of, guard_holds, opposite}
use Rattle.rules.specs.Start.{free_row}
use Rattle.rules.specs.Moves.{resumed, met_by, value_by, spawned_by, written}
use Rattle.rules.specs.declared.Direction.{Direction}
use Rattle.rules.specs.declared.Direction.TheVariants.{Out, In}
use Rattle.rules.specs.declared.Act.TheVariants.{Meeting}
use Rattle.rules.specs.declared.Move.TheVariants.{Spawns, Meets}
use Rattle.rules_laws.specs.Granted.{Granted}
use Rattle.rules_laws.specs.Reading.Laws.{ready_used, waiting_used}
use Rattle.rules_laws.specs.Soundness.{RowSound, Orderly}
use Rattle.rules_laws.specs.ThreadRow.{resumed_ready}
use Rattle.rules_laws.specs.Onward.{met_by_ready}
use Rattle.rules_laws.specs.Meetings.{meets_by, value_type}
use Rattle.rules_laws.specs.Chosen.{channel_by, Open, Spawning, Answering}
use Rattle.published.specs.Syntax.{Sum}
use Rattle.published.specs.Agents as Agents
use Rattle.published.specs.Agents.{◌∈◌, Value, look, Commitment, Thread, Agent, agent}
use Rattle.published.specs.Rules.{Rearranged, same_first, swapped, twice, spawn, send, recv}
use Rattle.published.specs.Fired.{Rule, by_spawn, fired, Labels, firing, ActsBy, TurnBy}
use Rattle.published.specs.ProductLaws.{same_order, in_rearranged, turned_back}
use Rattle.published_laws.specs.Readable.{Readable}
use Rattle.published_laws.specs.Standing.{guard_of, prefix_of, process_at, body_of, value_as, env_of, commitments_from, waiting_thread, ready_thread, thread_of, threads_of, channels_of, agent_of}
use Rattle.published_laws.specs.Environments.{guard_same, filled_value, look_filled}
use Rattle.published_laws.specs.Products.{Bench, waiting_thread_lem, stored_first, row_first}
use Rattle.published_laws.specs.Commitments.{pledge}
use Rattle.published_laws.proofs.Commitments.{pledged_in}
use Rattle.published_laws.specs.Firing.{meeting_rule}
use Rattle.published_laws.proofs.Passing.{Passed, others, tip, midway, channel_is}
use Rattle.published_laws.specs.Afterwards.{next_thread, child_thread, gave_thread, received_thread}
use Rattle.published_laws.proofs.Alone.{new_first, led}

same_meeting : (d e : Direction) → Meeting d ≡ Meeting e → d ≡ e
same_meeting d e q = cc

-- ---- a waiting thread that is met

-- thread u waits, and its branch j, a meeting of direction d on channel c, has a true guard
module _ (tb : Table) (s : State) (t u j c : ℕ) (d : Direction) (a : Answering tb s t d c u j) where
  pub met_commits : pledge d c (field_b tb (branch_at tb (stands_at (thread s u)) j))
      (process_at tb (next_of tb (stands_at (thread s u)) (branch_at tb (stands_at (thread s u)) j)))
      ∈ commitments_from tb (thread s u) 0 (branch_count tb (stands_at (thread s u)))
  met_commits =
      rw a.is at (pledged_in tb (thread s u) (branch_count tb (stands_at (thread s u))) 0 j d (omega arith) (omega (arith, a.branch_in)) a.passes a.does)

-- ---- what is given fits where it is received

module _ (tb : Table) (g : Granted tb) (rd : Readable tb) (ty : ℕ → ℕ) (row mate : List ℕ) (r : RowSound tb ty row) (r' : RowSound tb ty mate)
    (used : in_use row ≡ true) (used' : in_use mate ≡ true) (i j : ℕ) (l : i < branch_count tb (stands_at row)) (l' : j < branch_count tb (stands_at mate))
    (e : act_of tb (branch_at tb (stands_at row) i) ≡ Meeting Out) (e' : act_of tb (branch_at tb (stands_at mate) j) ≡ Meeting In)
    (on : slot_of row (field_a tb (branch_at tb (stands_at row) i)) ≡ slot_of mate (field_a tb (branch_at tb (stands_at mate) j))) where
  abbrev k : ℕ
  k = field_b tb (branch_at tb (stands_at row) i)

  -- the value of the sender, row, as the receiver, mate, has it
  pub given_value : (w : Value) × (look (env_of tb row) (field_b tb (branch_at tb (stands_at row) i)) ≡ Some w)
      × (value_as (slot_type tb (definition_of tb (stands_at mate)) (field_b tb (branch_at tb (stands_at mate) j))) (value_by tb row i) ≡ Some w)
  unfolding value_by
  given_value =
      let m = meets_by tb g ty row r used i l Out e in
      let (w, q) = filled_value tb g rd ty row r used k m.with_slot_lem (m.with_filled refl) in
      let type : slot_type tb (definition_of tb (stands_at mate)) (field_b tb (branch_at tb (stands_at mate) j)) ≡ slot_type tb (definition_of tb (stands_at row)) k =
      value_type tb g ty mate r' used' j l' In e' ∙ ap (λ (x : ℕ). carried tb (ty x)) (sym on) ∙ sym (value_type tb g ty row r used i l Out e) in
      (w, look_filled tb g rd ty row r used k m.with_slot_lem ∙ q, rw type q)

module _ (tb : Table) (g : Granted tb) (rd : Readable tb) (s : State) (o : Orderly tb s) (t : ℕ) (l : t < max_threads) (ready : is_ready (thread s t) ≡ true)
    (b : Thread) (bn : Bench tb b) where
  abbrev rest : List Thread
  rest = others tb g rd s o t l ready b bn

  used : in_use (thread s t) ≡ true
  used = ready_used (thread s t) ready

  sound : RowSound tb (type_in s) (thread s t)
  sound = o.row t l

  inside : (u : ℕ) → u < max_threads → u < length s.threads
  inside u m = rw o.shaped.all_threads m

  module _ (More : Agent → Agent → Type 0) (labels : Labels More) (k : ℕ) (kind : kind_of tb (stands_at (thread s t)) ≡ 1) (m : k < branch_count tb (stands_at (thread s t)))
      (before : (j : ℕ) → j < k → Passed tb s t j) where
    guard_true : guard_holds tb (branch_at tb (stands_at (thread s t)) k) (thread s t) ≡ true
        → Agents.holds (env_of tb (thread s t)) (guard_of tb (branch_at tb (stands_at (thread s t)) k)) ≡ true
    guard_true e = guard_same tb g rd (type_in s) (thread s t) sound used k m ∙ e

    -- ---- (spawn)

    module _ (u : ℕ) (x : Spawning tb s t k u) where
      abbrev parent : List ℕ
      parent = resumed (thread s t) (next_of tb (stands_at (thread s t)) (branch_at tb (stands_at (thread s t)) k))

      abbrev child : List ℕ
      child = resumed (thread s t) (child_of tb (stands_at (thread s t)) (branch_at tb (stands_at (thread s t)) k))

      u_other : u ≢ t
      u_other q = contra used (rw q at x.unused)

      still_free : set (set s.threads t parent) u free_row ≡ set s.threads t parent
      still_free =
          let e : get_or (set s.threads t parent) u [] ≡ free_row =
          get_or-set_other s.threads t u parent [] u_other ∙ (o.row u x.thread_in).free x.unused in
          ap (λ (row : List ℕ). set (set s.threads t parent) u row) (sym e) ∙ set-get_or (set s.threads t parent) u []

      pub family_first : Rearranged (b ∷ threads_of tb (set (set s.threads t parent) u child)) (thread_of tb child ∷ (thread_of tb parent ∷ rest))
      family_first =
          let rows = set s.threads t parent in
          let h = stored_first tb rows u child (omega (arith, length-set s.threads t parent, inside u x.thread_in))
          (ready_used child (resumed_ready (thread s t) (child_of tb (stands_at (thread s t)) (branch_at tb (stands_at (thread s t)) k)))) in
          let h' : Rearranged (threads_of tb (set rows u child)) (thread_of tb child ∷ threads_of tb rows) = rw still_free at h in
          let p = new_first tb g rd s o t l ready b bn parent
          (ready_used parent (resumed_ready (thread s t) (next_of tb (stands_at (thread s t)) (branch_at tb (stands_at (thread s t)) k)))) in
          twice (same_first h') (twice swapped (same_first p))

      pub spawn_reduced : TurnBy (body_of tb) More labels (agent_of tb b s) (ready_thread tb (thread s t))
          (fired k (by_spawn (thread_of tb (resumed (thread s t) (child_of tb (stands_at (thread s t)) (branch_at tb (stands_at (thread s t)) k))))))
          (agent_of tb b (written tb s t (Spawns k u)))
      unfolding agent_of channels_of written with_mark spawned_by with_thread tip prefix_of firing
      spawn_reduced =
          led tb g rd s o t l ready b bn More labels k kind m before (by_spawn (thread_of tb child)) rest (channels_of s) (thread_of tb child) (thread_of tb parent ∷ rest)
          (b ∷ threads_of tb (set (set s.threads t parent) u child)) (same_order rest) (λ y i. i)
          (λ Γ q. rw (
            next_thread tb g (type_in s) (thread s t) sound used k m,
            child_thread tb g (type_in s) (thread s t) sound used k m x.takes.does,
            x.takes.does,
          )
          (spawn (guard_true x.takes.passes), refl))
          (turned_back family_first)

    -- ---- (send) and (recv)

    module _ (u j : ℕ) (d : Direction) (x : Open tb s t k (Meeting d)) (a : Answering tb s t (opposite d) (channel_by tb s t k) u j) where
      mate_sound : RowSound tb (type_in s) (thread s u)
      mate_sound = o.row u a.thread_in

      mate_used : in_use (thread s u) ≡ true
      mate_used = waiting_used (thread s u) a.waits

      -- the threads but t and u
      abbrev apart : List Thread
      apart = b ∷ threads_of tb (set (set s.threads t free_row) u free_row)

      abbrev own : List ℕ
      own = met_by tb (thread s t) k (value_by tb (thread s u) j)

      abbrev mate : List ℕ
      mate = met_by tb (thread s u) j (value_by tb (thread s t) k)

      pub mate_second : Rearranged rest (waiting_thread tb (thread s u) ∷ apart)
      unfolding others
      mate_second =
          let rows = set s.threads t free_row in
          let e : get_or rows u [] ≡ thread s u = get_or-set_other s.threads t u free_row [] a.other in
          let used_there : in_use (get_or rows u []) ≡ true = rw e mate_used in
          let h = row_first tb rows u (omega (arith, length-set s.threads t free_row, inside u a.thread_in)) used_there in
          let h' = rw (e, waiting_thread_lem tb (thread s u) a.waits) at h in
          twice (same_first h') swapped

      pub both_first : Rearranged (b ∷ threads_of tb (set (set s.threads t own) u mate)) (thread_of tb own ∷ (thread_of tb mate ∷ apart))
      both_first =
          let rows = s.threads in
          let h = stored_first tb (set rows t own) u mate (omega (arith, length-set rows t own, inside u a.thread_in))
          (ready_used mate (met_by_ready tb (thread s u) j (value_by tb (thread s t) k))) in
          let p = stored_first tb (set rows u free_row) t own (omega (arith, length-set rows u free_row, inside t l))
          (ready_used own (met_by_ready tb (thread s t) k (value_by tb (thread s u) j))) in
          let h' = rw (set_comm rows t u own free_row (λ q. a.other (sym q))) at h in
          let p' = rw (set_comm rows u t free_row free_row a.other) at p in
          twice (same_first (twice h' (twice (same_first p') swapped))) (twice swapped (same_first swapped))

      -- the agent before, whatever was committed and whatever branches are behind, and the agent after
      -- the rule of a meeting in direction e
      abbrev rule_in : Direction → Rule
      rule_in e = meeting_rule e (waiting_thread tb (thread s u)) (pledge (opposite e) (channel_by tb s t k) (field_b tb (branch_at tb (stands_at (thread s u)) j))
          (process_at tb (next_of tb (stands_at (thread s u)) (branch_at tb (stands_at (thread s u)) j))))

      abbrev Meeting-by : Direction → List Commitment → Sum → Type 0
      Meeting-by e Γ q = ActsBy (body_of tb) More labels (fired 0 (rule_in e))
          (agent (channels_of s) (midway tb g rd s o t l ready b bn Γ (tip tb g rd s o t l ready b bn k q) ∷ (waiting_thread tb (thread s u) ∷ apart)))
          (agent (channels_of s) (thread_of tb own ∷ (thread_of tb mate ∷ apart)))

      send_by : act_of tb (branch_at tb (stands_at (thread s t)) k) ≡ Meeting Out → act_of tb (branch_at tb (stands_at (thread s u)) j) ≡ Meeting In
          → (w : Value) → look (env_of tb (thread s t)) (field_b tb (branch_at tb (stands_at (thread s t)) k)) ≡ Some w
          → value_as (slot_type tb (definition_of tb (stands_at (thread s u))) (field_b tb (branch_at tb (stands_at (thread s u)) j))) (value_by tb (thread s t) k) ≡ Some w
          → (Γ : List Commitment) (q : Sum) → Meeting-by Out Γ q
      unfolding tip prefix_of waiting_thread opposite pledge firing meeting_rule
      send_by does does' w has gets Γ q =
          let dir : opposite d ≡ In = same_meeting (opposite d) In (sym a.does ∙ does') in
          let commits = rw dir at (met_commits tb s t u j (channel_by tb s t k) (opposite d) a) in
          let c = channel_is tb g rd s o t l ready b bn k m Out does in
          rw (
            gave_thread tb g (type_in s) (thread s t) sound used k m does (value_by tb (thread s u) j),
            received_thread tb g (type_in s) (thread s u) mate_sound mate_used j a.branch_in does' (value_by tb (thread s t) k) w gets,
            does,
          )
          (send (channel_by tb s t k) (field_b tb (branch_at tb (stands_at (thread s u)) j)) w (guard_true x.passes) c commits has, refl)

      recv_by : act_of tb (branch_at tb (stands_at (thread s t)) k) ≡ Meeting In → act_of tb (branch_at tb (stands_at (thread s u)) j) ≡ Meeting Out
          → (w : Value) → look (env_of tb (thread s u)) (field_b tb (branch_at tb (stands_at (thread s u)) j)) ≡ Some w
          → value_as (slot_type tb (definition_of tb (stands_at (thread s t))) (field_b tb (branch_at tb (stands_at (thread s t)) k))) (value_by tb (thread s u) j) ≡ Some w
          → (Γ : List Commitment) (q : Sum) → Meeting-by In Γ q
      unfolding tip prefix_of waiting_thread opposite pledge firing meeting_rule
      recv_by does does' w has gets Γ q =
          let dir : opposite d ≡ Out = same_meeting (opposite d) Out (sym a.does ∙ does') in
          let commits = rw dir at (met_commits tb s t u j (channel_by tb s t k) (opposite d) a) in
          let c = channel_is tb g rd s o t l ready b bn k m In does in
          rw (
            received_thread tb g (type_in s) (thread s t) sound used k m does (value_by tb (thread s u) j) w gets,
            gave_thread tb g (type_in s) (thread s u) mate_sound mate_used j a.branch_in does' (value_by tb (thread s t) k),
            does,
          )
          (recv (channel_by tb s t k) (field_b tb (branch_at tb (stands_at (thread s u)) j)) w (guard_true x.passes) c commits has, refl)

      meeting_by : (e : Direction) → e ≡ d → (Γ : List Commitment) (q : Sum) → Meeting-by e Γ q
      unfolding opposite
      meeting_by Out z Γ q =
          let does : act_of tb (branch_at tb (stands_at (thread s t)) k) ≡ Meeting Out = x.does ∙ ap Meeting (sym z) in
          let does' : act_of tb (branch_at tb (stands_at (thread s u)) j) ≡ Meeting In = a.does ∙ ap (λ y. Meeting (opposite y)) (sym z) in
          let (w, has, gets) = given_value tb g rd (type_in s) (thread s t) (thread s u) sound mate_sound used mate_used k j m a.branch_in does does'
          (sym a.is) in
          send_by does does' w has gets Γ q
      meeting_by In z Γ q =
          let does : act_of tb (branch_at tb (stands_at (thread s t)) k) ≡ Meeting In = x.does ∙ ap Meeting (sym z) in
          let does' : act_of tb (branch_at tb (stands_at (thread s u)) j) ≡ Meeting Out = a.does ∙ ap (λ y. Meeting (opposite y)) (sym z) in
          let (w, has, gets) = given_value tb g rd (type_in s) (thread s u) (thread s t) mate_sound sound mate_used used j k a.branch_in m does' does a.is in
          recv_by does does' w has gets Γ q

      pub meeting_reduced : TurnBy (body_of tb) More labels (agent_of tb b s) (ready_thread tb (thread s t)) (fired k (rule_in d))
          (agent_of tb b (written tb s t (Meets k u j)))
      unfolding agent_of channels_of written with_thread
      meeting_reduced =
          led tb g rd s o t l ready b bn More labels k kind m before (rule_in d) (waiting_thread tb (thread s u) ∷ apart) (channels_of s) (thread_of tb own) (thread_of tb mate ∷ apart)
          (b ∷ threads_of tb (set (set s.threads t own) u mate)) mate_second (λ y i. in_rearranged y mate_second i)
          (meeting_by d refl)
          (turned_back both_first)

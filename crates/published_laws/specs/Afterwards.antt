-- The thread of a row that a move writes: what the rule of 002 says of it. Assumes nothing but what the table grants.
use Rattle.std.specs.Prelude.{ℕ, ◌<◌, ◌≡◌, true, List, [], Some}
use Rattle.std.proofs.Common.{sym, ◌∙◌, of_z}
use Rattle.std.specs.Int.{w32}
use Rattle.table.specs.Table.{Table, slot_count}
use Rattle.table.specs.Layout.{branch_count, definition_of, slot_type}
use Rattle.state.specs.State.{max_channels, stands_at, slot_of, in_use, is_ready}
use Rattle.rules.specs.Program.{branch_at, next_of, child_of, field_a, field_b, act_of}
use Rattle.rules.specs.Moves.{resumed, stored, met, gone, side_of, gone_by, created_by, met_by}
use Rattle.rules.specs.declared.Direction.TheVariants.{Out, In}
use Rattle.rules.specs.declared.Act.TheVariants.{Tau, Meeting, New, Spawn, Assignment}
use Rattle.rules_laws.specs.Granted.{Granted}
use Rattle.rules_laws.specs.Guards.{Assigning}
use Rattle.rules_laws.specs.Soundness.{RowSound}
use Rattle.rules_laws.specs.ThreadRow.{resumed_ready, resumed_node, resumed_slot, resumed_long, stored_node, stored_same, stored_other}
use Rattle.rules_laws.specs.Onward.{own_slot, branching, stored_ready}
use Rattle.published.specs.Agents as Agents
use Rattle.published.specs.Agents.{Value, Env, bind}
use Rattle.published_laws.specs.Standing.{process_at, value_as, slot_value, env_of, ready_thread, thread_of}
use Rattle.published_laws.specs.Environments.{channel_value, number_value, slot_value_lem, env_same, env_bound}
use Rattle.published_laws.specs.Products.{ready_thread_lem}

module _ (tb : Table) where
  -- a ready thread at node m with environment δ
  pub thread_is : (row : List ℕ) (m : ℕ) (δ : Env) → is_ready row ≡ true → stands_at row ≡ m → env_of tb row ≡ δ
      → thread_of tb row ≡ Agents.thread [] δ (process_at tb m)
  unfolding ready_thread
  thread_is row m δ r n e = ready_thread_lem tb row r ∙ rw (n, e)

module _ (tb : Table) (g : Granted tb) (ty : ℕ → ℕ) (row : List ℕ) (r : RowSound tb ty row) (u : in_use row ≡ true)
    (i : ℕ) (l : i < branch_count tb (stands_at row)) where
  abbrev b : ℕ
  b = branch_at tb (stands_at row) i

  abbrev m : ℕ
  m = next_of tb (stands_at row) (branch_at tb (stands_at row) i)

  -- ---- it goes on, at its next node or at a child's

  resumed_thread : (n : ℕ) → definition_of tb n ≡ definition_of tb (stands_at row) → thread_of tb (resumed row n) ≡ Agents.thread [] (env_of tb row) (process_at tb n)
  resumed_thread n q =
      thread_is tb (resumed row n) n (env_of tb row) (resumed_ready row n) (resumed_node row n)
      (env_same tb row (resumed row n) (rw (resumed_node row n) q) (resumed_slot row n))

  pub next_thread : thread_of tb (resumed row (next_of tb (stands_at row) (branch_at tb (stands_at row) i)))
      ≡ Agents.thread [] (env_of tb row) (process_at tb (next_of tb (stands_at row) (branch_at tb (stands_at row) i)))
  next_thread = resumed_thread m (branching tb g ty row r u i l).next.same

  pub child_thread : act_of tb (branch_at tb (stands_at row) i) ≡ Spawn
      → thread_of tb (resumed row (child_of tb (stands_at row) (branch_at tb (stands_at row) i)))
      ≡ Agents.thread [] (env_of tb row) (process_at tb (child_of tb (stands_at row) (branch_at tb (stands_at row) i)))
  child_thread e = resumed_thread (child_of tb (stands_at row) b) ((branching tb g ty row r u i l).child e).same

  -- ---- and has v in slot a, which is w by its type

  stored_thread : (a v : ℕ) (w : Value) → a < slot_count tb (definition_of tb (stands_at row)) → value_as (slot_type tb (definition_of tb (stands_at row)) a) v ≡ Some w
      → thread_of tb (stored (resumed row m) a v) ≡ Agents.thread [] (bind (env_of tb row) a w) (process_at tb m)
  stored_thread a v w o e =
      let new = stored (resumed row m) a v in
      let in_row = own_slot tb g ty row r u a o in
      let node : stands_at new ≡ m = stored_node (resumed row m) a v ∙ resumed_node row m in
      let q : definition_of tb (stands_at new) ≡ definition_of tb (stands_at row) = rw node (branching tb g ty row r u i l).next.same in
      let has : slot_of new a ≡ v = stored_same (resumed row m) a v (resumed_long row m r.long) in_row in
      let o' : a < slot_count tb (definition_of tb (stands_at new)) = rw q o in
      let x : slot_value tb new a ≡ Some w = slot_value_lem tb new a o' ∙ rw (q, has) e in
      thread_is tb new m (bind (env_of tb row) a w) (stored_ready row m a v) node
      (sym (env_bound tb row new q a w in_row x (λ k n. stored_other (resumed row m) a v k n ∙ resumed_slot row m k)))

  pub tau_thread : act_of tb (branch_at tb (stands_at row) i) ≡ Tau
      → thread_of tb (gone_by tb row i) ≡ Agents.thread [] (env_of tb row) (process_at tb (next_of tb (stands_at row) (branch_at tb (stands_at row) i)))
  unfolding gone_by gone
  tau_thread e = rw e next_thread

  -- by an assignment that is taken and comes to a number
  pub assigned_thread : act_of tb (branch_at tb (stands_at row) i) ≡ Assignment → (a : Assigning tb row i)
      → thread_of tb (gone_by tb row i)
      ≡ Agents.thread [] (bind (env_of tb row) (field_a tb (branch_at tb (stands_at row) i)) (Agents.number (of_z w32 a.z)))
      (process_at tb (next_of tb (stands_at row) (branch_at tb (stands_at row) i)))
  assigned_thread e a =
      let (o, z) = (branching tb g ty row r u i l).assigns e in
      let v = of_z w32 a.z in
      rw a.goes (stored_thread (field_a tb b) v (Agents.number v) o (number_value (slot_type tb (definition_of tb (stands_at row)) (field_a tb b)) v z))

  pub created_thread : act_of tb (branch_at tb (stands_at row) i) ≡ New → (c : ℕ) → c < max_channels
      → thread_of tb (created_by tb row i c)
      ≡ Agents.thread [] (bind (env_of tb row) (field_a tb (branch_at tb (stands_at row) i)) (Agents.channel c))
      (process_at tb (next_of tb (stands_at row) (branch_at tb (stands_at row) i)))
  unfolding created_by
  created_thread e c h =
      let (o, z) = (branching tb g ty row r u i l).creates e in
      stored_thread (field_a tb b) c (Agents.channel c) o (channel_value (slot_type tb (definition_of tb (stands_at row)) (field_a tb b)) c z h)

  -- ---- after a meeting: who gave has the same environment, who received has the value

  pub gave_thread : act_of tb (branch_at tb (stands_at row) i) ≡ Meeting Out → (v : ℕ)
      → thread_of tb (met_by tb row i v) ≡ Agents.thread [] (env_of tb row) (process_at tb (next_of tb (stands_at row) (branch_at tb (stands_at row) i)))
  unfolding met_by side_of met
  gave_thread e v = rw e next_thread

  pub received_thread : act_of tb (branch_at tb (stands_at row) i) ≡ Meeting In → (v : ℕ) (w : Value)
      → value_as (slot_type tb (definition_of tb (stands_at row)) (field_b tb (branch_at tb (stands_at row) i))) v ≡ Some w
      → thread_of tb (met_by tb row i v)
      ≡ Agents.thread [] (bind (env_of tb row) (field_b tb (branch_at tb (stands_at row) i)) w) (process_at tb (next_of tb (stands_at row) (branch_at tb (stands_at row) i)))
  unfolding met_by side_of met
  received_thread e v w x = rw e (stored_thread (field_b tb b) v w ((branching tb g ty row r u i l).meets In e).with_slot_lem x)

-- The answer to a step tells which rule fired, by which branch and with whom. Assumes nothing but what the table grants.
use Prim.Native.Nat.{ℕ, suc, ◌-◌, ◌<◌}
use native.Mathlib.Omega.{arith}
use Rattle.rules.specs.Answers.{Stepped}
use Rattle.std.specs.Prelude.{◌≡◌, refl, ◌⊎◌, true, set, Ok}
use Rattle.std.proofs.Common.{sym}
use Rattle.std.proofs.Math.Path.{ap}
use Rattle.std.proofs.Math.Logic.{inl, inr}
use mathlib.Core.List.{List, []}
use Rattle.std.proofs.Math.ListN.{length-set}
use Rattle.std.proofs.Math.Seq.{get_or-set_same}
use Rattle.numbers.specs.Tests.{clash}
use Rattle.table.specs.Table.{Table}
use Rattle.table.specs.Layout.{branch_count}
use Rattle.state.specs.State.{State, max_threads, thread, stands_at, is_ready, with_mark, with_thread, with_channels}
use Rattle.rules.specs.Program.{branch_at, next_of, child_of, act_of, opposite}
use Rattle.rules.specs.Holding.{settled}
use Rattle.rules.specs.Moves.{move, resumed, side_of, spawned_by, written, perform}
use Rattle.rules.specs.Calls.{step_answer}
use Rattle.rules.specs.declared.Direction.{Direction}
use Rattle.rules.specs.declared.Direction.TheVariants.{Out, In}
use Rattle.rules.specs.declared.Act.{Act}
use Rattle.rules.specs.declared.Act.TheVariants.{Tau, Meeting, New, Spawn, Assignment}
use Rattle.rules.specs.declared.Move.{Move}
use Rattle.rules.specs.declared.Move.TheVariants.{Ends, Calls, Waits, Goes, Creates, Spawns, Meets, LacksThread, LacksChannel}
use Rattle.rules.specs.declared.Deed.{Deed}
use Rattle.rules_laws.specs.Reading.Laws.{ready_used}
use Rattle.rules_laws.specs.Soundness.{Orderly}
use Rattle.rules_laws.specs.Chosen.{Chosen, chosen}
use Rattle.published.specs.Agents.{Commitment, Thread}
use Rattle.published.specs.Fired.{by_step, by_new, by_spawn, by_send, by_recv, by_assigns}
use Rattle.published_laws.specs.Readable.{Readable}
use Rattle.published_laws.specs.Standing.{thread_of}
use Rattle.published_laws.specs.Commitments.{pledged}
use Rattle.published_laws.specs.Firing.{going_rule, meeting_rule, fired_by, TellsWith, Tells}

going_rule_lem : (a : Act) → (going_rule a ≡ by_step) ⊎ ((going_rule a ≡ by_assigns) ⊎ ((ĉ : ℕ) × (going_rule a ≡ by_new ĉ)))
unfolding going_rule
going_rule_lem Tau = inl refl
going_rule_lem (Meeting d) = inl refl
going_rule_lem New = inl refl
going_rule_lem Spawn = inl refl
going_rule_lem Assignment = inr (inl refl)

meeting_rule_lem : (d : Direction) (x : Thread) (k : Commitment) → (meeting_rule d x k ≡ by_send x k) ⊎ (meeting_rule d x k ≡ by_recv x k)
unfolding meeting_rule
meeting_rule_lem Out x k = inl refl
meeting_rule_lem In x k = inr refl

same_deed : (n k : ℕ) (a d : Deed) → ◌≡◌ {A = Stepped} (Ok (n, a)) (Ok (k, d)) → a ≡ d
same_deed n k a d e =
    let q : ◌≡◌ {A = ℕ × Deed} (n, a) (k, d) = cc in
    ap (λ (x : ℕ × Deed). x.1) q

module _ (tb : Table) (rd : Readable tb) (s : State) (o : Orderly tb s) (t : ℕ) (l : t < max_threads) (ready : is_ready (thread s t) ≡ true) where
  spawned_row : (i u : ℕ) → u < max_threads
      → thread (perform tb s t (Spawns i u)) u ≡ resumed (thread s t) (child_of tb (stands_at (thread s t)) (branch_at tb (stands_at (thread s t)) i))
  unfolding perform settled with_channels written with_mark spawned_by with_thread
  spawned_row i u m =
      let r = branch_at tb (stands_at (thread s t)) i in
      let next = resumed (thread s t) (next_of tb (stands_at (thread s t)) r) in
      get_or-set_same (set s.threads t next) u (resumed (thread s t) (child_of tb (stands_at (thread s t)) r)) []
      (omega (arith, length-set s.threads t next, o.shaped.all_threads))

  tells_by : (n : ℕ) (m : Move) → Chosen tb s t m → (k : ℕ) (d : Deed) → step_answer n m ≡ Ok (k, d)
      → Tells tb s (perform tb s t m) t d (fired_by tb s t m)
  unfolding Chosen step_answer Tells TellsWith fired_by
  tells_by n Ends x k d e = rw (← same_deed n k _ d e)
  tells_by n Calls x k d e = rw (← same_deed n k _ d e)
  tells_by n Waits x k d e =
      let some = rd.some_branch (stands_at (thread s t)) ((o.row t l).node_in (ready_used (thread s t) ready)) x.at_choice in
      let z : suc (branch_count tb (stands_at (thread s t)) - 1) ≡ branch_count tb (stands_at (thread s t)) = omega arith in
      rw (← same_deed n k _ d e) (refl, z)
  tells_by n (Goes i) x k d e = rw (← same_deed n k _ d e) (refl, going_rule_lem (act_of tb (branch_at tb (stands_at (thread s t)) i)))
  tells_by n (Creates i c) x k d e = rw (← same_deed n k _ d e) (refl, inr (inr (c, refl)))
  tells_by n (Spawns i u) x k d e =
      rw (← same_deed n k _ d e) (refl, inl (x.unused, ap (λ (row : List ℕ). by_spawn (thread_of tb row)) (sym (spawned_row i u x.thread_in))))
  tells_by n (Meets i u j) x k d e =
      let side = side_of (act_of tb (branch_at tb (stands_at (thread s t)) i)) in
      let used = pledged tb (thread s u) (opposite side) (branch_at tb (stands_at (thread s u)) j) in
      rw (← same_deed n k _ d e) (refl, inr (x.partner.waits, (used, meeting_rule_lem side (thread_of tb (thread s u)) used)))
  tells_by n LacksThread x k d e = clash cc
  tells_by n LacksChannel x k d e = clash cc

  -- the answer to the step of thread t tells the rule with which its turn ends
  pub answer_tells : (n k : ℕ) (d : Deed) → step_answer n (move tb s t) ≡ Ok (k, d)
      → Tells tb s (perform tb s t (move tb s t)) t d (fired_by tb s t (move tb s t))
  answer_tells n k d e = tells_by n (move tb s t) (chosen tb s t) k d e

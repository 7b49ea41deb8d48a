-- The agent with which a file starts. Assumes nothing.
use Rattle.std.specs.Prelude.{◌≡◌, refl, [], ◌∷◌}
use Rattle.std.proofs.Common.{ap, inl, inr}
use Rattle.table.specs.Table.{Table}
use Rattle.table.specs.Layout.{start}
use Rattle.table.specs.declared.Part.TheVariants.{Nodes}
use Rattle.state.specs.State.{with_channels}
use Rattle.rules.specs.Holding.{settled}
use Rattle.rules.specs.Start.{entered, started}
use Rattle.published.specs.Agents as Agents
use Rattle.published.specs.Syntax.{Process}
use Rattle.published.specs.Agents.{◌∈◌, Env, Thread}
use Rattle.published.specs.Polarity.{Bare}
use Rattle.published_laws.specs.Standing.{body_of, env_of, threads_of, agent_of}
use Rattle.published_laws.specs.Afterwards.{thread_is}

-- beside the bench there is one thread, at definition 0, with the ports as its parameters
pub started_agent : (tb : Table)
    → threads_of tb (started tb).threads ≡ Agents.thread [] (env_of tb (entered tb 0 (λ k. k))) (body_of tb 0) ∷ []
unfolding started settled with_channels threads_of entered body_of
started_agent tb =
    let row = entered tb 0 (λ k. k) in
    ap (λ (t : Thread). t ∷ []) (thread_is tb row (start tb Nodes 0) (env_of tb row) refl refl refl)

-- where the bench has made no commitments nobody has
pub started_bare : (tb : Table) (δ : Env) (E : Process) → Bare (agent_of tb (Agents.thread [] δ E) (started tb)).threads
unfolding agent_of
started_bare tb δ E x (inl e) = rw e
started_bare tb δ E x (inr i) = last_bare x (rw (started_agent tb) at i)
  where
    last_bare : (x : Thread) → x ∈ (Agents.thread [] (env_of tb (entered tb 0 (λ k. k))) (body_of tb 0) ∷ []) → x.commitments ≡ []
    last_bare x (inl e) = rw e
    last_bare x (inr z) = absurd z

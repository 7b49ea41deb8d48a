-- A call is (call), and zeros for the numbers that the definition has besides its parameters; where it has none, (call) alone. Assumes nothing but what the
-- table grants.
use Prim.Native.Nat.{ℕ, suc, ◌<◌, ◌≤◌}
use Rattle.std.proofs.Common.{arith, ◌∙◌}
use Rattle.std.specs.Prelude.{◌≡◌, ◌≢◌, Bool, true, false, ltb, eqb, length, set, None, Some, unwrap_or}
use Rattle.std.proofs.Math.Path.{refl, sym, ap}
use Rattle.std.proofs.Math.Logic.{inr}
use Rattle.std.proofs.Math.Bool.{cond}
use mathlib.Core.List.{List, [], ◌∷◌, map}
use Rattle.std.proofs.Math.ListN.{get_or-map, get_or-eq_default}
use borrow.Author.Tests.{ltb-true, ltb-false, lt-ltb, le-ltb, eqb-true, eqb-false, ne_eqb}
use Rattle.numbers.specs.Search.{tabulate}
use Rattle.numbers.specs.Search.Laws.{case_b, get_d_tabulate, length_tabulate, tabulate_cong, is_tabulate}
use Rattle.table.specs.Table.{Table, parameters, slot_count}
use Rattle.table.specs.Layout.{start, definition_of, slot_type}
use Rattle.table.specs.declared.Part.TheVariants.{Nodes}
use Rattle.state.specs.State.{State, max_threads, row_slots, minus_one, thread, stands_at, slot_of, in_use, is_ready, type_in, with_thread}
use Rattle.rules.specs.Program.{channel_slot, blank, kind_of, callee, argument}
use Rattle.rules.specs.Start.{entered}
use Rattle.rules.specs.Moves.{written}
use Rattle.rules.specs.declared.Move.TheVariants.{Calls}
use Rattle.rules_laws.specs.Granted.{Granted, Calling, Definition}
use Rattle.rules_laws.specs.Reading.Laws.{head_slot, ready_used}
use Rattle.rules_laws.specs.Soundness.{RowSound, Orderly}
use Rattle.published.specs.Syntax.{invoke}
use Rattle.published.specs.Agents as Agents
use Rattle.published.specs.Agents.{Value, Env, look, Thread, Agent, agent}
use Rattle.published.specs.Rules.{Rearranged, call, more, last, pass, zeroed, zeros}
use Rattle.published.specs.Fired.{by_call, fired, Labels, ours_fire, firing, Ends, RunBy, TurnBy}
use Rattle.published.specs.ProductLaws.{turned_back}
use Rattle.published_laws.specs.Readable.{Readable}
use Rattle.published_laws.specs.Standing.{body_of, for_numbers, value_as, slot_value, env_of, ready_thread, thread_of, threads_of, channels_of, agent_of, OurRules, OurLabels}
use Rattle.published_laws.specs.Trimmed.{look_trimmed, trimmed_same, trimmed_given}
use Rattle.published_laws.specs.Environments.{number_value, look_env, look_past, slot_value_lem, filled_value, look_filled}
use Rattle.published_laws.specs.Products.{Bench}
use Rattle.published_laws.proofs.Passing.{others}
use Rattle.published_laws.specs.Afterwards.{thread_is}
use Rattle.published_laws.proofs.Alone.{turn_by_lem, own_first, new_first, at_call}

length-map : {A B : Type 0} (f : A → B) (l : List A) → length (map f l) ≡ length l
length-map f [] = refl
length-map f (x ∷ l) = ap suc (length-map f l)

map_tabulate : {A B : Type 0} (f : A → B) (n : ℕ) (h : ℕ → A) (d : A) → map f (tabulate n h) ≡ tabulate n (λ k. f (h k))
map_tabulate f n h d =
    is_tabulate (map f (tabulate n h)) n (λ k. f (h k)) (f d) (length-map f (tabulate n h) ∙ length_tabulate n h)
    (λ k l. get_or-map f (tabulate n h) k d ∙ ap f (get_d_tabulate n k h d l))

-- -1 is no value of a channel
no_value : (ty : ℕ) → ty ≢ 0 → value_as ty minus_one ≡ None
unfolding value_as
no_value ty n = rw (ne_eqb ty 0 n)

-- ---- what stands in a slot that is no parameter

-- nothing, or 0 where it is for numbers
blank_value : (tb : Table) (d k : ℕ) → k < slot_count tb d → value_as (slot_type tb d k) (blank tb d k) ≡ zeroed (for_numbers tb d k) None
unfolding blank channel_slot for_numbers zeroed
blank_value tb d k l =
    case_b (eqb (slot_type tb d k) 0)
    (λ y. rw (lt-ltb k (slot_count tb d) l, y) (number_value (slot_type tb d k) 0 (eqb-true (slot_type tb d k) 0 y)))
    (λ y. rw (lt-ltb k (slot_count tb d) l, y) (no_value (slot_type tb d k) (eqb-false (slot_type tb d k) 0 y)))

zeroed_some : (y : Bool) (v : Value) → zeroed y (Some v) ≡ Some v
unfolding zeroed
zeroed_some true v = refl
zeroed_some false v = refl

module _ (tb : Table) (g : Granted tb) (rd : Readable tb) (s : State) (o : Orderly tb s) (t : ℕ) (l : t < max_threads) (ready : is_ready (thread s t) ≡ true)
    (b : Thread) (bn : Bench tb b) (kind : kind_of tb (stands_at (thread s t)) ≡ 2) where
  used : in_use (thread s t) ≡ true
  used = ready_used (thread s t) ready

  sound : RowSound tb (type_in s) (thread s t)
  sound = o.row t l

  -- the definition that is called, its parameters, the arguments
  abbrev d : ℕ
  d = callee tb (stands_at (thread s t))

  abbrev arg : ℕ → ℕ
  arg k = argument tb (stands_at (thread s t)) k

  abbrev δ : Env
  δ = env_of tb (thread s t)

  abbrev pub after : List ℕ
  after = entered tb (callee tb (stands_at (thread s t))) (λ k. slot_of (thread s t) (argument tb (stands_at (thread s t)) k))

  calling : Calling tb (stands_at (thread s t))
  calling = g.call (stands_at (thread s t)) (sound.node_in used) kind

  entry : Definition tb d
  entry = g.definition d calling.callee_in

  -- ---- the arguments have values

  value_for : ℕ → Value
  value_for k = unwrap_or (look δ (arg k)) (Agents.number 0)

  argument_value : (k : ℕ) → k < parameters tb d → look δ (arg k) ≡ Some (value_for k)
  unfolding value_for
  argument_value k m =
      let (w, e) = filled_value tb g rd (type_in s) (thread s t) sound used (arg k) (calling.argument_slot k m) (calling.argument_filled k m) in
      let q : look δ (arg k) ≡ Some w = look_filled tb g rd (type_in s) (thread s t) sound used (arg k) (calling.argument_slot k m) ∙ e in
      rw q

  pub values : List Value
  values = tabulate (parameters tb d) value_for

  given : map Some values ≡ tabulate (parameters tb d) (λ k. Some (value_for k))
  unfolding values
  given = map_tabulate Some (parameters tb d) value_for (Agents.number 0)

  pub evaluated : map (look δ) (tabulate (parameters tb d) arg) ≡ map Some values
  evaluated =
      map_tabulate (look δ) (parameters tb d) arg 0
      ∙ tabulate_cong (parameters tb d) (λ k. look δ (arg k)) (λ k. Some (value_for k)) argument_value ∙ sym given

  given_value : (k : ℕ) → k < parameters tb d → look (map Some values) k ≡ Some (value_for k)
  given_value k m = rw given (get_d_tabulate (parameters tb d) k (λ k. Some (value_for k)) None m)

  given_none : (k : ℕ) → parameters tb d ≤ k → look (map Some values) k ≡ None
  given_none k m = rw given
      (get_or-eq_default (tabulate (parameters tb d) (λ k. Some (value_for k))) None {n = k}
      (omega (arith, length_tabulate (parameters tb d) (λ k. Some (value_for k)))))

  -- ---- the row that is entered

  first_node_lem : stands_at after ≡ start tb Nodes d
  unfolding entered
  first_node_lem = refl

  same_definition : definition_of tb (stands_at after) ≡ d
  same_definition = rw first_node_lem entry.first_same

  after_slot : (k : ℕ) → k < row_slots → slot_of after k ≡ cond (ltb k (parameters tb d)) (slot_of (thread s t) (arg k)) (blank tb d k)
  unfolding entered
  after_slot k m =
      let word : ℕ → ℕ = λ j. cond (ltb j (parameters tb d)) (slot_of (thread s t) (arg j)) (blank tb d j) in
      head_slot 1 (start tb Nodes d) (tabulate row_slots word) k ∙ get_d_tabulate row_slots k word 0 m

  -- a slot of it, by the definition
  after_value : (k : ℕ) → k < row_slots → k < slot_count tb d → look (env_of tb after) k ≡ value_as (slot_type tb d k) (slot_of after k)
  after_value k m n =
      let n' : k < slot_count tb (definition_of tb (stands_at after)) = rw same_definition n in
      let h = look_env tb after k m ∙ slot_value_lem tb after k n' in
      rw same_definition at h

  after_none : (k : ℕ) → slot_count tb d ≤ k → look (env_of tb after) k ≡ None
  unfolding slot_value
  after_none k n =
      case_b (ltb k row_slots)
      (λ y. look_env tb after k (ltb-true k row_slots y) ∙ rw (same_definition, le-ltb k (slot_count tb d) n))
      (λ y. look_past tb after k (ltb-false k row_slots y))

  -- the parameters have the arguments' values, and the numbers besides are 0
  pub entered_zeros : (x : ℕ) → look (env_of tb after) x ≡ zeroed (for_numbers tb d x) (look (map Some values) x)
  unfolding for_numbers zeroed
  entered_zeros x =
      case_b (ltb x (slot_count tb d))
      (λ y. let n = ltb-true x (slot_count tb d) y in
      let m : x < row_slots = omega (arith, entry.few_slots) in
      let v = after_value x m n ∙ ap (λ (w : ℕ). value_as (slot_type tb d x) w) (after_slot x m) in
      case_b (ltb x (parameters tb d))
      (λ z. let p = ltb-true x (parameters tb d) z in
      let h : look δ (arg x) ≡ value_as (slot_type tb d x) (slot_of (thread s t) (arg x)) =
      look_filled tb g rd (type_in s) (thread s t) sound used (arg x) (calling.argument_slot x p)
      ∙ ap (λ (ty : ℕ). value_as ty (slot_of (thread s t) (arg x))) (calling.argument_typed_lem x p) in
      rw z at v ∙ sym h ∙ argument_value x p ∙ sym (zeroed_some (for_numbers tb d x) (value_for x))
      ∙ ap (zeroed (for_numbers tb d x)) (sym (given_value x p)))
      (λ z. let p = ltb-false x (parameters tb d) z in
      (rw z at v) ∙ blank_value tb d x n ∙ ap (zeroed (for_numbers tb d x)) (sym (given_none x p))))
      (λ y. let n = ltb-false x (slot_count tb d) y in
      after_none x n ∙ rw (y, given_none x (omega (arith, entry.few_parameters))))

  pub after_thread : thread_of tb after ≡ Agents.thread [] (env_of tb after) (body_of tb d)
  unfolding body_of entered
  after_thread = thread_is tb after (start tb Nodes d) (env_of tb after) refl refl refl

  pub after_used : in_use after ≡ true
  unfolding entered
  after_used = refl

  -- ---- (call)

  module _ (More : Agent → Agent → Type 0) (own : Labels More) where
    by_run : RunBy (body_of tb) More own (fired 0 by_call)
        (agent (channels_of s) (Agents.thread [] δ (invoke d (tabulate (parameters tb d) arg)) ∷ others tb g rd s o t l ready b bn))
        (agent (channels_of s) (Agents.thread [] (env_of tb after) (body_of tb d) ∷ others tb g rd s o t l ready b bn))
        → TurnBy (body_of tb) More own (agent_of tb b s) (ready_thread tb (thread s t)) (fired 0 by_call) (agent_of tb b (written tb s t Calls))
    unfolding agent_of channels_of written with_thread
    by_run w =
        let rest = others tb g rd s o t l ready b bn in
        let start = rw (at_call tb g rd s o t l ready b bn kind) at (own_first tb g rd s o t l ready b bn) in
        let end : Rearranged (Agents.thread [] (env_of tb after) (body_of tb d) ∷ rest) (b ∷ threads_of tb (set s.threads t after)) =
        rw after_thread at (turned_back (new_first tb g rd s o t l ready b bn after after_used)) in
        rw (at_call tb g rd s o t l ready b bn kind)
        (turn_by_lem (body_of tb) More own (fired 0 by_call) {T = agent (channels_of s) (Agents.thread [] (env_of tb after) (body_of tb d) ∷ rest)} start w end)

  -- a call by 002's rule, and then the rule for zeros in number locals
  pub calls_reduced : TurnBy (body_of tb) (OurRules tb) (OurLabels tb) (agent_of tb b s) (ready_thread tb (thread s t)) (fired 0 by_call)
      (agent_of tb b (written tb s t Calls))
  unfolding firing ours_fire Ends
  calls_reduced = by_run (OurRules tb) (OurLabels tb) (pass (call values evaluated) (last (more (zeros d entered_zeros))), inr (refl, refl, refl))

  -- by 002 alone, where the definition has no numbers besides its parameters
  module _ (no_numbers : (k : ℕ) → parameters tb (callee tb (stands_at (thread s t))) ≤ k → for_numbers tb (callee tb (stands_at (thread s t))) k ≡ false) where
    nothing_zeroed : (x : ℕ) → zeroed (for_numbers tb d x) (look (map Some values) x) ≡ look (map Some values) x
    unfolding zeroed
    nothing_zeroed x =
        case_b (ltb x (parameters tb d))
        (λ z. rw (given_value x (ltb-true x (parameters tb d) z)) (zeroed_some (for_numbers tb d x) (value_for x)))
        (λ z. rw (no_numbers x (ltb-false x (parameters tb d) z)))

    pub as_given : env_of tb after ≡ map Some values
    unfolding env_of
    as_given =
        trimmed_same (tabulate row_slots (slot_value tb after)) (map Some values)
        (λ x. sym (look_trimmed (tabulate row_slots (slot_value tb after)) x) ∙ entered_zeros x ∙ nothing_zeroed x) ∙ trimmed_given values

    pub calls_published : (More : Agent → Agent → Type 0) (own : Labels More)
        → TurnBy (body_of tb) More own (agent_of tb b s) (ready_thread tb (thread s t)) (fired 0 by_call) (agent_of tb b (written tb s t Calls))
    unfolding firing Ends
    calls_published More own = by_run More own (rw as_given (last (call values evaluated), refl))

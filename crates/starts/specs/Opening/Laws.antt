-- What the stores of the opening come to, and how thread 0's row makes it the start. Assumes nothing.
use Rattle.std.specs.Prelude.{ℕ, ◌+◌, ◌<◌, ◌≤◌, ◌≡◌, ◌&&◌, ltb, length, get_or, set}
use Rattle.std.proofs.Common.{arith, ◌∙◌, lt-ltb, le-ltb}
use Rattle.std.proofs.Math.Numerals.{add-one}
use Rattle.std.proofs.Math.Path.{refl, ap}
use mathlib.Core.List.{List, [], ◌∷◌}
use Rattle.std.proofs.Math.ListN.{replicate, length-replicate}
use Rattle.numbers.specs.Count.{bit}
use Rattle.numbers.specs.Rows.{at}
use Rattle.numbers.specs.Search.{tabulate}
use Rattle.numbers.specs.Search.Laws.{case_b, get_d_tabulate, tabulate_cong}
use Rattle.table.specs.Table.{Table, ports}
use Rattle.table.specs.Layout.{start}
use Rattle.table.specs.declared.Part.TheVariants.{Nodes}
use Rattle.state.specs.State.{max_channels, max_threads, State, state_of, state_words, row_slots, thread, channel, is_waiting, with_mark, with_thread, with_channel, with_channels}
use Rattle.state.specs.State.Laws.{length_marks, length_threads, length_channels, three_stored, channel_again, channel_written}
use Rattle.rules.specs.Holding.{holds, holders, waiters, count_of, channel_row, recount, settled}
use Rattle.rules.specs.Start.{free_row, entered, port_row, started}
use Rattle.holding.specs.Own.{own_list}
use Rattle.upkeep.specs.Shift.{settled_one}
use Rattle.upkeep.specs.Upkeep.{one_settled}
use Rattle.starts.specs.FilledRows.{filled_to}
use Rattle.starts.specs.FilledRows.Laws.{filled_all, tabulate_same, none_pass}
use Rattle.starts.specs.Opening.{port_held, freed_to, freed, opened_to, opened, marked, unstarted, port_at}

-- ---- free_threads

module _ (s : State) where
  pub freed_none : s ≡ freed_to s 0
  unfolding freed_to filled_to
  freed_none = refl

  pub freed_more : (s₁ s₂ : State) (t : ℕ) → s₁ ≡ freed_to s t → s₂ ≡ with_thread s₁ t free_row → s₂ ≡ freed_to s (t + 1)
  unfolding freed_to filled_to with_thread
  freed_more s₁ s₂ t e f = rw (f, e, add-one t)

pub freed_all : (b : List ℕ) (s₁ : State) (t : ℕ) → s₁ ≡ freed_to (state_of b) t → t ≤ max_threads → max_threads ≤ t → s₁ ≡ freed (state_of b)
unfolding freed_to freed
freed_all b s₁ t e h i =
    let q : t ≡ 64 = omega arith in
    rw (e, q, filled_all (λ (k : ℕ). free_row) (state_of b).threads [] 64 (length_threads b), tabulate_same 64 free_row)

pub ruleset freeing = (freed_none, freed_more, freed_all)

-- ---- open_ports

pub row_put : (b : List ℕ) (c ty n : ℕ) (s₁ s₂ s₃ : State) → length b ≡ state_words
    → s₁ ≡ with_channel (state_of b) c (set (channel (state_of b) c) 0 ty)
    → s₂ ≡ with_channel s₁ c (set (channel s₁ c) 1 n) → s₃ ≡ with_channel s₂ c (set (channel s₂ c) 2 0) → s₃ ≡ with_channel (state_of b) c (ty ∷ n ∷ 0 ∷ [])
row_put b c ty n s₁ s₂ s₃ e f g k =
    let r = set (channel (state_of b) c) 0 ty in
    channel_again (state_of b) s₂ s₃ c (λ x. set x 2 0) (set r 1 n) k (channel_again (state_of b) s₁ s₂ c (λ x. set x 1 n) r g f) ∙ channel_written b e c ty n 0

module _ (s s₁ : State) (c p : ℕ) where
  pub open_port : s₁ ≡ with_channel s c (1 ∷ 1 ∷ 0 ∷ []) → c < p → s₁ ≡ with_channel s c (port_held p c)
  unfolding port_held
  open_port e h = rw (lt-ltb c p h) e

  pub open_other : s₁ ≡ with_channel s c (0 ∷ 0 ∷ 0 ∷ []) → p ≤ c → s₁ ≡ with_channel s c (port_held p c)
  unfolding port_held
  open_other e h = rw (le-ltb c p h) e

module _ (s : State) (p : ℕ) where
  pub opened_none : s ≡ opened_to s p 0
  unfolding opened_to filled_to with_channels
  opened_none = refl

  pub opened_more : (s₁ s₂ : State) (c : ℕ) → s₁ ≡ opened_to s p c → s₂ ≡ with_channel s₁ c (port_held p c) → s₂ ≡ opened_to s p (c + 1)
  unfolding opened_to filled_to with_channel with_channels
  opened_more s₁ s₂ c e f = rw (f, e, add-one c)

pub opened_all : (b : List ℕ) (p : ℕ) (s₁ : State) (c : ℕ) → s₁ ≡ opened_to (state_of b) p c → c ≤ max_channels → max_channels ≤ c → s₁ ≡ opened (state_of b) p
unfolding opened_to opened
opened_all b p s₁ c e h i =
    let q : c ≡ 128 = omega arith in
    rw (e, q, filled_all (port_held p) (state_of b).channels [] 128 (length_channels b))

pub ruleset opening = (opened_none, opened_more, opened_all)

-- ---- put_marks

pub marks_put : (b : List ℕ) (p : ℕ) (s₁ s₂ s₃ : State) → length b ≡ state_words → s₁ ≡ with_mark (state_of b) 0 1 → s₂ ≡ with_mark s₁ 1 p → s₃ ≡ with_mark s₂ 2 0
    → s₃ ≡ marked (state_of b) p
unfolding with_mark marked
marks_put b p s₁ s₂ s₃ l e f g = rw (g, f, e, three_stored (state_of b).marks 1 p 0 (length_marks b l))

-- ---- write_unstarted

pub unstarted_is : (tb : Table) (p : ℕ) (s s₁ s₂ s₃ : State) → p ≡ ports tb → s₁ ≡ freed s → s₂ ≡ opened s₁ p → s₃ ≡ marked s₂ p → s₃ ≡ unstarted tb
unfolding marked opened freed unstarted with_channels
unstarted_is tb p s s₁ s₂ s₃ h e f g = rw (g, f, e, h)

-- ---- write_start

pub start_written : (tb : Table) (s s₁ : State) (l : List ℕ) (n : ℕ) → s₁ ≡ with_thread s 0 (1 ∷ n ∷ l) → l ≡ tabulate row_slots (port_at tb)
    → n ≡ start tb Nodes 0
    → s₁ ≡ with_thread s 0 (entered tb 0 (λ k. k))
unfolding entered port_at
start_written tb s s₁ l n e f g = e ∙ rw (f, g)

-- ---- nobody but the bench holds anything

module _ (tb : Table) where
  free_holders : (n c : ℕ) → holders tb (replicate n free_row) c ≡ 0
  unfolding holders holds
  free_holders n c = none_pass (λ row. holds tb row c) free_row refl n

  free_waiters : (n c : ℕ) → waiters tb (replicate n free_row) c ≡ 0
  unfolding waiters
  free_waiters n c = none_pass (λ row. is_waiting row && holds tb row c) free_row refl n

  held_row : (c : ℕ) → channel_row (get_or (port_held (ports tb) c) 0 0) (bit (ltb c (ports tb)) + 0) 0 ≡ port_held (ports tb) c
  unfolding channel_row port_held bit
  held_row c = case_b (ltb c (ports tb)) (λ y. rw y) (λ f. rw f)

  -- the recount looks at the types of the 128 channels alone
  recount_types : (ths : List (List ℕ)) (f g : ℕ → ℕ) → ((c : ℕ) → c < max_channels → f c ≡ g c) → recount tb ths f ≡ recount tb ths g
  unfolding recount
  recount_types ths f g h =
      tabulate_cong 128 (λ c. channel_row (f c) (count_of tb ths c) (waiters tb ths c)) (λ c. channel_row (g c) (count_of tb ths c) (waiters tb ths c)) (λ c l. rw (h c l))

  recount_held : (n : ℕ)
      → recount tb (replicate n free_row) (λ c. at (tabulate max_channels (port_held (ports tb))) c 0) ≡ tabulate max_channels (port_held (ports tb))
  unfolding recount count_of
  recount_held n =
      tabulate_cong 128
      (λ c. channel_row (at (tabulate 128 (port_held (ports tb))) c 0) (bit (ltb c (ports tb)) + holders tb (replicate n free_row) c) (waiters tb (replicate n free_row) c))
      (port_held (ports tb))
      (λ c l. rw (get_d_tabulate 128 c (port_held (ports tb)) [] l, free_holders n c, free_waiters n c) (held_row c))

  pub unstarted_settled : settled tb (unstarted tb) ≡ unstarted tb
  unfolding settled unstarted with_channels
  unstarted_settled =
      ap (with_channels (unstarted tb)) (recount_held max_threads)

  unstarted_threads : length (unstarted tb).threads ≡ max_threads
  unfolding unstarted
  unstarted_threads = length-replicate 64 free_row

  -- ---- thread 0's row makes it the start

  same_type : (c : ℕ) → c < max_channels → at (tabulate max_channels (port_held (ports tb))) c 0 ≡ at (tabulate max_channels (port_row tb)) c 0
  unfolding port_held port_row
  same_type c h =
      rw (get_d_tabulate 128 c (port_held (ports tb)) [] h, get_d_tabulate 128 c (port_row tb) [] h)
      (case_b (ltb c (ports tb)) (λ y. rw y) (λ f. rw f))

  start_settled : settled tb (with_thread (unstarted tb) 0 (entered tb 0 (λ k. k))) ≡ started tb
  unfolding settled unstarted started with_thread with_channels
  start_settled =
      let ths = entered tb 0 (λ k. k) ∷ replicate 63 free_row in
      ap (with_channels (with_thread (unstarted tb) 0 (entered tb 0 (λ k. k))))
      (recount_types ths (λ c. at (tabulate 128 (port_held (ports tb))) c 0) (λ c. at (tabulate 128 (port_row tb)) c 0) same_type)

  -- ---- write_started: s after the opening, s₁ after the write of thread 0's row, s₂ after the upkeep

  pub started_is : (s s₁ s₂ : State) (l : List ℕ) (w : ℕ) → s ≡ unstarted tb → l ≡ own_list tb (thread s 0) → w ≡ bit (is_waiting (thread s 0))
      → s₁ ≡ with_thread s 0 (entered tb 0 (λ k. k)) → s₂ ≡ settled_one tb s₁ 0 l w → s₂ ≡ started tb
  started_is s s₁ s₂ l w e i j g f =
      let long : length s.threads ≡ 64 = ap (λ (x : State). length x.threads) e ∙ unstarted_threads in
      let whole : settled tb s ≡ s = rw e unstarted_settled in
      let after : s₂ ≡ settled tb (with_thread s 0 (entered tb 0 (λ k. k))) =
      f ∙ rw (g, i, j) (one_settled tb s long whole 0 (omega arith) (entered tb 0 (λ k. k))) in
      after ∙ rw e start_settled

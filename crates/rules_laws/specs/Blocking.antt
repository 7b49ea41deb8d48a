-- A thread that waits because nobody answers it offers nothing that another waiting thread answers. Assumes nothing.
use Rattle.std.specs.Prelude.{ℕ, ◌<◌, ◌≡◌, true, ◌≢◌, length, set}
use Rattle.std.proofs.Math.Path.{sym}
use Rattle.std.proofs.Common.{◌∙◌}
use mathlib.Core.List.{[]}
use Rattle.numbers.specs.Search.Laws.{contra}
use Rattle.table.specs.Table.{Table}
use Rattle.state.specs.State.{State, max_threads, thread, stands_at}
use Rattle.rules.specs.Program.{branch_at, field_a, opposite}
use Rattle.rules.specs.Offers.{offers}
use Rattle.rules.specs.Moves.{waiting_row}
use Rattle.rules.specs.declared.Direction.{Direction}
use Rattle.rules.specs.declared.Act.TheVariants.{Meeting}
use Rattle.rules_laws.specs.Reading.{Offering}
use Rattle.rules_laws.specs.Reading.Laws.{opposite_opposite, offers_elim}
use Rattle.offers.specs.Apart.{Apart}
use Rattle.rules_laws.specs.Chosen.{Open, channel_by, Blocked}
use Rattle.rules_laws.specs.ThreadRow.{waiting_slot, waiting_guard}
use Rattle.rules_laws.specs.Replaced.{set_read}

module _ (tb : Table) (s : State) (t : ℕ) (b : Blocked tb s t) where
  -- an offer of the row that waits is one of its branches with a true guard
  waiting_open : (d : Direction) (c : ℕ) (f : Offering tb (waiting_row (thread s t)) d c) → Open tb s t f.branch (Meeting d)
  unfolding waiting_row
  waiting_open d c f = record {
    at_choice = b.at_choice;
    branch_in = f.branch_in;
    passes = sym (waiting_guard (thread s t) tb (branch_at tb (stands_at (thread s t)) f.branch)) ∙ f.passes;
    does = f.does;
  }

  waiting_channel : (d : Direction) (c : ℕ) (f : Offering tb (waiting_row (thread s t)) d c) → channel_by tb s t f.branch ≡ c
  unfolding waiting_row
  waiting_channel d c f = sym (waiting_slot (thread s t) (field_a tb (branch_at tb (stands_at (thread s t)) f.branch))) ∙ f.is

  nobody : (d : Direction) (c : ℕ) → offers tb (waiting_row (thread s t)) d c ≡ true → (u : ℕ) → u < max_threads → u ≢ t
      → offers tb (thread s u) (opposite d) c ≡ true → ⊥
  nobody d c o u l n e =
      let f = offers_elim tb (waiting_row (thread s t)) d c o in
      contra e (rw (waiting_channel d c f) at (b.unanswered f.branch d (waiting_open d c f) u l n))

  pub apart_waiting : t < length s.threads → Apart tb s.threads → Apart tb (set s.threads t (waiting_row (thread s t)))
  unfolding Apart
  apart_waiting l a x y bx by ne d c ox oy =
      let row = waiting_row (thread s t) in
      set_read s.threads t x row [] l
      (λ q e. set_read s.threads t y row [] l
      (λ q' e'. absurd (ne (q ∙ sym q')))
      (λ q' e'. nobody d c (rw e at ox) y by q' (rw e' at oy)))
      (λ q e. set_read s.threads t y row [] l
      (λ q' e'. nobody (opposite d) c (rw e' at oy) x bx q (rw (opposite_opposite d) (rw e at ox)))
      (λ q' e'. a x y bx by ne d c (rw e at ox) (rw e' at oy)))

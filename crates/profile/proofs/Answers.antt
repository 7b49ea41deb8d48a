-- The ways out of the check of a table. Assumes nothing.
use Rattle.profile.specs.declared.ProfileRefusal.TheVariants as ProfileRefusal
use Rattle.profile.specs.Answers.{Profiled}
use Rattle.std.specs.Prelude.{ℕ, ◌≤◌, ◌<◌, ◌≡◌, Bool, true, false, List, length, get_or, Err, Ok}
use native.Mathlib.Omega.{arith}
use Rattle.std.proofs.Common.{sym, ◌∙◌, Fits}
use Rattle.std.specs.Int.{w8}
use borrow.Author.Tests.{eq-eqb, ne_eqb, le-leb, lt-leb}
use Rattle.numbers.specs.Bytes.Laws.{bytes_fit}
use Rattle.table.specs.Table.{Table, table_length, table_of}
use Rattle.table.specs.Index.{Indexed}
use Rattle.loader.specs.Load.{accepted}
use Rattle.state.specs.State.{max_threads}
use Rattle.rules_laws.specs.Granted.{Granted}
use Rattle.rules_laws.specs.Accepted.{granted}
use Rattle.profile.specs.Profile.{calls_allowed, definition_bound, within_rows, profile_of, profile_call}
use Rattle.profile.specs.Equations.{Rising}
use Rattle.profile.specs.Rising.{accepted_rising}
use Rattle.profile.specs.Finding.{above, capped}

-- ---- grounds 16 and 17

module _ (tb : Table) (b : Bool) (y : b ≡ calls_allowed tb) where
  pub call_forbidden : b ≡ false → Err ProfileRefusal.ForbiddenCall ≡ profile_of tb
  unfolding profile_of
  call_forbidden k = rw (← y, k)

  module _ (k : b ≡ true) (n : ℕ) (e : n ≡ capped (definition_bound tb 0)) where
    to_bound : profile_of tb ≡ within_rows (definition_bound tb 0)
    unfolding profile_of
    to_bound = rw (← y, k)

    pub threads_few : n < above → Ok n ≡ profile_of tb
    unfolding within_rows capped
    threads_few l =
        let q : n ≡ definition_bound tb 0 = omega arith in
        rw (to_bound, ← q, le-leb n max_threads (omega arith))

    pub threads_many : above ≤ n → Err ProfileRefusal.ManyThreads ≡ profile_of tb
    unfolding within_rows capped
    threads_many l = rw (to_bound, lt-leb (definition_bound tb 0) max_threads (omega arith))

-- ---- grounds 8 and 9

module _ (t : List ℕ) where
  pub length_wrong : (length t ≡ table_length → ⊥) → Err ProfileRefusal.WrongLength ≡ profile_call t
  unfolding profile_call
  length_wrong h = rw (ne_eqb (length t) table_length h)

  module _ (long : length t ≡ table_length) where
    pub table_wrong : accepted t ≡ false → Err ProfileRefusal.WrongTable ≡ profile_call t
    unfolding profile_call
    table_wrong h = rw (eq-eqb (length t) table_length long, h)

    pub table_right : (r : Profiled) → r ≡ profile_of (table_of t) → accepted t ≡ true → r ≡ profile_call t
    unfolding profile_call
    table_right r e h = rw (eq-eqb (length t) table_length long, h) e

  -- what an accepted table grants to the functions that are called
  module _ (e : accepted t ≡ true) (fit : (i : ℕ) → Fits w8 (get_or t i 0)) where
    pub grants : Granted (table_of t)
    grants = granted t e (bytes_fit t fit)

    pub rises : calls_allowed (table_of t) ≡ true → Rising (table_of t)
    rises = accepted_rising t e (bytes_fit t fit)

  -- what the test of the table says where it says yes: the table is accepted, and its index is there
  pub is_accepted : (a : Bool) → a ≡ accepted t → a ≡ true → accepted t ≡ true
  is_accepted a x h = sym x ∙ h

  pub indexed : (a : Bool) (l : List ℕ) → (a ≡ true → Indexed (table_of t) l) → a ≡ true → Indexed (table_of t) l
  indexed a l f h = f h

-- What holds after every list of calls, from the state that start writes for an accepted table. The calls are those of `rules/specs/Calls.antt`, without seats: what a
-- call at a seat comes to where the seat has the right. `guarantee/specs/SeatedClaim.antt` has lists of the calls as C makes them. Assumes nothing.
use Rattle.std.specs.Prelude.{ℕ, ◌<◌, ◌≡◌, true, false, ◌≢◌, ◌↔◌, length, get_or, Err}
use Rattle.std.proofs.Math.Path.{refl}
use mathlib.Core.List.{List, [], ◌∷◌}
use Rattle.numbers.specs.Tests.{clash}
use Rattle.table.specs.Table.{table_of}
use Rattle.loader.specs.Load.{accepted}
use Rattle.state.specs.State.{State, max_threads, max_channels, state_length, view, thread, type_in, count_in, waiters_in}
use Rattle.rules.specs.Holding.{waiters, count_of}
use Rattle.rules.specs.Offers.{offers}
use Rattle.rules.specs.Calls.{start_call, step_call, give_call, take_call, run_call}
use Rattle.rules.specs.declared.Direction.TheVariants.{Out, In}
use Rattle.rules.specs.declared.Refusal.{Refusal}
use Rattle.rules.specs.declared.Refusal.TheVariants as Ground
use Rattle.rules_laws.specs.Soundness.{Sound}
use Rattle.rules_laws.specs.Soundness.Counted.{count_is, waiters_is, used_exactly}
use Rattle.engine_laws.specs.OneSided.{no_receiver}
use Rattle.engine.specs.Numbers.{refusal_number}
use Rattle.engine_laws.specs.Entry.{at_entry}
use Rattle.engine_laws.specs.Refusals.{step_entry_iff, give_entry_iff, take_entry_iff, run_refused_iff}
use Rattle.engine_laws.specs.Buffers.{SoundBuffer, view_sound}
use Rattle.engine_laws.specs.SoundCalls.{start_done, admitted, start_sound, step_sound, give_sound, take_sound, run_sound}

-- ---- lists of calls

-- a call on a state: a step of thread t, a give on port p of the number with the 32-bit pattern v, a take on port p, a run of at most n steps
pub data Call : Type 0 where
  step : (t : ℕ) → Call
  give : (p v : ℕ) → v < 4294967296 → Call
  take : (p : ℕ) → Call
  run : (n : ℕ) → Call

-- the bytes of the state's buffer after a call without seats, and after a list of such calls, the first of it first
unfoldable pub after : List ℕ → List ℕ → Call → List ℕ
after table state (step t) = (step_call table state t).state
after table state (give p v h) = (give_call table state p v).state
after table state (take p) = (take_call table state p).state
after table state (run n) = (run_call table state n).state

unfoldable pub after_all : List ℕ → List ℕ → List Call → List ℕ
after_all table state [] = state
after_all table state (k ∷ ks) = after_all table (after table state k) ks

-- a call on these buffers is answered by a refusal on ground r
unfoldable pub RefusedWith : List ℕ → List ℕ → Call → Refusal → Type 0
RefusedWith table state (step t) r = (step_call table state t).answer ≡ Err r
RefusedWith table state (give p v h) r = (give_call table state p v).answer ≡ Err r
RefusedWith table state (take p) r = (take_call table state p).answer ≡ Err r
RefusedWith table state (run n) r = (run_call table state n).answer ≡ Err r

-- the bytes after a start and a list of calls; what the buffer had before the start is overwritten unread
abbrev pub reached : List ℕ → List ℕ → List Call → List ℕ
reached table state ks = after_all table (start_call table state).state ks

-- ---- a table that is accepted

module _ (table : List ℕ) (ok : accepted table ≡ true) where
  -- no call on a sound buffer is refused on ground 8, 9 or 10
  none_at_entry : (state : List ℕ) → SoundBuffer table state → (k : Call) (r : Refusal) → at_entry r ≡ true → ¬ RefusedWith table state k r
  unfolding RefusedWith
  none_at_entry state b (step t) r y e = let a = admitted table ok state b in let f = (step_entry_iff table state t r y).0 e in clash cc
  none_at_entry state b (give p v h) r y e = let a = admitted table ok state b in let f = (give_entry_iff table state p v r y).0 e in clash cc
  none_at_entry state b (take p) r y e = let a = admitted table ok state b in let f = (take_entry_iff table state p r y).0 e in clash cc
  none_at_entry state b (run n) r y e = let a = admitted table ok state b in let f = (run_refused_iff table state n r).0 e in clash cc

  module _ (fit : (i : ℕ) → get_or table i 0 < 256) where
    -- a call leaves a sound buffer sound, performed or refused
    pub after_sound : (state : List ℕ) → SoundBuffer table state → (k : Call) → SoundBuffer table (after table state k)
    unfolding after
    after_sound state b (step t) = step_sound table ok fit state b t
    after_sound state b (give p v h) = give_sound table ok fit state b p v h
    after_sound state b (take p) = take_sound table ok fit state b p
    after_sound state b (run n) = run_sound table ok fit state b n

    -- a list of calls leaves a sound buffer sound
    pub all_sound : (state : List ℕ) → SoundBuffer table state → (ks : List Call) → SoundBuffer table (after_all table state ks)
    unfolding after_all
    all_sound state b [] = b
    all_sound state b (k ∷ ks) = all_sound (after table state k) (after_sound state b k) ks

-- ---- the theorems: of an accepted table, a state's buffer and a list of calls

module _ (table : List ℕ) (ok : accepted table ≡ true) (fit : (i : ℕ) → get_or table i 0 < 256) (state : List ℕ) (long : length state ≡ state_length)
    (ks : List Call) where
  -- the buffer holds all that document 01 asks of a sound state (`rules/specs/Sound.antt` has one test for each part of it)
  pub always_sound : SoundBuffer table (reached table state ks)
  always_sound = all_sound table ok fit (start_call table state).state (start_sound table ok fit state (start_done table ok state long)) ks

  -- document 01, demand 3: no call of a list is refused with 10. Here the call is the next one, after a list that may be any, and so each call of each list
  pub never_ten : (k : Call) → ¬ RefusedWith table (reached table state ks) k Ground.State
  unfolding at_entry refusal_number
  never_ten k = none_at_entry table ok (reached table state ks) always_sound k Ground.State refl

  -- no call of a list is refused with 8 or 9: the two buffers keep their lengths, and the table is accepted throughout (a list of rights, which these calls
  -- have not, may still have another length)
  pub never_eight : (k : Call) → ¬ RefusedWith table (reached table state ks) k Ground.Length
  unfolding at_entry refusal_number
  never_eight k = none_at_entry table ok (reached table state ks) always_sound k Ground.Length refl

  pub never_nine : (k : Call) → ¬ RefusedWith table (reached table state ks) k Ground.Table
  unfolding at_entry refusal_number
  never_nine k = none_at_entry table ok (reached table state ks) always_sound k Ground.Table refl

  -- the state after the list
  abbrev s : State
  s = view (reached table state ks)

  holding : Sound (table_of table) s
  holding = view_sound table (reached table state ks) always_sound

  -- document 01, demand 3: a channel's count, the second word of its row, is how many threads hold it, read off the thread rows, the bench being one more
  -- for a port (`count_of`); the third word is how many of those threads wait; and the channel is in use, its type being other than 0, exactly if its count
  -- is above 0
  pub counts_true : (c : ℕ) → c < max_channels
      → (count_in s c ≡ count_of (table_of table) s.threads c)
      × (waiters_in s c ≡ waiters (table_of table) s.threads c)
      × ((type_in s c ≢ 0) ↔ (0 < count_in s c))
  counts_true c l = (
    count_is (table_of table) s holding c l,
    waiters_is (table_of table) s holding c l,
    rw (count_is (table_of table) s holding c l) (used_exactly (table_of table) s holding c l),
  )

  -- 002, Proposition 2, and a part of what document 01 says of waiting threads in a sound state: no channel has a waiting thread's send and
  -- another waiting thread's receive on offer
  pub polarity : (t u : ℕ) → t < max_threads → u < max_threads → t ≢ u → (c : ℕ) → offers (table_of table) (thread s t) Out c ≡ true
      → offers (table_of table) (thread s u) In c ≡ false
  polarity t u l m n c e = no_receiver (table_of table) s holding t u l m n c e

-- Buffers that hold a sound state: what a call is asked of its buffer, and the record of a sound state, say the same. Assumes nothing.
use Rattle.std.specs.Prelude.{ℕ, ◌<◌, ◌≡◌, true, List, length, get_or}
use Rattle.table.specs.Table.{table_of}
use Rattle.state.specs.State.{State, state_length, view, state_bytes}
use Rattle.rules.specs.Sound.{sound}
use Rattle.rules_laws.specs.Shape.Laws.{view_shaped, bytes_long, bytes_small, view_bytes}
use Rattle.rules_laws.specs.Soundness.{Sound}
use Rattle.rules_laws.specs.Soundness.Laws.{sound_elim, sound_intro}

-- a buffer of a state's length, of bytes, that holds a sound state for the table in another buffer
pub record SoundBuffer (table state : List ℕ) : Type 0 where
  pub long : length state ≡ state_length
  pub small : (i : ℕ) → get_or state i 0 < 256
  pub tested : sound (table_of table) (view state) ≡ true

-- the state that such a buffer holds is sound
pub view_sound : (table state : List ℕ) → SoundBuffer table state → Sound (table_of table) (view state)
view_sound table state b = sound_elim (table_of table) (view state) (view_shaped state b.long b.small) b.tested

-- the bytes of a sound state are such a buffer
pub bytes_sound : (table : List ℕ) (s : State) → Sound (table_of table) s → SoundBuffer table (state_bytes s)
bytes_sound table s ok = let h = ok.orderly.shaped in record {
  long = bytes_long s h;
  small = bytes_small s;
  tested = rw (view_bytes s h) (sound_intro (table_of table) s ok);
}

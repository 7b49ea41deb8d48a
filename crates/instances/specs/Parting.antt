-- The file of the rows `parting` from its start: what it loads to, and after a run the bytes and the state that they hold. Assumes nothing.
use Rattle.std.specs.Prelude.{ℕ, ◌<◌, ◌≡◌, true, List, [], ◌∷◌, length, get_or, replicate}
use Rattle.std.proofs.Common.{ap, ◌∙◌}
use Rattle.std.proofs.lemmas.List.{length-replicate}
use Rattle.table.specs.Table.{Table, table_of}
use Rattle.loader.specs.Load.{accepted}
use Rattle.loader_laws.specs.PrintedFile.{filled_up}
use Rattle.state.specs.State.{State, state_length, view}
use Rattle.rules.specs.Start.{started}
use Rattle.rules.specs.Calls.{course_of}
use Rattle.rules_laws.specs.Soundness.{Sound}
use Rattle.engine_laws.specs.Buffers.{SoundBuffer}
use Rattle.engine_laws.specs.SoundCalls.{start_view, run_view}
use Rattle.engine_laws.specs.Lists.{run, after}
use Rattle.examples.specs.Tables.{parting}
use Rattle.examples.specs.Files as Files
use Rattle.examples.specs.Files.{table_for, table_holds, table_small, table_accepted, parting_in_order}
use Rattle.guarantee.specs.Claim.{on, after_any, after_list, reached_by}
use Rattle.guarantee.specs.Proof.{reached_sound}

-- ---- the table

abbrev pub tb : Table
tb = filled_up parting

-- the bytes that loading leaves
unfoldable pub table : List ℕ
table = table_for parting

pub accepts : accepted table ≡ true
unfolding table
accepts = table_accepted parting parting_in_order

pub small : (i : ℕ) → get_or table i 0 < 256
unfolding table
small = table_small parting parting_in_order

pub held_table : table_of table ≡ filled_up parting
unfolding table
held_table = table_holds parting parting_in_order

-- ---- the state after a run of n steps, and the bytes after a start in a buffer of zeros and such a run

unfoldable pub state_after : ℕ → State
state_after n = (course_of (filled_up parting) n (started (filled_up parting))).state

pub state_sound : (n : ℕ) → Sound (filled_up parting) (state_after n)
unfolding state_after
state_sound = Files.run_sound parting parting_in_order

pub blank : List ℕ
blank = replicate state_length 0

pub blank_long : length blank ≡ state_length
unfolding blank
blank_long = length-replicate {A = ℕ} state_length 0

abbrev pub begun : List ℕ
begun = reached_by table blank []

abbrev pub bytes_after : ℕ → List ℕ
bytes_after n = reached_by table blank (on (run n) ∷ [])

pub begun_sound : SoundBuffer table begun
begun_sound = reached_sound table accepts small blank blank_long []

pub begun_view : view begun ≡ started (filled_up parting)
unfolding after_list
begun_view = start_view table accepts small blank blank_long ∙ ap started held_table

pub bytes_sound : (n : ℕ) → SoundBuffer table (bytes_after n)
bytes_sound n = reached_sound table accepts small blank blank_long (on (run n) ∷ [])

pub bytes_view : (n : ℕ) → view (bytes_after n) ≡ state_after n
unfolding state_after after_list after_any after
bytes_view n = run_view table accepts small begun begun_sound n ∙ rw (held_table, begun_view)

-- Instances of the theorems on moves (`crates/rules_laws`): a meeting that changes another row, a channel that is learnt, and rows that are lacking. Assumes
-- nothing.
use Rattle.std.specs.Prelude.{ℕ, ◌≡◌, refl, true, false, [], ◌∷◌, replicate}
use Rattle.std.proofs.Common.{arith, sym, ◌∙◌, inl, inr, ⊎_elim}
use Rattle.numbers.specs.Search.Laws.{contra}
use Rattle.table.specs.Table.{Table}
use Rattle.loader_laws.specs.PrintedFile.{filled_up}
use Rattle.state.specs.State.{State, thread, is_ready, is_waiting, type_in}
use Rattle.rules.specs.Holding.{holds}
use Rattle.rules.specs.Start.{started}
use Rattle.rules.specs.Moves.{move, perform}
use Rattle.rules.specs.Calls.{course_of}
use Rattle.rules.specs.declared.Act.TheVariants.{New, Spawn}
use Rattle.rules.specs.declared.Move.TheVariants.{Creates, Spawns, Meets, LacksThread, LacksChannel}
use Rattle.rules_laws.specs.Frames.{elem, elem_nil, elem_cases, movers, waiting_stays}
use Rattle.rules_laws.specs.Learnt.{Knew, learnt}
use Rattle.engine_laws.specs.Lacking.{Takes, NoThreadRow, NoChannelRow, lacks_thread_iff, lacks_channel_iff}
use Rattle.examples.specs.Builders.{ready_at, channel_with, state_with}
use Rattle.examples.specs.Tables.{chain, spawner, maker, teaching}
use Rattle.examples.specs.Computing.{running}
use Rattle.examples.specs.Files.{rows_granted, run_sound, teaching_in_order}
use Rattle.instances.specs.PaperCollector.{chained}

-- ---- frames: in document 01's third case thread 0 sends to thread 2, which waits, and thread 1 waits on

-- the move changes the row of thread 2
pub partner_goes_on : (is_waiting (thread chained 2) ≡ true) × (is_ready (thread (perform chain chained 0 (move chain chained 0)) 2) ≡ true)
unfolding running chained
partner_goes_on = (refl, refl)

-- by the law it leaves the row of thread 1
pub third_stays : thread (perform chain chained 0 (move chain chained 0)) 1 ≡ thread chained 1
unfolding running chained movers elem
third_stays = waiting_stays chain chained 0 1 refl refl

-- ---- learnt: thread 0 sends channel 1 to its child, which did not know it

abbrev tb : Table
tb = filled_up teaching

unfoldable pub taught : State
taught = (course_of (filled_up teaching) 4 (started (filled_up teaching))).state

abbrev after : State
after = perform tb taught 0 (move tb taught 0)

pub child_learns : (holds tb (thread taught 1) 1 ≡ false) × (holds tb (thread after 1) 1 ≡ true) × (type_in taught 1 ≡ 1)
unfolding running taught
child_learns = (refl, refl, refl)

pub taught_move : move (filled_up teaching) taught 0 ≡ Meets 0 1 0
unfolding running taught
taught_move = refl

pub taught_ready : is_ready (thread taught 0) ≡ true
unfolding running taught
taught_ready = refl

-- by the law somebody who took part knew it, since it was in use
pub taught_by : Knew tb taught (0 ∷ 1 ∷ []) 1 1
unfolding taught movers
taught_by = rw taught_move at
    (learnt tb (rows_granted teaching teaching_in_order) taught (run_sound teaching teaching_in_order 4) 0 (omega arith) taught_ready 1 1 child_learns.1)

-- it was not the child itself that knew the channel
pub not_by_itself : ¬ Knew tb taught (1 ∷ []) 1 1
not_by_itself (inl e) = let z : ◌≡◌ {A = ℕ} 1 0 = sym child_learns.2 ∙ e in omega arith
not_by_itself (inr (w, k, h)) =
    let q : w ≡ 1 = ⊎_elim (λ e. e) (λ e. ⊎_elim (λ f. f) (λ f. elem_nil w f) (elem_cases w 1 [] e)) k in
    contra (rw q at h) child_learns.0

-- ---- grounds 13 and 14: with 63 threads a spawn goes ahead, with 64 it lacks a row; with 127 channels a new goes ahead, with 128 it lacks a row, even where
-- the slot that it writes is the last to hold one of them

-- n threads at node 0, and no channel
abbrev pub crowd : ℕ → State
crowd n = state_with (0 ∷ 0 ∷ 0 ∷ []) (replicate n (ready_at 0 [])) []

pub spawn_lacks : move spawner (crowd 64) 0 ≡ LacksThread
unfolding running
spawn_lacks = refl

pub spawn_goes : move spawner (crowd 63) 0 ≡ Spawns 0 63
unfolding running
spawn_goes = refl

-- so, by the law, the branch is a spawn and every row is in use
pub full_says : Takes spawner (crowd 64) 0 Spawn × NoThreadRow (crowd 64)
full_says = (lacks_thread_iff spawner (crowd 64) 0).0 spawn_lacks

-- thread 0 at node 1, a new in the place of channel 5, which it alone holds; and so many channels
abbrev pub holder : ℕ → State
holder n = state_with (0 ∷ 0 ∷ 0 ∷ []) (ready_at 1 (5 ∷ []) ∷ []) (replicate n (channel_with 1 1 0))

pub new_lacks : move maker (holder 128) 0 ≡ LacksChannel
unfolding running
new_lacks = refl

pub new_goes : move maker (holder 127) 0 ≡ Creates 0 127
unfolding running
new_goes = refl

pub all_used_says : Takes maker (holder 128) 0 New × NoChannelRow (holder 128)
all_used_says = (lacks_channel_iff maker (holder 128) 0).0 new_lacks

-- Each of these names opens what examples of one kind compute with.
use Rattle.numbers.specs.Count.{bit, count}
use Rattle.numbers.specs.Search.{some, computing}
use Rattle.numbers.specs.Signed.{in_range, narrowed, is_exact, lower, sum, widened}
use Rattle.table.specs.Layout.{blocks, lines, branch_count, size, start, ends_past, owner}
unfoldable pub use Rattle.loader.specs.Verdict.Computing.{judging}
use Rattle.state.specs.State.{with_mark, with_thread, with_channel, with_channels}
use Rattle.rules.specs.Program.{checked_sum, checked_difference, fitting, type_at, channel_slot, blank, branch_at, next_of, child_of, act_of, printed_guard, assigned, guard_holds, opposite, same}
use Rattle.rules.specs.Holding.{has_at, holds, holders, waiters, count_of, channel_row, recount, settled}
use Rattle.rules.specs.Start.{entered, port_row, started}
use Rattle.rules.specs.Offers.{meets?, offers_in, offers_at, offering_branch, offers, answers, answering, partner_of}
use Rattle.rules.specs.Moves.{first_from, around, one_up, is_free_thread, is_free_channel, free_thread, free_channel, meeting, creation, spawning, goes_ahead, act_move, branch_move, ahead, choice, move, resumed, waiting_row, stored, met, stored_number, gone, side_of, typed, gone_by, created_by, met_by, value_by, type_by, spawned_by, written, perform}
use Rattle.rules.specs.Calls.{step_answer, is_ready_thread, next_ready, past_turn, reason_for, turn_for, turn_by, turn_end, take_turn, one_more, onward, course_of}
use Rattle.rules.specs.Sound.{marks_in_range, free_zero, row_in_range, spare_zero, slot_typed, slots_typed, slot_filled, slots_filled, count_true, port_typed, waits_rightly, sound}
use Rattle.marking.specs.Enabled as Enabled
use Rattle.marking.specs.Enabled.{nobody, known, reaches, joins, rounds, enabled_set}
use Rattle.collector.specs.Collect.{taken, remaining, collected, taken_count}

-- runs
unfoldable pub running : Unit {0}
unfolding computing some bit count in_range narrowed is_exact lower sum widened blocks lines branch_count size start ends_past owner with_mark with_thread with_channel with_channels checked_sum checked_difference fitting type_at channel_slot blank branch_at next_of child_of act_of printed_guard assigned guard_holds opposite same has_at holds holders waiters count_of channel_row recount settled entered port_row started meets? offers_in offers_at offering_branch offers answers answering partner_of first_from around one_up is_free_thread is_free_channel free_thread free_channel meeting creation spawning goes_ahead act_move branch_move ahead choice move resumed waiting_row stored met stored_number gone side_of typed gone_by created_by met_by value_by type_by spawned_by written perform step_answer is_ready_thread next_ready past_turn reason_for turn_for turn_by turn_end take_turn one_more onward course_of
running = tt

-- runs and collections
unfoldable pub collecting : Unit {0}
unfolding running known reaches joins Enabled.begins rounds enabled_set nobody taken remaining collected taken_count
collecting = tt

-- the test of a sound state
unfoldable pub testing : Unit {0}
unfolding judging running marks_in_range free_zero row_in_range spare_zero slot_typed slots_typed slot_filled slots_filled count_true port_typed waits_rightly sound
testing = tt

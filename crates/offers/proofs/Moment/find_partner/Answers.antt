use mathlib.Core.Path.{refl, sym, ◌∙◌}
use borrow.Author.Rules.{rules}
use Rattle.numbers.specs.Search.Laws.{contra, first_none}
use Rattle.offers.proofs.Search.{threads_skipped, nobody_is, neither_passed, competing_passed, other_offered, found_is, competing_ends, waits_here, waits_now, waiting_less}
use Rattle.offers.specs.Tried.{no_channel, thread_passed}
use Rattle.offers.proofs.Moment.find_partner.Goals as goal
use Rattle.offers.proofs.Moment.find_partner.Goals.{in-Competes, in-Neither}

pub returns-then-c-ge-CHANNELS : goal.returns-then-c-ge-CHANNELS
returns-then-c-ge-CHANNELS c = search (no_channel, rules)

pub threads-init : goal.threads-init
threads-init c = (
  search rules,
  threads_skipped _ _ _ _ _ _ 0 c.next_waiting-u.result c.next_waiting-u.ensures.value (search first_none),
  search rules,
  λ h. waits_here _ _ 0 c.next_waiting-u.result c.next_waiting-u.ensures.value h,
)

pub branches_asked-n-requires : goal.branches_asked-n-requires
branches_asked-n-requires c = search waits_now

pub loop-i-init : goal.loop-i-init
loop-i-init c = (search rules, search first_none, search rules, λ o. contra o refl)

pub loop-i-preserved : goal.loop-i-preserved
loop-i-preserved c = (
  search rules,
  elim c.match-seen_in.branch [
    | in-Competes w ↦ competing_passed _ _ _ _ _ _ c.loop-i.i _ c.first_row-from.ensures.value c.seen_in.result (search) (search) w.in-Competes.is (search)
    | in-Neither w ↦ neither_passed _ _ _ _ _ _ c.loop-i.i _ c.first_row-from.ensures.value c.seen_in.result (search) (search) w.in-Neither.is (search)
  ],
  search rules,
  elim c.match-seen_in.branch [
    | in-Competes w ↦ λ o. other_offered _ _ _ _ _ _ c.loop-i.i _ c.first_row-from.ensures.value c.seen_in.result (search) (search) w.in-Competes.is _ c.branches_asked-n.ensures (search)
    | in-Neither w ↦ λ o. c.loop-i.invariant.3 (sym w.competes-is ∙ o)
  ],
)

pub threads-smaller : goal.threads-smaller
threads-smaller c = search waiting_less

pub threads-preserved : goal.threads-preserved
threads-preserved c = (
  search rules,
  threads_skipped _ _ _ _ _ _ _ c.next_waiting-u-in-threads.result c.next_waiting-u-in-threads.ensures.value (thread_passed _ _ _ _ _ _ c.branches_asked-n.result c.loop-i.i (search) (search) (search rules) (search rules) (search) (search)),
  search rules,
  λ h. waits_here _ _ _ c.next_waiting-u-in-threads.result c.next_waiting-u-in-threads.ensures.value h,
)

-- ---- what was shown of the fields is shown of the moment that they are

pub returns-after-threads : goal.returns-after-threads
returns-after-threads c = let used = rw (← c.self.view_is) at c.limit-limit.ensures in rw (← c.self.view_is) (search nobody_is)

pub returns-in-Answers : goal.returns-in-Answers
returns-in-Answers c = let used = rw (← c.self.view_is) at c.limit-limit.ensures in rw (← c.self.view_is) (search found_is)

pub returns-then-competes : goal.returns-then-competes
returns-then-competes c =
    let used = rw (← c.self.view_is) at c.limit-limit.ensures in
    rw (← c.self.view_is)
    (c.loop-i.invariant.2 ∙ competing_ends _ _ _ _ _ _ c.branches_asked-n.result c.loop-i.i (search) (search) (search rules) (search rules) (search) _ c.loop-i.invariant.3 c.if-competes.true (search) _ used (search))

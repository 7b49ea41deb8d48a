-- A run begins in a sound state, a turn of a ready thread keeps its invariant, and what the code leaves is the turn of the rules. Assumes nothing.
use Rattle.rules.specs.Answers.{Turn}
use Rattle.std.specs.Prelude.{ℕ, ◌<◌, ◌≡◌, true}
use Rattle.std.proofs.Common.{sym, ◌∙◌}
use Rattle.table.specs.Table.{Table}
use Rattle.state.specs.State.{State, max_threads, thread, stands_at, is_ready, with_mark, with_channels}
use Rattle.rules.specs.Holding.{settled}
use Rattle.rules.specs.Moves.{one_up, move, written, perform}
use Rattle.rules.specs.Calls.{turn_by}
use Rattle.rules.specs.declared.Move.{Move}
use Rattle.rules.specs.declared.Move.TheVariants.{LacksThread, LacksChannel}
use Rattle.upkeep.specs.Upkeep.{settled_again, settled_mark}
use Rattle.next_rows.specs.UsedBelow.{UsedBelow}
use Rattle.offers.specs.Apart.{Apart}
use Rattle.rules_laws.specs.Granted.{Granted}
use Rattle.rules_laws.specs.Soundness.{Sound}
use Rattle.rules_laws.specs.Soundness.Laws.{sound_settled, sound_apart}
use Rattle.turns.specs.Counted.{Counted}
use Rattle.turns.specs.Counted.Laws.{counted_start, move_alike, written_settled}
use Rattle.turns.specs.Made.Laws.{turn_ends, turn_sound}
use Rattle.turns.specs.TopRaised.{raised_by, turn_used}
use Rattle.turns.specs.Weights.{weighed_after}
use Rattle.turns.specs.Weights.Laws.{weighed_mark}
use Rattle.turns.specs.Running.{Running, MoveMade, TurnTaken}

-- ---- a run begins

pub running_begins : (tb : Table) (s : State) → Granted tb → Sound tb s → Running tb s
running_begins tb s g ok = record { accepted = g; counted = counted_start tb s (sound_settled tb s ok); sound = rw (sound_settled tb s ok) ok }

-- ---- in the midst of a run

module _ (tb : Table) (s : State) (run : Running tb s) where
  pub running_apart : Apart tb s.threads
  unfolding settled with_channels
  running_apart = sound_apart tb (settled tb s) run.sound

counted_mark : (tb : Table) (s s₁ : State) (i v : ℕ) → Counted tb s → s₁ ≡ with_mark s i v → Counted tb s₁
unfolding Counted settled with_mark with_channels
counted_mark tb s s₁ i v e f = rw f e

-- ---- the arms of the match that makes a move m

module _ (tb : Table) (s s₁ : State) (t : ℕ) (m : Move) where
  pub made_by : (n : Move) → MoveMade tb s t n s₁ → m ≡ n → MoveMade tb s t m s₁
  made_by n a e = rw e a

module _ (tb : Table) (s : State) (t : ℕ) (m : Move) (e : Counted tb s) where
  pub lacks_thread : m ≡ LacksThread → MoveMade tb s t m s
  unfolding written weighed_after
  lacks_thread f = rw f (record { after = written_settled tb s e t LacksThread; counted = e; weights = λ whole. whole })

  pub lacks_channel : m ≡ LacksChannel → MoveMade tb s t m s
  unfolding written weighed_after
  lacks_channel f = rw f (record { after = written_settled tb s e t LacksChannel; counted = e; weights = λ whole. whole })

-- ---- a turn: s₁ after the move, s₂ with the turn moved on

module _ (tb : Table) (s : State) (t top : ℕ) (m : Move) (s₁ s₂ : State) (v k : ℕ) (w : Turn) (f : s₂ ≡ with_mark s₁ 2 v)
    (a : MoveMade tb s t m s₁)
    (d : m ≡ move tb s t) (i : v ≡ one_up max_threads t) (j : w ≡ turn_by t m) (n : k ≡ raised_by top m) (run : Running tb s) (used : UsedBelow s top) (l : t < max_threads)
    (r : is_ready (thread s t) ≡ true) where
  -- the move in what the state stands for
  same_move : m ≡ move tb (settled tb s) t
  same_move = d ∙ move_alike tb s run.counted t

  after_move : settled tb s₁ ≡ perform tb (settled tb s) t (move tb (settled tb s) t)
  after_move = a.after ∙ rw same_move

  after_turn : settled tb s₂ ≡ with_mark (settled tb s₁) 2 v
  after_turn = rw f (settled_mark tb s₁ 2 v)

  still_sound : Sound tb (settled tb s₂)
  unfolding settled with_channels
  still_sound = turn_sound tb run.accepted (settled tb s) run.sound t l r (settled tb s₁) (settled tb s₂) v after_turn after_move i

  still_used : UsedBelow s₂ k
  unfolding settled with_channels UsedBelow
  still_used = turn_used tb (settled tb s) t top used r m (settled tb s₁) (settled tb s₂) v k after_turn after_move same_move n

  pub turn_taken : TurnTaken tb s t (record { turn = w; decided = m; top = k }) s₂
  turn_taken = record {
    ends = turn_ends tb (settled tb s) (settled_again tb s) t m (settled tb s₁) (settled tb s₂) w v after_turn after_move same_move i j;
    decided = same_move;
    running = record { accepted = run.accepted; counted = counted_mark tb s₁ s₂ 2 v a.counted f; sound = still_sound };
    used = still_used;
    weights = λ whole. rw f (settled_mark tb s₁ 2 v ∙ rw (a.weights whole) (sym (weighed_mark tb (stands_at (thread s t)) t s₁ 2 v m)));
  }

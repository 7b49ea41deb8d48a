use Rattle.std.proofs.Common.{rules, sym, ◌∙◌}
use borrow.Author.Tests.{eqb-true, ne_eqb}
use Rattle.numbers.specs.Search.Laws.{contra}
use Rattle.sound.proofs.Ways.{count_told}
use Rattle.sound.proofs.channel_sound.Goals as goal
use Rattle.sound.proofs.channel_sound.Goals.{then-count-count_due, else-count-count_due}

pub returns-then-channel_word-byte_at : goal.returns-then-channel_word-byte_at
returns-then-channel_word-byte_at c = elim c.if-count-count_due.branch [
  | then-count-count_due w ↦
      count_told _ _ _ c.channel_word-count.result c.count_due.result (search rules) (search rules) w.if-count-count_due.true
      w.channel_word.result w.byte_at.result c.args.counts.now.waiting (search rules) (search rules) c.requires.waiting_value c.requires.c_lt_max_channels
      (eqb-true _ _ (sym w.value-is ∙ c.if-channel_word-byte_at.true)) _ (search rules)
  | else-count-count_due w ↦ contra (sym w.value-is ∙ c.if-channel_word-byte_at.true) (ne_eqb _ _ w.if-count-count_due.false)
]

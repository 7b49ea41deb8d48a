use borrow.Author.Rules.{rules}
use Rattle.numbers.specs.Bits.{joined_none, joined_more}
use Rattle.sound.proofs.Ways.{words_zero}
use Rattle.sound.proofs.row_is_zero.Goals as goal

pub loop-k-init : goal.loop-k-init
loop-k-init c = (search rules, search joined_none)

pub loop-k-preserved : goal.loop-k-preserved
loop-k-preserved c = (search rules, search joined_more)

pub returns : goal.returns
returns c = search words_zero

use Rattle.std.proofs.Common.{rules}
use Rattle.text.proofs.Laws.{figure_laid}
use Rattle.text.proofs.put_field.Goals as goal

pub returns-then-v-lt10 : goal.returns-then-v-lt10
returns-then-v-lt10 c = figure_laid _ _ _ _ (search rules) (search rules) (search rules)

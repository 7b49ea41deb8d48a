use Rattle.std.proofs.Common.{rules}
use Rattle.loader.specs.Load.Laws.{zero_numbers, none_sound, none_table, own_verdict, own_table}
use Rattle.loader.proofs.judge_procedure.Goals as goal

pub lay_ending-requires : goal.lay_ending-requires
lay_ending-requires c = search zero_numbers

pub returns-then-is_empty-clause-value : goal.returns-then-is_empty-clause-value
returns-then-is_empty-clause-value c = none_sound _ (search rules)

pub returns-then-is_empty-clause-table_after : goal.returns-then-is_empty-clause-table_after
returns-then-is_empty-clause-table_after c = λ e. none_table _ (search rules) _ (search rules)

pub returns-else-is_empty-clause-value : goal.returns-else-is_empty-clause-value
returns-else-is_empty-clause-value c = own_verdict _ (search rules) _ (search rules)

pub returns-else-is_empty-clause-table_after : goal.returns-else-is_empty-clause-table_after
returns-else-is_empty-clause-table_after c = own_table _ (search rules) _ _ (search rules)

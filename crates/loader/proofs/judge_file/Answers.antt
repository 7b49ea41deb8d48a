use Rattle.std.proofs.Common.{rules}
use Rattle.loader.specs.Verdict.Laws.{file_judged, file_read, few_lines}
use Rattle.loader.specs.Load.Laws.{table_zero}
use Rattle.loader.proofs.judge_file.Goals as goal

pub read_lines-requires-clause-n_le_max_rows : goal.read_lines-requires-clause-n_le_max_rows
read_lines-requires-clause-n_le_max_rows c = search few_lines

pub read_lines-requires-clause-table_value : goal.read_lines-requires-clause-table_value
read_lines-requires-clause-table_value c = search table_zero

pub returns-clause-value : goal.returns-clause-value
returns-clause-value c = search (file_judged, rules)

pub returns-clause-table_after : goal.returns-clause-table_after
returns-clause-table_after c = λ e. search (file_read, rules)

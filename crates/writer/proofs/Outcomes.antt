-- The laws on the answers of `write`, for its proof.
use Rattle.writer.specs.Write.Laws.{length_wrong, table_wrong, buffer_short, file_laid}

pub ruleset answers = (length_wrong, table_wrong, buffer_short, file_laid)

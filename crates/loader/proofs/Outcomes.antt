-- The laws on the answers of `load`, for its proof.
use Rattle.loader.specs.Load.Laws.{load_refused, load_length, load_done}

pub ruleset answers = (load_refused, load_length, load_done)

use Rattle.listing_text.specs.Laying.Ends.{end_long, end_laid}
use Rattle.listing_text.proofs.list_end.Goals as goal

pub returns-clause-value : goal.returns-clause-value
returns-clause-value c = search end_long

pub returns-clause-out_after : goal.returns-clause-out_after
returns-clause-out_after c = search end_laid

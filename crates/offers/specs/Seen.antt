-- What a branch is to a search for an offer of d on channel c: it answers, it competes (it offers what the asker itself offers), or neither.
use Rattle.std.specs.Prelude.{ℕ, cond, List, None, Option, Some}
use Rattle.table.specs.Table.{Table}
use Rattle.rules.specs.Program.{same}
use Rattle.rules.specs.declared.Direction.{Direction}
use Rattle.offers.specs.Offer.{offer_on}
use Rattle.offers.specs.declared.Seen.{Seen}
use Rattle.offers.specs.declared.Seen.TheVariants.{Answers, Competes, Neither}

unfoldable pub seen_as : Option Direction → Direction → Seen
seen_as None d = Neither
seen_as (Some e) d = cond (same e d) Answers Competes

unfoldable pub seen_in : Table → List ℕ → Direction → ℕ → ℕ → Seen
seen_in tb row d c r = seen_as (offer_on tb row c r) d

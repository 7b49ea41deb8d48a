-- What the program prints of its input. Assumes nothing.
use Rattle.std.specs.Prelude.{ℕ, List, ⊤, None, Some, Result, Ok, Err}
use Rattle.std.specs.Io.KnownBytes.{Appends, Keeps}
use Rattle.std.specs.declared.option.Option.{Option}
use Rattle.listing_text.specs.Listing.{listing}
use Rattle.listing.specs.declared.ListError.{ListError}
use Rattle.listing.specs.declared.ListError.TheVariants.{NotRead, NotPrinted}

-- given: all that a reader gives; old, new: what a writer held and holds; each where it is known. Where the program printed, the writer holds just the listing
-- of all that was given behind what it held; where nothing could be read, it holds what it held
abbrev pub Lists : Result (Unit {0}) ListError → Option (List ℕ) → Option (List ℕ) → Option (List ℕ) → Type 0
Lists (Ok tt) None old new = ⊤
Lists (Ok tt) (Some given) old new = Appends old new (listing given)
Lists (Err (NotRead _)) given old new = Keeps old new
Lists (Err (NotPrinted _)) given old new = ⊤

use Rattle.std.specs.Prelude.{◌≡◌, Ok}
use Rattle.std.proofs.Common.{rules}
use Rattle.std.proofs.lemmas.Result.{on_ok_weaker}
use Rattle.listing.proofs.Listed.{printed_whole, from_ok, listed}
use Rattle.listing.proofs.list_input.Goals as goal

pub returns : goal.returns
returns g c =
    let came : c.read_input.result ≡ Ok c.in_ok-n.n = from_ok _ c.read_input.result c.map_err.result c.in_ok-n.n c.map_err.ensures.cases c.in_ok-n.was in
    let within = rw came at c.read_input.ensures.within in
    let front = rw came at c.read_input.ensures.front in
    listed _ (λ e y h. search rules) _ _ _ c.print_listing.result c.map_err-2.result c.map_err-2.ensures.cases
    (on_ok_weaker c.print_listing.result (printed_whole _ _ _ _ _ c.in_ok-n.n front.0 within (search rules) front.1) c.print_listing.ensures)

use Rattle.loader.specs.declared.LoadRefusal.TheVariants as LoadRefusal
use Rattle.std.specs.Prelude.{◌≡◌, Err}
use Rattle.listing_text.specs.Laying.Whole.{length_never, done_accepted, run_counts, run_front, run_rest, refusal_counts, refusal_front, refusal_rest}
use Rattle.listing_text.proofs.list.Goals as goal

pub list_table-requires : goal.list_table-requires
list_table-requires c = search done_accepted

pub returns-in-Ok-clause-value : goal.returns-in-Ok-clause-value
returns-in-Ok-clause-value c = search run_counts

pub returns-in-Ok-clause-out_after : goal.returns-in-Ok-clause-out_after
returns-in-Ok-clause-out_after c = search run_front

pub returns-in-Ok-clause-out_unchanged : goal.returns-in-Ok-clause-out_unchanged
returns-in-Ok-clause-out_unchanged c = search run_rest

pub returns-in-Err-FileRefused-clause-value : goal.returns-in-Err-FileRefused-clause-value
returns-in-Err-FileRefused-clause-value c =
    let e : c.load.result ≡ Err (LoadRefusal.FileRefused c.in-Err-FileRefused.ground c.in-Err-FileRefused.fault) = cc in
    let r = rw (c.in-Err-FileRefused.ground-is, c.in-Err-FileRefused.fault-is) at c.list_refusal.ensures.value in
    let o = rw (c.in-Err-FileRefused.ground-is, c.in-Err-FileRefused.fault-is) at c.list_refusal.ensures.out_after in
    search refusal_counts

pub returns-in-Err-FileRefused-clause-out_after : goal.returns-in-Err-FileRefused-clause-out_after
returns-in-Err-FileRefused-clause-out_after c =
    let e : c.load.result ≡ Err (LoadRefusal.FileRefused c.in-Err-FileRefused.ground c.in-Err-FileRefused.fault) = cc in
    let r = rw (c.in-Err-FileRefused.ground-is, c.in-Err-FileRefused.fault-is) at c.list_refusal.ensures.value in
    let o = rw (c.in-Err-FileRefused.ground-is, c.in-Err-FileRefused.fault-is) at c.list_refusal.ensures.out_after in
    search refusal_front

pub returns-in-Err-FileRefused-clause-out_unchanged : goal.returns-in-Err-FileRefused-clause-out_unchanged
returns-in-Err-FileRefused-clause-out_unchanged c =
    let e : c.load.result ≡ Err (LoadRefusal.FileRefused c.in-Err-FileRefused.ground c.in-Err-FileRefused.fault) = cc in
    let r = rw (c.in-Err-FileRefused.ground-is, c.in-Err-FileRefused.fault-is) at c.list_refusal.ensures.value in
    let o = rw (c.in-Err-FileRefused.ground-is, c.in-Err-FileRefused.fault-is) at c.list_refusal.ensures.out_after in
    search refusal_rest

pub returns-in-Err-WrongLength-clause-value : goal.returns-in-Err-WrongLength-clause-value
returns-in-Err-WrongLength-clause-value c =
    let e : c.load.result ≡ Err LoadRefusal.WrongLength = cc in
    absurd (search length_never)

pub returns-in-Err-WrongLength-clause-out_after : goal.returns-in-Err-WrongLength-clause-out_after
returns-in-Err-WrongLength-clause-out_after c =
    let e : c.load.result ≡ Err LoadRefusal.WrongLength = cc in
    absurd (search length_never)

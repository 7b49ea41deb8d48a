use Rattle.profile.specs.declared.ProfileRefusal.TheVariants as ProfileRefusal
use Rattle.std.proofs.lemmas.Result.{err_from_is_err_and}
use Rattle.loader.specs.Load.Laws.{told_refused, told_refusal, told_accepted}
use Rattle.profile.proofs.Answers.{length_wrong, table_wrong, table_right, grants, rises}
use Rattle.profile.proofs.profile.Goals as goal

pub returns-then-table-ne-BYTES : goal.returns-then-table-ne-BYTES
returns-then-table-ne-BYTES c = search length_wrong

pub returns-in_err-accepted : goal.returns-in_err-accepted
returns-in_err-accepted c =
    let no = told_refused _ _ _ c.accept.ensures.value c.in_err-accepted.ensures.ok_part in
    let d = told_refusal _ ProfileRefusal.WrongTable _ c.in_err-accepted.ensures.value c.in_err-accepted.ensures.ok_part in
    let p = err_from_is_err_and c.from_residual.result c.from_residual.ensures.1 in
    rw (p.1, p.2, d) (search table_wrong)

pub judge-requires-clause-granted : goal.judge-requires-clause-granted
judge-requires-clause-granted c =
    let t = told_accepted _ _ _ _ c.accept.ensures.value c.in_ok-accepted.ensures.ok_part in
    rw (c.table.ensures, t.1) (grants _ t.0 c.type_inv.table)

pub judge-requires-clause-rising : goal.judge-requires-clause-rising
judge-requires-clause-rising c =
    let t = told_accepted _ _ _ _ c.accept.ensures.value c.in_ok-accepted.ensures.ok_part in
    rw (c.table.ensures, t.1) (rises _ t.0 c.type_inv.table)

pub returns : goal.returns
returns c =
    let t = told_accepted _ _ _ _ c.accept.ensures.value c.in_ok-accepted.ensures.ok_part in
    let e = rw (c.table.ensures, t.1) at c.judge.ensures in
    search table_right

use Rattle.writer.specs.declared.WriteRefusal.TheVariants as WriteRefusal
use Rattle.std.proofs.Common.{arith}
use Rattle.std.proofs.lemmas.Result.{err_from_is_err_and}
use Rattle.loader.specs.Load.Laws.{told_refused, told_refusal, told_accepted}
use Rattle.writer.specs.Write.Laws.{whole, few, length_fits, length_wrong, table_wrong, buffer_short, file_laid}
use Rattle.writer.proofs.write.Goals as goal

pub returns-then-table-ne-BYTES : goal.returns-then-table-ne-BYTES
returns-then-table-ne-BYTES c = search length_wrong

pub returns-in_err-accepted : goal.returns-in_err-accepted
returns-in_err-accepted c =
    let no = told_refused _ _ _ c.accept.ensures.value c.in_err-accepted.ensures.ok_part in
    let d = told_refusal _ WriteRefusal.WrongTable _ c.in_err-accepted.ensures.value c.in_err-accepted.ensures.ok_part in
    let p = err_from_is_err_and c.from_residual.result c.from_residual.ensures.1 in
    rw (p.1, p.2, d) (search table_wrong)

pub overflow_mul-bytes : goal.overflow_mul-bytes
overflow_mul-bytes c =
    let t = told_accepted _ _ _ _ c.accept.ensures.value c.in_ok-accepted.ensures.ok_part in
    search length_fits

pub returns-then-file-bytes : goal.returns-then-file-bytes
returns-then-file-bytes c =
    let t = told_accepted _ _ _ _ c.accept.ensures.value c.in_ok-accepted.ensures.ok_part in
    search buffer_short

pub put_lines-requires-clause-whole : goal.put_lines-requires-clause-whole
put_lines-requires-clause-whole c =
    let t = told_accepted _ _ _ _ c.accept.ensures.value c.in_ok-accepted.ensures.ok_part in
    rw (c.table.ensures, t.1) (whole _ (omega arith))

pub put_lines-requires-clause-n_le_max_rows : goal.put_lines-requires-clause-n_le_max_rows
put_lines-requires-clause-n_le_max_rows c =
    let t = told_accepted _ _ _ _ c.accept.ensures.value c.in_ok-accepted.ensures.ok_part in
    search few

pub returns : goal.returns
returns c =
    let t = told_accepted _ _ _ _ c.accept.ensures.value c.in_ok-accepted.ensures.ok_part in
    let e = rw (c.table.ensures, t.1) at c.put_lines.ensures in
    search file_laid

-- The claim speaks of loading and of the calls by which `SeatedClaim.antt` performs a list. Here they are held against what the contracts of the exported calls
-- say, in the numbers that C sees: a load is answered with refusal 0 exactly where the file loads; the calls leave the same bytes; and a call is answered
-- with refusal 10 only where the claim has it so. Assumes nothing.
use Rattle.loader.specs.declared.LoadRefusal.TheVariants as LoadRefusal
use Rattle.collector.specs.Answers.{Collected}
use Rattle.rules.specs.Answers.{Given, Ran, Started, Stepped, Taken}
use Rattle.loader.specs.Answers.{Loaded, Verdict}
use Rattle.std.specs.Prelude.{ℕ, ◌<◌, ◌≡◌, refl, List, [], ◌∷◌, ◌≢◌, ◌↔◌, eqb, length, ℤ, pos, Err, None, Ok, Some}
use Rattle.std.proofs.Common.{arith, sym, ◌∙◌, to_z, of_z, eqb-true, ne_eqb}
use Rattle.std.proofs.Math.Path.{ap}
use Rattle.std.specs.Int.{w32}
use Rattle.std.proofs.Math.Facts.{to_z_pos, of_z-to_z}
use Rattle.numbers.specs.Search.Laws.{case_b}
use Rattle.numbers.specs.Tests.{clash}
use Rattle.file.specs.File.{file_table}
use Rattle.file.specs.EmptyFile.{procedure_text}
use Rattle.loader.specs.Verdict.{ground_number, verdict}
use Rattle.loader.specs.Load as Load
use Rattle.loader.specs.Load.{table_length, table_bytes, loaded, after_verdict}
use Rattle.loader.specs.declared.Ground.{Ground}
use Rattle.loader_laws.specs.Lowest.{number_range}
use Rattle.loader_laws.specs.Yields.{text_loads}
use Rattle.rules.specs.Calls.{start_call}
use Rattle.rules.specs.Seats.{seated_step, seated_give, seated_take, seated_run}
use Rattle.rules.specs.declared.Refusal.{Refusal}
use Rattle.rules.specs.declared.Refusal.TheVariants as Ground
use Rattle.engine.specs.Numbers.{refusal_number}
use Rattle.engine.specs.Numbers.Laws.{ground_range, same_number}
use Rattle.engine_laws.specs.Lists.{step, give, take, run}
use Rattle.collector.specs.Collect.{seated_collect}
use Rattle.interface.specs.Interface.{loaded_to, numbered, load_result, in_numbers, start_fields, start_numbers, start_result, step_fields, step_numbers, step_result, give_fields, give_numbers, give_result, take_fields, take_numbers, take_result, run_fields, run_numbers, run_result, collect_fields, collect_numbers, collect_result}
use Rattle.interface.specs.declared.StepAnswer.{StepAnswer}
use Rattle.interface.specs.declared.GiveAnswer.{GiveAnswer}
use Rattle.interface.specs.declared.TakeAnswer.{TakeAnswer}
use Rattle.interface.specs.declared.RunAnswer.{RunAnswer}
use Rattle.interface.specs.declared.CollectAnswer.{CollectAnswer}
use Rattle.guarantee.specs.Claim.{Any, on, collect}
use Rattle.guarantee.specs.SeatedClaim.{AtSeat, after_by, after_seat, RefusedAt}

-- ---- loading

-- the number 0 is that of no ground
ground_not_zero : (g : Ground) → pos (ground_number g) ≢ pos 0
ground_not_zero g e = let n : ground_number g ≡ 0 = cc in omega (arith, (number_range g).0)

load_zero : (a : Loaded) → pos (Load.refusal_number a) ≡ pos 0 → a ≡ Ok tt
unfolding Load.refusal_number
load_zero (Ok tt) e = refl
load_zero (Err (LoadRefusal.FileRefused g l)) e = absurd (ground_not_zero g e)
load_zero (Err LoadRefusal.WrongLength) e = clash cc

-- refusal 0 is what the claim calls a file that loads
pub load_so : (file t : List ℕ) → (load_result file t).answer.refusal ≡ pos 0 → (loaded file t).answer ≡ Ok tt
unfolding load_result numbered
load_so file t e = load_zero (loaded file t).answer e

-- the bytes of the table's buffer are those of the claim
pub table_so : (file t : List ℕ) → (load_result file t).table ≡ (loaded file t).table
unfolding load_result numbered
table_so file t = refl

-- document 01, on loading: a file is accepted when the verdict on it, or on the lines for which a file of no bytes stands, is that no line is at fault, and the
-- buffer has the table's length
abbrev pub Accepted : List ℕ → List ℕ → Type 0
Accepted file t = (verdict (procedure_text file) ≡ Ok tt) × (length t ≡ table_length)

after_done : (v : Verdict) (file t : List ℕ) → (after_verdict v file t).answer ≡ Ok tt → (v ≡ Ok tt) × (length t ≡ table_length)
unfolding after_verdict
after_done (Err (g, l)) file t e = clash cc
after_done (Ok tt) file t e =
    (refl, case_b (eqb (length t) table_length) (λ y. eqb-true (length t) table_length y) (λ n. let f : Err LoadRefusal.WrongLength ≡ Ok tt = rw n at e in clash cc))

after_refused : (v : Verdict) (file t : List ℕ) → (after_verdict v file t).answer ≢ Ok tt → (after_verdict v file t).table ≡ t
unfolding after_verdict
after_refused (Err (g, l)) file t n = refl
after_refused (Ok tt) file t n =
    case_b (eqb (length t) table_length) (λ y. absurd (n (rw y))) (λ f. rw f)

-- refusal 0 exactly then
pub load_zero_iff : (file t : List ℕ) → ((load_result file t).answer.refusal ≡ pos 0) ↔ Accepted file t
unfolding load_result numbered loaded Load.refusal_number
load_zero_iff file t = (
  λ e. after_done (verdict (procedure_text file)) (procedure_text file) t (load_so file t e),
  λ a. rw (text_loads file t a.0 a.1),
)

-- the buffer then has the bytes of the file's table
pub load_table : (file t : List ℕ) → (load_result file t).answer.refusal ≡ pos 0 → (load_result file t).table ≡ table_bytes (file_table (procedure_text file))
load_table file t e =
    let (v, l) = (load_zero_iff file t).0 e in
    table_so file t ∙ ap (λ (o : Load.Outcome). o.table) (text_loads file t v l)

-- a buffer of another length refuses such a file with 8
pub load_eight : (file t u : List ℕ) → (load_result file t).answer.refusal ≡ pos 0 → length u ≢ table_length
    → load_result file u ≡ loaded_to (record { refusal = pos 8; line = pos 0 }) u
unfolding load_result numbered loaded after_verdict Load.refusal_number Load.line_number
load_eight file t u e n = rw (((load_zero_iff file t).0 e).0, ne_eqb (length u) table_length n)

-- where load is answered with any other refusal the buffer has what it had before
pub load_keeps : (file t : List ℕ) → (load_result file t).answer.refusal ≢ pos 0 → (load_result file t).table ≡ t
unfolding load_result numbered loaded Load.refusal_number
load_keeps file t n = after_refused (verdict (procedure_text file)) (procedure_text file) t (λ e. n (rw e))

-- ---- what C sees of a call at a seat: the bytes that it leaves, and the numbers of its answer, the first of which is the refusal

unfoldable pub step_list : StepAnswer → List ℤ
step_list a = a.refusal ∷ a.node ∷ a.act ∷ a.branch ∷ a.partner ∷ []

unfoldable pub give_list : GiveAnswer → List ℤ
give_list a = a.refusal ∷ a.thread ∷ []

unfoldable pub take_list : TakeAnswer → List ℤ
take_list a = a.refusal ∷ a.thread ∷ a.number ∷ []

unfoldable pub run_list : RunAnswer → List ℤ
run_list a = a.refusal ∷ a.steps ∷ a.reason ∷ a.thread ∷ []

unfoldable pub collect_list : CollectAnswer → List ℤ
collect_list a = a.refusal ∷ a.threads ∷ []

module _ (table state rights : List ℕ) (seat : ℕ) where
  unfoldable pub left_by : Any → List ℕ
  left_by (on (step t)) = (step_result table state rights seat t).state
  left_by (on (give p v h)) = (give_result table state rights seat p (to_z w32 v)).state
  left_by (on (take p)) = (take_result table state rights seat p).state
  left_by (on (run n)) = (run_result table state rights seat n).state
  left_by collect = (collect_result table state rights seat).state

  unfoldable pub refusal_by : Any → ℤ
  refusal_by (on (step t)) = (step_result table state rights seat t).answer.refusal
  refusal_by (on (give p v h)) = (give_result table state rights seat p (to_z w32 v)).answer.refusal
  refusal_by (on (take p)) = (take_result table state rights seat p).answer.refusal
  refusal_by (on (run n)) = (run_result table state rights seat n).answer.refusal
  refusal_by collect = (collect_result table state rights seat).answer.refusal

  unfoldable pub answer_by : Any → List ℤ
  answer_by (on (step t)) = step_list (step_result table state rights seat t).answer
  answer_by (on (give p v h)) = give_list (give_result table state rights seat p (to_z w32 v)).answer
  answer_by (on (take p)) = take_list (take_result table state rights seat p).answer
  answer_by (on (run n)) = run_list (run_result table state rights seat n).answer
  answer_by collect = collect_list (collect_result table state rights seat).answer

abbrev pub left : List ℕ → List ℕ → AtSeat Any → List ℕ
left table state k = left_by table state k.rights k.seat k.call

abbrev pub refusal : List ℕ → List ℕ → AtSeat Any → ℤ
refusal table state k = refusal_by table state k.rights k.seat k.call

-- C gives a number, and the claim has its pattern
pub given_so : (v : ℕ) → v < 4294967296 → of_z w32 (to_z w32 v) ≡ v
given_so v h = of_z-to_z {w = w32} {n = v} (record { fits = h })

-- ---- the bytes are those of the claim

pub started_so : (table state : List ℕ) → (start_result table state).state ≡ (start_call table state).state
unfolding start_result in_numbers
started_so table state = refl

pub left_by_lem : (table state rights : List ℕ) (seat : ℕ) (k : Any) → left_by table state rights seat k ≡ after_by table state rights seat k
unfolding left_by after_by step_result give_result take_result run_result collect_result in_numbers
left_by_lem table state rights seat (on (step t)) = refl
left_by_lem table state rights seat (on (give p v h)) = ap (λ x. (seated_give table state rights seat p x).state) (given_so v h)
left_by_lem table state rights seat (on (take p)) = refl
left_by_lem table state rights seat (on (run n)) = refl
left_by_lem table state rights seat collect = refl

pub left_so : (table state : List ℕ) (k : AtSeat Any) → left table state k ≡ after_seat table state k
left_so table state k = left_by_lem table state k.rights k.seat k.call

-- ---- a number of a ground is the number of that ground alone, and of no call that is done

-- C sees the number of a ground as it is
pub ground_signed : (r : Refusal) → to_z w32 (refusal_number r) ≡ pos (refusal_number r)
ground_signed r = to_z_pos w32 {n = refusal_number r} (omega (arith, (ground_range r).1))

number_is : (q r : Refusal) → to_z w32 (refusal_number q) ≡ pos (refusal_number r) → q ≡ r
number_is q r e =
    let f : pos (refusal_number q) ≡ pos (refusal_number r) = sym (ground_signed q) ∙ e in
    let n : refusal_number q ≡ refusal_number r = cc in
    same_number q r n

pub not_zero : (r : Refusal) → pos 0 ≢ pos (refusal_number r)
not_zero r e = let n : 0 ≡ refusal_number r = cc in omega (arith, (ground_range r).0)

module _ (r : Refusal) where
  pub start_number : (a : Started) → (start_numbers a).refusal ≡ pos (refusal_number r) → a ≡ Err r
  unfolding start_numbers start_fields
  start_number (Ok tt) e = absurd (not_zero r e)
  start_number (Err q) e = ap (λ x. Err x) (number_is q r e)

  pub step_number : (a : Stepped) → (step_numbers a).refusal ≡ pos (refusal_number r) → a ≡ Err r
  unfolding step_numbers step_fields
  step_number (Ok (n, d)) e = absurd (not_zero r e)
  step_number (Err q) e = ap (λ x. Err x) (number_is q r e)

  give_number : (a : Given) → (give_numbers a).refusal ≡ pos (refusal_number r) → a ≡ Err r
  unfolding give_numbers give_fields
  give_number (Ok (Some u)) e = absurd (not_zero r e)
  give_number (Ok None) e = absurd (not_zero r e)
  give_number (Err q) e = ap (λ x. Err x) (number_is q r e)

  take_number : (a : Taken) → (take_numbers a).refusal ≡ pos (refusal_number r) → a ≡ Err r
  unfolding take_numbers take_fields
  take_number (Ok (Some (u, v))) e = absurd (not_zero r e)
  take_number (Ok None) e = absurd (not_zero r e)
  take_number (Err q) e = ap (λ x. Err x) (number_is q r e)

  run_number : (a : Ran) → (run_numbers a).refusal ≡ pos (refusal_number r) → a ≡ Err r
  unfolding run_numbers run_fields
  run_number (Ok (n, x)) e = absurd (not_zero r e)
  run_number (Err q) e = ap (λ x. Err x) (number_is q r e)

  collect_number : (a : Collected) → (collect_numbers a).refusal ≡ pos (refusal_number r) → a ≡ Err r
  unfolding collect_numbers collect_fields
  collect_number (Ok n) e = absurd (not_zero r e)
  collect_number (Err q) e = ap (λ x. Err x) (number_is q r e)

-- a call that C sees refused with the number of a ground is one that the claim has refused on that ground, and conversely
module _ (table state rights : List ℕ) (seat : ℕ) where
  pub refused_by : (k : Any) (r : Refusal) → refusal_by table state rights seat k ≡ pos (refusal_number r) → RefusedAt table state rights seat k r
  unfolding refusal_by RefusedAt step_result give_result take_result run_result collect_result in_numbers
  refused_by (on (step t)) r e = step_number r (seated_step table state rights seat t).answer e
  refused_by (on (give p v h)) r e =
      give_number r (seated_give table state rights seat p v).answer
      (sym (ap (λ x. (give_numbers (seated_give table state rights seat p x).answer).refusal) (given_so v h)) ∙ e)
  refused_by (on (take p)) r e = take_number r (seated_take table state rights seat p).answer e
  refused_by (on (run n)) r e = run_number r (seated_run table state rights seat n).answer e
  refused_by collect r e = collect_number r (seated_collect table state rights seat).answer e

  pub refused_shows : (k : Any) (r : Refusal) → RefusedAt table state rights seat k r → refusal_by table state rights seat k ≡ pos (refusal_number r)
  unfolding refusal_by RefusedAt step_result give_result take_result run_result collect_result in_numbers step_numbers give_numbers take_numbers run_numbers collect_numbers step_fields give_fields take_fields run_fields collect_fields
  refused_shows (on (step t)) r e = ap (λ a. (step_numbers a).refusal) e ∙ ground_signed r
  refused_shows (on (give p v h)) r e =
      ap (λ x. (give_numbers (seated_give table state rights seat p x).answer).refusal) (given_so v h) ∙ ap (λ a. (give_numbers a).refusal) e ∙ ground_signed r
  refused_shows (on (take p)) r e = ap (λ a. (take_numbers a).refusal) e ∙ ground_signed r
  refused_shows (on (run n)) r e = ap (λ a. (run_numbers a).refusal) e ∙ ground_signed r
  refused_shows collect r e = ap (λ a. (collect_numbers a).refusal) e ∙ ground_signed r

-- as the claim needs it: refused with 10
pub refused_so : (table state : List ℕ) (k : AtSeat Any) → refusal table state k ≡ pos 10 → RefusedAt table state k.rights k.seat k.call Ground.State
unfolding refusal_number
refused_so table state k = refused_by table state k.rights k.seat k.call Ground.State

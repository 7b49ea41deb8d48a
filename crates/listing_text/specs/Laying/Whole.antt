-- The listing of an accepted table and of a file, laid as a whole. Assumes nothing.
use Rattle.loader.specs.declared.LoadRefusal.TheVariants as LoadRefusal
use Rattle.std.specs.declared.ops.ControlFlow.TheVariants.{Break, Continue}
use Rattle.rules.specs.Answers.{Stepped, Turn}
use Rattle.loader.specs.Answers.{Loaded, Verdict}
use Rattle.std.specs.Prelude.{ℕ, zero, suc, ◌+◌, ◌*◌, ◌≤◌, Bool, true, cond, List, [], ◌∷◌, ◌++◌, eqb, length, get_or, take, drop, Option, None, Some, Err, Ok}
use native.Mathlib.Omega.{arith}
use Rattle.std.proofs.Math.Path.{◌≡◌, sym}
use Rattle.std.proofs.Common.{◌∙◌, ap, Fits, eq-eqb}
use Rattle.std.specs.Int.{w8}
use Rattle.std.proofs.Math.ListN.{length-append}
use Rattle.std.proofs.lemmas.List.Edits.{sets}
use Rattle.numbers.specs.Bytes.{joined}
use Rattle.numbers.specs.Bytes.Laws.{bytes_fit, sets_append, joined_snoc, take_sets, drop_sets}
use Rattle.numbers.specs.Search.{tabulate}
use Rattle.numbers.specs.Search.Laws.{case_b, tabulate_none, tabulate_suc}
use Rattle.numbers.specs.Tests.{clash}
use Rattle.table.specs.Table.{Table, table_of}
use Rattle.table.specs.Index.{Indexed}
use Rattle.file.specs.File.{file_table}
use Rattle.file.specs.EmptyFile.{procedure_text}
use Rattle.loader.specs.Verdict.{ground_number, verdict}
use Rattle.loader.specs.Load.{table_length, Outcome, outcome, after_verdict, loaded, accepted}
use Rattle.loader.specs.declared.Ground.{Ground}
use Rattle.loader_laws.specs.Yields.{file_shaped, bytes_hold, done_sound, file_accepted}
use Rattle.state.specs.State.{State, max_threads, thread, stands_at}
use Rattle.rules.specs.Holding.{settled}
use Rattle.rules.specs.Start.{started}
use Rattle.rules.specs.Calls.{Course, course, one_more, onward, take_turn, course_of}
use Rattle.rules.specs.declared.Reason.{Reason}
use Rattle.engine.specs.Numbers.{act_number, branch_number, partner_number}
use Rattle.rules_laws.specs.Granted.{Granted}
use Rattle.rules_laws.specs.Accepted.{granted}
use Rattle.rules_laws.specs.Soundness as Sound
use Rattle.rules_laws.specs.Started.{started_sound}
use Rattle.collector.specs.Collect.{taken}
use Rattle.listing_lines.specs.Lines.{characters, line, heading, step_line}
use Rattle.listing_lines.specs.Laid.Laws.{length_line}
use Rattle.listing_text.specs.Listing.{max_steps, turn_line, step_lines, closing_line, taken_line, taken_lines, run_lines, listing_by, listing}
use Rattle.listing_text.specs.Laying.{longest, end_lines}

-- ---- an accepted table

-- an accepted table is taken as one, is indexed, grants what the rules ask of a table, and starts with a sound state
module _ (table : List ℕ) (ok : accepted table ≡ true) where
  pub accepted_taken : (q : Option Table) (tb : Table) → q ≡ cond (accepted table) (Some (table_of table)) None → q ≡ Some tb → tb ≡ table_of table
  accepted_taken q tb e f = let g = rw ok at e in cc

  pub accepted_indexed : (x : List ℕ) (r : Bool) → r ≡ accepted table → (r ≡ true → Indexed (table_of table) x) → Indexed (table_of table) x
  accepted_indexed x r e f = f (e ∙ ok)

  module _ (fit : (i : ℕ) → Fits w8 (get_or table i 0)) where
    pub accepted_grants : Granted (table_of table)
    accepted_grants = granted table ok (bytes_fit table fit)

    pub accepted_starts : (s : State) → s ≡ started (table_of table) → Sound.Sound (table_of table) s
    accepted_starts s e = rw e (started_sound (table_of table) accepted_grants)

pub sound_settled : (tb : Table) (s : State) → Sound.Sound tb s → settled tb s ≡ s
sound_settled tb s ok = ok.counts

-- a run has at most the steps asked for
onward_few : (n : ℕ) (f : State → Course) → ((s : State) → (f s).steps ≤ n) → (w : Turn) (s : State) → (onward w s f).steps ≤ suc n
unfolding onward one_more
onward_few n f h (Continue tt) s = omega (arith, h s)
onward_few n f h (Break r) s = omega arith

pub course_few : (tb : Table) (n : ℕ) (s : State) → (course_of tb n s).steps ≤ n
unfolding course_of
course_few tb zero s = omega arith
course_few tb (suc n) s = onward_few n (course_of tb n) (course_few tb n) (take_turn tb s).turn (take_turn tb s).state

module _ (tb : Table) (n : ℕ) (r : Reason) (s s₁ : State) (e : course n r s₁ ≡ course_of tb max_steps s) where
  pub run_few : n ≤ max_steps
  run_few = omega (arith, ap (λ (k : Course). k.steps) e, course_few tb max_steps s)

-- heading, steps, and what follows them: h is the heading
module _ (tb : Table) (n : ℕ) (r : Reason) (s₁ s₂ : State) (e : s₁ ≡ started tb) (f : course n r s₂ ≡ course_of tb max_steps s₁) (long : n * 37 ≡ length (step_lines tb s₁)) where
  run_parts : run_lines tb ≡ heading ++ (step_lines tb s₁ ++ end_lines tb (course n r s₂))
  unfolding run_lines end_lines
  run_parts =
      let c : course_of tb max_steps (started tb) ≡ course n r s₂ = rw (← e) (sym f) in
      rw (c, e)

  pub run_long : (v : ℕ) → v ≡ 37 + n * 37 + length (end_lines tb (course n r s₂)) → v ≡ length (run_lines tb)
  unfolding heading characters
  run_long v g =
      rw run_parts
      (omega (arith, length-append heading (step_lines tb s₁ ++ end_lines tb (course n r s₂)), length-append (step_lines tb s₁) (end_lines tb (course n r s₂))))

  pub run_laid : (b b₁ b₂ b₃ : List ℕ) → b₁ ≡ sets b 0 heading → b₂ ≡ sets b₁ 37 (step_lines tb s₁) → b₃ ≡ sets b₂ (37 + n * 37) (end_lines tb (course n r s₂)) → b₃ ≡ sets b 0 (run_lines tb)
  unfolding heading characters
  run_laid b b₁ b₂ b₃ g h i =
      i ∙ rw (h, g, run_parts, sets_append b 0 heading (step_lines tb s₁ ++ end_lines tb (course n r s₂)), sets_append (sets b 0 heading) 37 (step_lines tb s₁) (end_lines tb (course n r s₂)), long)

-- ---- the longest listing

step_short : (k t : ℕ) (x : Stepped) → length (step_line k t x) ≤ 37
unfolding step_line
step_short k t (Ok (n, d)) = omega (arith, length_line (k ∷ t ∷ n ∷ act_number d ∷ branch_number d ∷ partner_number d ∷ []))
step_short k t (Err r) = omega arith

-- as many lines as there are numbers, none longer than w
short_lines : (w : ℕ) (f : ℕ → List ℕ) → ((i : ℕ) → length (f i) ≤ w) → (n : ℕ) → length (joined (tabulate n f)) ≤ n * w
unfolding joined
short_lines w f h zero = rw (tabulate_none f) (omega arith)
short_lines w f h (suc n) =
    rw (tabulate_suc n f, joined_snoc (tabulate n f) (f n)) (omega (arith, length-append (joined (tabulate n f)) (f n), short_lines w f h n, h n))

module _ (tb : Table) where
  steps_short : (s : State) → length (step_lines tb s) ≤ 37000
  unfolding step_lines turn_line
  steps_short s =
      omega (arith, course_few tb max_steps s, short_lines 37 (λ i. turn_line tb (suc i) (course_of tb i s).state) (λ i. step_short (suc i) _ _) (course_of tb max_steps s).steps)

  taken_short : (s : State) → length (taken_lines tb s) ≤ 832
  unfolding taken_lines taken_line
  taken_short s =
      short_lines 13 (taken_line tb s)
      (λ t. case_b (taken tb s t) (λ y. rw y (omega (arith, length_line (t ∷ stands_at (thread s t) ∷ [])))) (λ y. rw y (omega arith)))
      max_threads

  closing_short : (k : Course) → length (closing_line tb k) ≡ 31
  unfolding closing_line
  closing_short k = length_line _

  run_short : length (run_lines tb) ≤ longest
  unfolding run_lines heading characters
  run_short =
      let s : State = started tb in
      let k : Course = course_of tb max_steps s in
      omega (
        arith,
        length-append (step_lines tb s) (closing_line tb k ++ taken_lines tb k.state),
        length-append (closing_line tb k) (taken_lines tb k.state),
        steps_short s,
        closing_short k,
        taken_short k.state,
      )

-- no listing is longer
pub listing_short : (file : List ℕ) → length (listing file) ≤ longest
unfolding listing listing_by
listing_short file = go (verdict (procedure_text file))
  where
    go : (v : Verdict) → length (listing_by v (procedure_text file)) ≤ longest
    go (Err (g, l)) = omega (arith, length_line (ground_number g ∷ l ∷ []))
    go (Ok tt) = run_short (file_table (procedure_text file))

-- ---- the buffer o before, and o₁ with the listing laid at its front, r characters

module _ (file o o₁ : List ℕ) (r : ℕ) (long : length o ≡ longest) (vs : List ℕ) (e : vs ≡ listing file) (f : r ≡ length vs) (g : o₁ ≡ sets o 0 vs) where
  counts : r ≡ length (listing file)
  counts = f ∙ ap length e

  fits : length vs ≤ length o
  fits = omega (arith, listing_short file, counts)

  front : take r o₁ ≡ listing file
  front = rw (f, g) (take_sets o vs fits ∙ e)

  rest : drop r o₁ ≡ drop r o
  rest = rw (f, g) (drop_sets o vs fits)

-- ---- a file

module _ (file b : List ℕ) where
  abbrev text : List ℕ
  text = procedure_text file

  -- what a verdict is answered with, seen from the answer
  refused_by : (v : Verdict) (g : Ground) (l : ℕ) → (after_verdict v text b).answer ≡ Err (LoadRefusal.FileRefused g l) → listing_by v text ≡ line (ground_number g ∷ l ∷ [])
  unfolding after_verdict listing_by
  refused_by (Err (h, k)) g l e =
      let p : h ≡ g = cc in
      let q : k ≡ l = cc in
      rw (p, q)
  refused_by (Ok tt) g l e =
      case_b (eqb (length b) table_length)
      (λ y. clash (let z : ◌≡◌ {A = Loaded} (Ok tt) (Err (LoadRefusal.FileRefused g l)) = rw y at e in cc))
      (λ y. clash (let z : ◌≡◌ {A = Loaded} (Err LoadRefusal.WrongLength) (Err (LoadRefusal.FileRefused g l)) = rw y at e in cc))

  long_enough : length b ≡ table_length → (v : Verdict) → (after_verdict v text b).answer ≡ Err LoadRefusal.WrongLength → ⊥
  unfolding after_verdict
  long_enough h (Err (g, l)) e = clash cc
  long_enough h (Ok tt) e = clash (let z : ◌≡◌ {A = Loaded} (Ok tt) (Err LoadRefusal.WrongLength) = rw (eq-eqb (length b) table_length h) at e in cc)

  -- a: what loading answers, b₁: what it leaves in the table's buffer, b before
  module _ (b₁ : List ℕ) (a : Loaded) (e : outcome a b₁ ≡ loaded file b) where
    answer : (x : Loaded) → a ≡ x → (after_verdict (verdict text) text b).answer ≡ x
    unfolding loaded
    answer x h = sym (ap (λ (o : Outcome). o.answer) e) ∙ h

    pub length_never : length b ≡ table_length → a ≡ Err LoadRefusal.WrongLength → ⊥
    length_never h k = long_enough h (verdict text) (answer (Err LoadRefusal.WrongLength) k)

    pub done_accepted : a ≡ Ok tt → accepted b₁ ≡ true
    done_accepted h = let (v, q) = done_sound file b b₁ (rw h at (sym e)) in rw (← q) (file_accepted text v)

    done_lists : a ≡ Ok tt → run_lines (table_of b₁) ≡ listing file
    unfolding listing listing_by
    done_lists h =
        let d = done_sound file b b₁ (rw h at (sym e)) in
        rw (d.0, ← bytes_hold (file_table text) (file_shaped text), d.1)

    refused_lists : (g : Ground) (l : ℕ) → a ≡ Err (LoadRefusal.FileRefused g l) → line (ground_number g ∷ l ∷ []) ≡ listing file
    unfolding listing
    refused_lists g l h = sym (refused_by (verdict text) g l (answer (Err (LoadRefusal.FileRefused g l)) h))

    -- o: the buffer before, o₁: with the listing laid at its front, r: the length of the listing
    module _ (o o₁ : List ℕ) (r : ℕ) (long : length o ≡ longest) where
      module _ (h : a ≡ Ok tt) (f : r ≡ length (run_lines (table_of b₁))) (g : o₁ ≡ sets o 0 (run_lines (table_of b₁))) where
        pub run_counts : r ≡ length (listing file)
        run_counts = counts file o o₁ r long _ (done_lists h) f g

        pub run_front : take r o₁ ≡ listing file
        run_front = front file o o₁ r long _ (done_lists h) f g

        pub run_rest : drop r o₁ ≡ drop r o
        run_rest = rest file o o₁ r long _ (done_lists h) f g

      module _ (x : Ground) (l : ℕ) (h : a ≡ Err (LoadRefusal.FileRefused x l)) (f : r ≡ length (line (ground_number x ∷ l ∷ []))) (g : o₁ ≡ sets o 0 (line (ground_number x ∷ l ∷ []))) where
        pub refusal_counts : r ≡ length (listing file)
        refusal_counts = counts file o o₁ r long _ (refused_lists x l h) f g

        pub refusal_front : take r o₁ ≡ listing file
        refusal_front = front file o o₁ r long _ (refused_lists x l h) f g

        pub refusal_rest : drop r o₁ ≡ drop r o
        refusal_rest = rest file o o₁ r long _ (refused_lists x l h) f g

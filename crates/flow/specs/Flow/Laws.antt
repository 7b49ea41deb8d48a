-- The pass keeps a row of gaps for each node. Assumes nothing.
use Prim.Native.Nat.{ℕ, zero, suc, ◌+◌}
use Rattle.std.specs.Prelude.{◌≡◌, Bool, List, [], eqb, length, get_or}
use Rattle.std.proofs.Math.Path.{refl}
use Rattle.std.proofs.Common.{◌∙◌, length-set}
use Rattle.numbers.specs.Rows.{at}
use Rattle.numbers.specs.Search.{tabulate}
use Rattle.numbers.specs.Search.Laws.{case_b, length_tabulate}
use Rattle.table.specs.Fields as Field
use Rattle.table.specs.Table.{Table, max_nodes, branch_row}
use Rattle.table.specs.Layout.{start, branch_count, definition_of}
use Rattle.table.specs.declared.Part.TheVariants.{Nodes, Branches}
use Rattle.flow.specs.Flow.{Gaps, gap_count, slot_written, past_write, either, arrive, begins, beginning, branch_followed, branches_followed, flow_to}

pub length_arrive : (ms : Gaps) (t : ℕ) (m : List Bool) → length (arrive ms t m) ≡ length ms
unfolding arrive
length_arrive ms t m = length-set ms t (either (get_or ms t []) m)

module _ (tb : Table) where
  pub length_branch : (f : ℕ) (m : List Bool) (r : ℕ) (ms : Gaps) → length (branch_followed tb f m r ms) ≡ length ms
  unfolding branch_followed
  length_branch f m r ms =
      let w = past_write (slot_written tb r) m in
      let next = length_arrive ms (f + at tb r Field.next) w in
      case_b (eqb (at tb r Field.action) 4) (λ y. rw y (length_arrive (arrive ms (f + at tb r Field.next) w) (f + at tb r Field.child) w ∙ next)) (λ y. rw y next)

  pub length_branches : (n : ℕ) (m : List Bool) (ms : Gaps) (i : ℕ) → length (branches_followed tb n m ms i) ≡ length ms
  unfolding branches_followed
  length_branches n m ms zero = refl
  length_branches n m ms (suc i) =
      length_branch (start tb Nodes (definition_of tb n)) m (branch_row tb + (start tb Branches n + i)) (branches_followed tb n m ms i) ∙ length_branches n m ms i

  pub length_flow : (n : ℕ) → length (flow_to tb n) ≡ max_nodes
  unfolding flow_to beginning
  length_flow zero = length_tabulate max_nodes (λ n. tabulate gap_count (begins tb n))
  length_flow (suc n) = length_branches n (get_or (flow_to tb n) n []) (flow_to tb n) (branch_count tb n) ∙ length_flow n

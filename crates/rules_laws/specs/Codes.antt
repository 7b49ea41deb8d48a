-- What the number of a branch's act says: which act it is, what its operands are, and which slot it writes. Assumes nothing.
use Rattle.std.specs.Prelude.{ℕ, ◌≤◌, ◌<◌, ◌≡◌, eqb}
use native.Mathlib.Omega.{arith}
use Rattle.std.proofs.Common.{◌∙◌}
use borrow.Author.Tests.{lt-ltb, eqb-true, eqb-false, ne_eqb}
use Rattle.numbers.specs.Rows.{at}
use Rattle.numbers.specs.Search.Laws.{case_b}
use Rattle.numbers.specs.Tests.{clash}
use Rattle.table.specs.Fields as Field
use Rattle.table.specs.Table.{Table}
use Rattle.table.specs.Roles.{action_role, operand_place, operand, operand_role, writes}
use Rattle.table.specs.declared.Role.{Role}
use Rattle.table.specs.declared.Role.TheVariants.{ReadChannel, ReadCarried, WriteNumber, WriteChannel, WriteCarried}
use Rattle.flow.specs.Flow.{slot_written}
use Rattle.state.specs.State.{row_slots}
use Rattle.rules.specs.Program.{field_a, act_of}
use Rattle.rules.specs.declared.Direction.{Direction}
use Rattle.rules.specs.declared.Direction.TheVariants.{Out, In}
use Rattle.rules.specs.declared.Act.TheVariants.{Tau, Meeting, New, Spawn, Assignment}
use Rattle.rules_laws.specs.Granted.{Writes}

-- the role of the slot with which a meeting gives or receives
unfoldable pub with_role : Direction → Role
with_role Out = ReadCarried
with_role In = WriteCarried

module _ (tb : Table) (r : ℕ) where
  -- the act, by its number
  data Coded : Type 0 where
    tau : at tb r Field.action ≡ 0 → act_of tb r ≡ Tau → Coded
    out : at tb r Field.action ≡ 1 → act_of tb r ≡ Meeting Out → Coded
    inn : at tb r Field.action ≡ 2 → act_of tb r ≡ Meeting In → Coded
    new : at tb r Field.action ≡ 3 → act_of tb r ≡ New → Coded
    spawn : at tb r Field.action ≡ 4 → act_of tb r ≡ Spawn → Coded
    assignment : 5 ≤ at tb r Field.action → act_of tb r ≡ Assignment → Coded

  coded : Coded
  unfolding act_of
  coded =
      case_b (eqb (at tb r Field.action) 1) (λ a. out (eqb-true (at tb r Field.action) 1 a) (rw a))
      (λ a. case_b (eqb (at tb r Field.action) 2) (λ b. inn (eqb-true (at tb r Field.action) 2 b) (rw (a, b)))
      (λ b. case_b (eqb (at tb r Field.action) 3) (λ c. new (eqb-true (at tb r Field.action) 3 c) (rw (a, b, c)))
      (λ c. case_b (eqb (at tb r Field.action) 4) (λ d. spawn (eqb-true (at tb r Field.action) 4 d) (rw (a, b, c, d)))
      (λ d. case_b (eqb (at tb r Field.action) 0) (λ e. tau (eqb-true (at tb r Field.action) 0 e) (rw (a, b, c, d, e)))
      (λ e. assignment
      (omega (arith, eqb-false (at tb r Field.action) 0 e, eqb-false (at tb r Field.action) 1 a, eqb-false (at tb r Field.action) 2 b, eqb-false (at tb r Field.action) 3 c, eqb-false (at tb r Field.action) 4 d))
      (rw (a, b, c, d, e)))))))

  -- ---- the operands of an act

  on_code : (e : Direction) → Coded → act_of tb r ≡ Meeting e → operand_role tb r 2 ≡ ReadChannel
  unfolding operand_role action_role
  on_code e (tau c a) m = clash cc
  on_code e (out c a) m = rw c
  on_code e (inn c a) m = rw c
  on_code e (new c a) m = clash cc
  on_code e (spawn c a) m = clash cc
  on_code e (assignment c a) m = clash cc

  with_code : (e : Direction) → Coded → act_of tb r ≡ Meeting e → operand_role tb r 3 ≡ with_role e
  unfolding operand_role action_role with_role
  with_code e (tau c a) m = clash cc
  with_code e (out c a) m = let q : Out ≡ e = cc in rw (← q, c)
  with_code e (inn c a) m = let q : In ≡ e = cc in rw (← q, c)
  with_code e (new c a) m = clash cc
  with_code e (spawn c a) m = clash cc
  with_code e (assignment c a) m = clash cc

  new_code : Coded → act_of tb r ≡ New → operand_role tb r 2 ≡ WriteChannel
  unfolding operand_role action_role
  new_code (tau c a) m = clash cc
  new_code (out c a) m = clash cc
  new_code (inn c a) m = clash cc
  new_code (new c a) m = rw c
  new_code (spawn c a) m = clash cc
  new_code (assignment c a) m = clash cc

  -- 5, or above 5
  assigned_role : 5 ≤ at tb r Field.action → operand_role tb r 2 ≡ WriteNumber
  unfolding operand_role action_role
  assigned_role c =
      rw (ne_eqb (at tb r Field.action) 1 (λ e. omega arith), ne_eqb (at tb r Field.action) 2 (λ e. omega arith), ne_eqb (at tb r Field.action) 3 (λ e. omega arith))
      (case_b (eqb (at tb r Field.action) 5) (λ e. rw e) (λ e. rw (e, lt-ltb 5 (at tb r Field.action) (omega (arith, eqb-false (at tb r Field.action) 5 e)))))

  assigns_code : Coded → act_of tb r ≡ Assignment → 5 ≤ at tb r Field.action
  assigns_code (tau c a) m = clash cc
  assigns_code (out c a) m = clash cc
  assigns_code (inn c a) m = clash cc
  assigns_code (new c a) m = clash cc
  assigns_code (spawn c a) m = clash cc
  assigns_code (assignment c a) m = c

  spawn_code : Coded → act_of tb r ≡ Spawn → at tb r Field.action ≡ 4
  spawn_code (tau c a) m = clash cc
  spawn_code (out c a) m = clash cc
  spawn_code (inn c a) m = clash cc
  spawn_code (new c a) m = clash cc
  spawn_code (spawn c a) m = c
  spawn_code (assignment c a) m = clash cc

  assigned_slot : 5 ≤ at tb r Field.action → slot_written tb r ≡ field_a tb r
  unfolding slot_written operand operand_place writes
  assigned_slot c = rw (assigned_role c)

  -- 17, which is no slot, stands for none
  written_code : Coded → (k : ℕ) → k < row_slots → k ≡ slot_written tb r → Writes tb r (act_of tb r) k
  unfolding slot_written operand_role action_role operand operand_place writes Writes
  written_code (tau c a) k l e = let q : k ≡ 17 = rw c at e in absurd (let h : ⊥ = omega arith in h)
  written_code (out c a) k l e = let q : k ≡ 17 = rw c at e in absurd (let h : ⊥ = omega arith in h)
  written_code (inn c a) k l e = rw a (rw c at e)
  written_code (new c a) k l e = rw a (rw c at e)
  written_code (spawn c a) k l e = let q : k ≡ 17 = rw c at e in absurd (let h : ⊥ = omega arith in h)
  written_code (assignment c a) k l e = rw a (e ∙ assigned_slot c)

  -- ---- of the branch in row r

  -- a meeting: it reads its channel, and gives or receives by its direction
  pub meets_on : (e : Direction) → act_of tb r ≡ Meeting e → operand_role tb r 2 ≡ ReadChannel
  meets_on e m = on_code e coded m

  pub meets_with : (e : Direction) → act_of tb r ≡ Meeting e → operand_role tb r 3 ≡ with_role e
  meets_with e m = with_code e coded m

  -- a new and an assignment write their slot a
  pub creates_in : act_of tb r ≡ New → operand_role tb r 2 ≡ WriteChannel
  creates_in m = new_code coded m

  pub assigns_in : act_of tb r ≡ Assignment → operand_role tb r 2 ≡ WriteNumber
  assigns_in m = assigned_role (assigns_code coded m)

  pub assigns_by : act_of tb r ≡ Assignment → 5 ≤ at tb r Field.action
  assigns_by m = assigns_code coded m

  pub spawns_by : act_of tb r ≡ Spawn → at tb r Field.action ≡ 4
  spawns_by m = spawn_code coded m

  -- the slot that loading takes to be written is the one that the act writes
  pub slot_writes : (k : ℕ) → k < row_slots → k ≡ slot_written tb r → Writes tb r (act_of tb r) k
  slot_writes k l e = written_code coded k l e

-- The process of a node unrolls by one node at a time: how far the table is followed does not matter. Assumes nothing but what the table grants.
use Prim.Native.Nat.{ℕ, zero, suc, ◌+◌, ◌<◌, ◌≤◌}
use Rattle.std.proofs.Common.{arith, ap}
use Rattle.std.specs.Prelude.{◌≡◌, eqb}
use Rattle.std.proofs.Math.Path.{refl}
use Rattle.numbers.specs.Search.Laws.{case_b}
use Rattle.table.specs.Table.{Table, nodes}
use Rattle.table.specs.Layout.{branch_count}
use Rattle.rules.specs.Program.{kind_of, branch_at, next_of, child_of, act_of}
use Rattle.rules.specs.declared.Direction.TheVariants.{Out, In}
use Rattle.rules.specs.declared.Act.{Act}
use Rattle.rules.specs.declared.Act.TheVariants.{Tau, Meeting, New, Spawn, Assignment}
use Rattle.rules_laws.specs.Granted.{Granted}
use Rattle.published.specs.Syntax.{Process, Sum, nothing, wait, and_wait, waits}
use Rattle.published_laws.specs.Readable.{Readable}
use Rattle.published_laws.specs.Standing.{prefix_of, sum_before, node_process, unrolled, process_at}

module _ (tb : Table) (f g : ℕ → Process) where
  prefix_same : (r n : ℕ) (a : Act) → (a ≡ Spawn → f n ≡ g n) → prefix_of tb (f n) r a ≡ prefix_of tb (g n) r a
  unfolding prefix_of
  prefix_same r n Tau h = refl
  prefix_same r n (Meeting Out) h = refl
  prefix_same r n (Meeting In) h = refl
  prefix_same r n New h = refl
  prefix_same r n Spawn h = rw (h refl)
  prefix_same r n Assignment h = refl

  sum_same : (q : Sum) (n i m : ℕ)
      → ((j : ℕ) → i ≤ j → j < i + m → (f (next_of tb n (branch_at tb n j)) ≡ g (next_of tb n (branch_at tb n j)))
      × (act_of tb (branch_at tb n j) ≡ Spawn → f (child_of tb n (branch_at tb n j)) ≡ g (child_of tb n (branch_at tb n j))))
      → sum_before tb f q n i m ≡ sum_before tb g q n i m
  unfolding sum_before
  sum_same q n i zero h = refl
  sum_same q n i (suc m) h =
      let r = branch_at tb n i in
      let (x, y) = h i (omega arith) (omega arith) in
      rw (x, prefix_same r (child_of tb n r) (act_of tb r) y, sum_same q n (suc i) m (λ j a b. h j (omega arith) (omega arith)))

module _ (tb : Table) (g : Granted tb) (d : Readable tb) where
  node_same : (f f' : ℕ → Process) (n : ℕ) → n < nodes tb → ((m : ℕ) → n < m → m < nodes tb → f m ≡ f' m) → node_process tb f n ≡ node_process tb f' n
  unfolding node_process
  node_same f f' n l h =
      case_b (eqb (kind_of tb n) 1)
      (λ e. rw (
        e,
        sum_same tb f f' nothing n 0 (branch_count tb n) (λ j a b. let x = g.branch n j l (omega arith) in
            let y = d.reading n j l (omega arith) in (
              h (next_of tb n (branch_at tb n j)) y.next_later x.next.inside,
              λ s. h (child_of tb n (branch_at tb n j)) (y.child_later s) (x.child s).inside,
            )),
      ))
      (λ e. rw e)

  -- two depths that are enough give the same
  unrolled_same : (k j n : ℕ) → n < nodes tb → nodes tb ≤ n + k → nodes tb ≤ n + j → unrolled tb k n ≡ unrolled tb j n
  unfolding unrolled
  unrolled_same zero j n l a b = absurd (omega arith)
  unrolled_same (suc k) zero n l a b = absurd (omega arith)
  unrolled_same (suc k) (suc j) n l a b =
      node_same (unrolled tb k) (unrolled tb j) n l (λ m x y. unrolled_same k j m y (omega arith) (omega arith))

  -- the process of a node, by those of the nodes that it leads to
  pub process_at_lem : (n : ℕ) → n < nodes tb → process_at tb n ≡ node_process tb (process_at tb) n
  unfolding process_at unrolled
  process_at_lem n l = unrolled_same (nodes tb) (suc (nodes tb)) n l (omega arith) (omega arith)

-- a wait behind the branches
pub wait_behind : (tb : Table) (f : ℕ → Process) (q : Sum) (n i m : ℕ) → and_wait (sum_before tb f q n i m) ≡ sum_before tb f (and_wait q) n i m
unfolding sum_before and_wait
wait_behind tb f q n i zero = refl
wait_behind tb f q n i (suc m) = rw (wait_behind tb f q n (suc i) m)

pub one_more_wait : (n : ℕ) → and_wait (waits n) ≡ waits (suc n)
unfolding and_wait waits
one_more_wait zero = refl
one_more_wait (suc n) = ap wait (one_more_wait n)

-- The process expressions of 002 (Table 1), with the wait of its section 3. Variables, channels and definitions are numbers, and the parameters of a
-- definition are its first variables. 002 leaves the guards' expressions open; those here are document 01's and document 02's. One prefix, `assign`, is
-- document 01's own: no rule of 002 speaks of it.
use Rattle.std.specs.Prelude.{ℕ, zero, suc, Bool, true, false, List}

-- what document 01 assigns: a constant, the sum of two variables, their difference
pub data Expression : Type 0 where
  constant : ℕ → Expression
  plus minus : ℕ → ℕ → Expression

-- always; a variable equals a constant, is below a constant; two variables are equal, the first is below the second; and document 02's (S-4): a guard, and
-- that an expression fits
pub data Guard : Type 0 where
  always : Guard
  equals below same less : ℕ → ℕ → Guard
  and_fits : Guard → Expression → Guard

mutual
  -- termination, guarded choice, call
  pub data Process : Type 0 where
    end : Process
    choice : Sum → Process
    invoke : ℕ → List ℕ → Process

  -- a sum of branches [g] α, P; a wait may stand in the place of one
  pub data Sum : Type 0 where
    nothing : Sum
    branch : Guard → Prefix → Process → Sum → Sum
    wait : Sum → Sum

  -- silent, c!v, c?(x), new(c), spawn{P}; and document 01's assignment
  pub data Prefix : Type 0 where
    tau : Prefix
    output input : ℕ → ℕ → Prefix
    new_channel : ℕ → Prefix
    new_thread : Process → Prefix
    assign : ℕ → Expression → Prefix

-- Σ Qᵢ + wait
unfoldable pub and_wait : Sum → Sum
and_wait nothing = wait nothing
and_wait (branch g a P q) = branch g a P (and_wait q)
and_wait (wait q) = wait (and_wait q)

-- a sum of n waits
unfoldable pub waits : ℕ → Sum
waits zero = nothing
waits (suc n) = wait (waits n)

-- a sum in which nothing but wait stands
unfoldable pub only_waits : Sum → Bool
only_waits nothing = true
only_waits (branch g a P q) = false
only_waits (wait q) = only_waits q

-- P = Σ wait; the empty choice is `end` and does not wait
unfoldable pub some_wait : Sum → Bool
some_wait nothing = false
some_wait (branch g a P q) = false
some_wait (wait q) = only_waits q

unfoldable pub waiting : Process → Bool
waiting end = false
waiting (choice q) = some_wait q
waiting (invoke D vs) = false

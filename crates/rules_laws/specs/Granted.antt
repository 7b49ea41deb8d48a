-- What an accepted table grants to the engine: all that its theorems use of loading. Nodes are counted over the whole file.
use Rattle.std.specs.Prelude.{ℕ, ◌≤◌, ◌<◌, ◌≡◌, ◌⊎◌, ◌≢◌, false}
use Rattle.numbers.specs.Rows.{at}
use Rattle.table.specs.Table.{Table, max_ports, max_nodes, definitions, nodes, ports, carried, parameters, slot_count}
use Rattle.table.specs.Layout.{start, branch_count, definition_of, slot_type}
use Rattle.table.specs.declared.Part.TheVariants.{Nodes}
use Rattle.flow.specs.Flow.{may_lack}
use Rattle.state.specs.State.{row_slots}
use Rattle.rules.specs.Program.{kind_of, callee, argument, branch_at, next_of, child_of, field_a, field_b, act_of}
use Rattle.rules.specs.declared.Direction.{Direction}
use Rattle.rules.specs.declared.Direction.TheVariants.{Out, In}
use Rattle.rules.specs.declared.Act.{Act}
use Rattle.rules.specs.declared.Act.TheVariants.{Tau, Meeting, New, Spawn, Assignment}

module _ (tb : Table) where
  -- the branch in row r, which does this act, writes slot k
  unfoldable pub Writes : ℕ → Act → ℕ → Type 0
  Writes r Tau k = ⊥
  Writes r (Meeting Out) k = ⊥
  Writes r (Meeting In) k = k ≡ field_b tb r
  Writes r New k = k ≡ field_a tb r
  Writes r Spawn k = ⊥
  Writes r Assignment k = k ≡ field_a tb r

  -- node m is one of the nodes, in the definition of node n
  pub record Beside (n m : ℕ) : Type 0 where
    pub inside : m < nodes tb
    pub same : definition_of tb m ≡ definition_of tb n

  -- the branch in row r, of node n, meets by direction e: on a filled channel slot, with a slot of the type that the channel carries
  pub record MeetsBy (n r : ℕ) (e : Direction) : Type 0 where
    pub on_slot : field_a tb r < slot_count tb (definition_of tb n)
    pub with_slot_lem : field_b tb r < slot_count tb (definition_of tb n)
    pub on_channel : slot_type tb (definition_of tb n) (field_a tb r) ≢ 0
    pub with_carried : slot_type tb (definition_of tb n) (field_b tb r) ≡ carried tb (slot_type tb (definition_of tb n) (field_a tb r))
    pub on_filled : may_lack tb n (field_a tb r) ≡ false
    pub with_filled : e ≡ Out → may_lack tb n (field_b tb r) ≡ false

  -- of the branch in row r, one of node n's
  pub record Branching (n r : ℕ) : Type 0 where
    pub next : Beside n (next_of tb n r)
    -- what is surely written where it leads was so at n, or it writes it
    pub next_filled : (k : ℕ) → k < row_slots → may_lack tb (next_of tb n r) k ≡ false → (may_lack tb n k ≡ false) ⊎ Writes r (act_of tb r) k
    pub meets : (e : Direction) → act_of tb r ≡ Meeting e → MeetsBy n r e
    pub creates : act_of tb r ≡ New → (field_a tb r < slot_count tb (definition_of tb n)) × (slot_type tb (definition_of tb n) (field_a tb r) ≢ 0)
    pub assigns : act_of tb r ≡ Assignment → (field_a tb r < slot_count tb (definition_of tb n)) × (slot_type tb (definition_of tb n) (field_a tb r) ≡ 0)
    pub child : act_of tb r ≡ Spawn → Beside n (child_of tb n r)
    pub child_filled : act_of tb r ≡ Spawn → (k : ℕ) → k < row_slots → may_lack tb (child_of tb n r) k ≡ false → may_lack tb n k ≡ false

  -- of definition d
  pub record Definition (d : ℕ) : Type 0 where
    pub few_slots : slot_count tb d ≤ row_slots
    pub few_parameters : parameters tb d ≤ slot_count tb d
    pub first_inside : start tb Nodes d < nodes tb
    pub first_same : definition_of tb (start tb Nodes d) ≡ d
    -- at its first node parameters alone are surely written
    pub first_filled : (k : ℕ) → k < row_slots → may_lack tb (start tb Nodes d) k ≡ false → k < parameters tb d

  -- of node n, a call: each argument is a filled slot of the type of its parameter
  pub record Calling (n : ℕ) : Type 0 where
    pub callee_in : callee tb n < definitions tb
    pub argument_slot : (k : ℕ) → k < parameters tb (callee tb n) → argument tb n k < slot_count tb (definition_of tb n)
    pub argument_typed_lem : (k : ℕ) → k < parameters tb (callee tb n) → slot_type tb (definition_of tb n) (argument tb n k) ≡ slot_type tb (callee tb n) k
    pub argument_filled : (k : ℕ) → k < parameters tb (callee tb n) → may_lack tb n (argument tb n k) ≡ false

  pub record Granted : Type 0 where
    pub few_nodes : nodes tb ≤ max_nodes
    pub definition_in : (n : ℕ) → n < nodes tb → definition_of tb n < definitions tb
    pub branch : (n i : ℕ) → n < nodes tb → i < branch_count tb n → Branching n (branch_at tb n i)
    pub definition : (d : ℕ) → d < definitions tb → Definition d
    pub call : (n : ℕ) → n < nodes tb → kind_of tb n ≡ 2 → Calling n
    -- the ports are definition 0's parameters, of type 1, which carries numbers
    pub some_definition : 0 < definitions tb
    pub few_ports : ports tb ≤ max_ports
    pub port_parameters : parameters tb 0 ≡ ports tb
    pub port_typed_lem : (k : ℕ) → k < ports tb → slot_type tb 0 k ≡ 1
    pub port_carries : 0 < ports tb → carried tb 1 ≡ 0
    -- every number of it is one of 16 bits
    pub small : (r k : ℕ) → at tb r k < 65536

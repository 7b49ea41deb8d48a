-- What a header in range says of its counts. Assumes nothing.
use Rattle.std.specs.Prelude.{ℕ, ◌≤◌, ◌≡◌, true, leb}
use Rattle.std.proofs.Common.{leb-true}
use Rattle.numbers.specs.Tests.{and_left, and_right, parts}
use Rattle.table.specs.Table.{Table, max_types, max_definitions, max_slots, max_nodes, max_branches, max_ports, types, definitions, slots, nodes, branches, ports}
use Rattle.table.specs.Form.{within, header_in_range}

pub within_least : (l m v : ℕ) → within l m v ≡ true → l ≤ v
unfolding within
within_least l m v e = leb-true l v (and_left (leb l v) (leb v m) e)

pub within_most : (l m v : ℕ) → within l m v ≡ true → v ≤ m
unfolding within
within_most l m v e = leb-true v m (and_right (leb l v) (leb v m) e)

pub record Counts (tb : Table) : Type 0 where
  pub some_definitions : 1 ≤ definitions tb
  pub few_types : types tb ≤ max_types
  pub few_definitions : definitions tb ≤ max_definitions
  pub few_slots : slots tb ≤ max_slots
  pub some_nodes : 1 ≤ nodes tb
  pub few_nodes : nodes tb ≤ max_nodes
  pub few_branches : branches tb ≤ max_branches
  pub few_ports : ports tb ≤ max_ports

pub header_counts : (tb : Table) → header_in_range tb ≡ true → Counts tb
unfolding header_in_range
header_counts tb h = record {
  some_definitions = within_least 1 max_definitions (definitions tb) (search parts depth 9);
  few_types = within_most 0 max_types (types tb) (search parts depth 9);
  few_definitions = within_most 1 max_definitions (definitions tb) (search parts depth 9);
  few_slots = within_most 0 max_slots (slots tb) (search parts depth 9);
  some_nodes = within_least 1 max_nodes (nodes tb) (search parts depth 9);
  few_nodes = within_most 1 max_nodes (nodes tb) (search parts depth 9);
  few_branches = within_most 0 max_branches (branches tb) (search parts depth 9);
  few_ports = within_most 0 max_ports (ports tb) (search parts depth 9);
}

-- For laws and examples that compute with the tests of a table.
use Rattle.numbers.specs.Search.{computing}
use Rattle.table.specs.Layout.{blocks, lines, branch_count, size, start, ends_past, owner}
use Rattle.table.specs.Form.{gain, loss, within, header_in_range, kind_due, kind_wrong, gain_of, loss_of, sum_agrees, sums_agree}
use Rattle.table.specs.Roles.{guard_role, action_role, operand_place, operand, operand_role, reads, writes}
use Rattle.ranges.specs.Ranges as Ranges
use Rattle.ranges.specs.Ranges.{role_in_range, unused_from, rest_unused, type_in_range, definition_in_range, argument_in_range, call_in_range, node_in_range, operand_in_range, targets_in_range, branch_in_range, out_of_range}
use Rattle.types.specs.Types as Types
use Rattle.types.specs.Types.{role_typed, ports_typed, argument_typed, node_typed, operand_typed, branch_typed, row_typed, types_disagree}
use Rattle.flow.specs.Flow.{slot_written, past_write, either, arrive, begins, beginning, branch_followed, branches_followed, flow_to, flow, may_lack, argument_written, call_written, operand_written, row_written, reads_unwritten, unreachable, has_gap}
use Rattle.loader.specs.Verdict.{at_fault, judged_flow, judged_rows, judged, is_sound}

-- opens them
unfoldable pub judging : Unit {0}
unfolding computing blocks lines branch_count size start ends_past owner gain loss within header_in_range kind_due kind_wrong gain_of loss_of sum_agrees sums_agree guard_role action_role operand_place operand operand_role reads writes role_in_range Ranges.ahead unused_from rest_unused type_in_range definition_in_range argument_in_range call_in_range node_in_range operand_in_range targets_in_range branch_in_range Ranges.row_in_range out_of_range role_typed Types.port_typed ports_typed argument_typed node_typed operand_typed branch_typed row_typed types_disagree slot_written past_write either arrive begins beginning branch_followed branches_followed flow_to flow has_gap may_lack argument_written call_written operand_written row_written reads_unwritten unreachable at_fault judged_flow judged_rows judged is_sound
judging = tt

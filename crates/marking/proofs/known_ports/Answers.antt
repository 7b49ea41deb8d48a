use borrow.Author.Rules.{rules}
use Rattle.marking.proofs.Ways.{ports_none, ports_more, ports_all}
use Rattle.marking.proofs.known_ports.Goals as goal

pub loop-c-init : goal.loop-c-init
loop-c-init c = search (ports_none, rules)

pub loop-c-preserved : goal.loop-c-preserved
loop-c-preserved c = search (ports_more, rules)

pub returns : goal.returns
returns c = search ports_all

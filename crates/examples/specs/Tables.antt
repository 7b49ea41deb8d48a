-- The rows of the files of examples. Each file has one definition unless it says otherwise, and types that carry numbers.
use Rattle.std.specs.Prelude.{List, [], ◌∷◌, ℕ}
use Rattle.table.specs.Table.{Table}
use Rattle.examples.specs.Builders.{header, carrying, of_numbers, definition, slot, ending, choice, call, pass, send, receive, new, spawn, set, add, pass_if_equal, receive_if_below}

-- ---- document 01's listing

-- the rows with this header, this definition and this branch of node 2. Slots: a channel, a number. Nodes: 0 new channel, 1 spawn, 2 the branch, 3 send on the
-- channel; 4, where the child starts, receive on it; 5 end
abbrev pub listing_with : List ℕ → List ℕ → List ℕ → Table
listing_with counts defined second =
    counts ∷ of_numbers ∷ defined ∷ slot 1 ∷ slot 0
    ∷ choice 1 ∷ choice 1 ∷ choice 1 ∷ choice 1 ∷ choice 1 ∷ ending
    ∷ new 0 1 ∷ spawn 4 2 ∷ second ∷ send 0 1 5 ∷ receive 0 1 5 ∷ []

-- node 2 sets the number to 7
abbrev pub listing : Table
listing = listing_with (header 1 1 2 6 5 0) (definition 0 2 6) (set 1 7 3)

-- ---- the starred cases

-- slots: a channel, a number. Nodes: 0 new channel, 1 receive on it
abbrev pub lone_receiver : Table
lone_receiver =
    header 1 1 2 3 2 0 ∷ of_numbers ∷ definition 0 2 3 ∷ slot 1 ∷ slot 0
    ∷ choice 1 ∷ choice 1 ∷ ending
    ∷ new 0 1 ∷ receive 0 1 2 ∷ []

-- slots: two channels, a number. Nodes: 0 and 1 new channels, 2 spawn, 3 receive on the first; 4, where the child starts, receive on the second
abbrev pub two_receivers : Table
two_receivers =
    header 1 1 3 6 5 0 ∷ of_numbers ∷ definition 0 3 6 ∷ slot 1 ∷ slot 1 ∷ slot 0
    ∷ choice 1 ∷ choice 1 ∷ choice 1 ∷ choice 1 ∷ choice 1 ∷ ending
    ∷ new 0 1 ∷ new 1 2 ∷ spawn 4 3 ∷ receive 0 2 5 ∷ receive 1 2 5 ∷ []

-- slots: the channels c and d, a number. Nodes: 0 set the number, 1 new c, 2 new d, 3 and 4 spawns, 5 a new channel in the place of c, 6 send on d; 7, where the
-- first child starts, receive on c; 8, where the second starts, receive on d, 9 send on c; 10 end
abbrev pub chain : Table
chain =
    header 1 1 3 11 10 0 ∷ of_numbers ∷ definition 0 3 11 ∷ slot 1 ∷ slot 1 ∷ slot 0
    ∷ choice 1 ∷ choice 1 ∷ choice 1 ∷ choice 1 ∷ choice 1 ∷ choice 1 ∷ choice 1 ∷ choice 1 ∷ choice 1 ∷ choice 1 ∷ ending
    ∷ set 2 7 1 ∷ new 0 2 ∷ new 1 3 ∷ spawn 7 4 ∷ spawn 8 5 ∷ new 0 6 ∷ send 1 2 10 ∷ receive 0 2 10 ∷ receive 1 2 9 ∷ send 0 2 10 ∷ []

-- slots: the port, a number. Node 0 is a receive on the port
abbrev pub port_receiver : Table
port_receiver =
    header 1 1 2 2 1 1 ∷ of_numbers ∷ definition 1 2 2 ∷ slot 1 ∷ slot 0
    ∷ choice 1 ∷ ending
    ∷ receive 0 1 1 ∷ []

-- slots: the port, a number. Nodes: 0 set the number to 0; 1 go on if it is 1, or receive on the port if it is below 0
abbrev pub false_guards : Table
false_guards =
    header 1 1 2 3 3 1 ∷ of_numbers ∷ definition 1 2 3 ∷ slot 1 ∷ slot 0
    ∷ choice 1 ∷ choice 2 ∷ ending
    ∷ set 1 0 1 ∷ pass_if_equal 1 1 2 ∷ receive_if_below 1 0 0 1 2 ∷ []

-- slots: a channel, a number. Nodes: 0 new channel, 1 set the number, 2 send on the channel or receive on it
abbrev pub both_sides : Table
both_sides =
    header 1 1 2 4 4 0 ∷ of_numbers ∷ definition 0 2 4 ∷ slot 1 ∷ slot 0
    ∷ choice 1 ∷ choice 1 ∷ choice 2 ∷ ending
    ∷ new 0 1 ∷ set 1 7 2 ∷ send 0 1 3 ∷ receive 0 1 3 ∷ []

-- definition 0, with one channel slot: 0 new channel, 1 a call of definition 1, which has two channel parameters, with that slot for both
abbrev pub two_slots : Table
two_slots =
    header 1 2 3 3 1 0 ∷ of_numbers ∷ definition 0 1 2 ∷ definition 2 2 1 ∷ slot 1 ∷ slot 1 ∷ slot 1
    ∷ choice 1 ∷ call 1 0 0 ∷ ending
    ∷ new 0 1 ∷ []

-- slots: the port, two numbers. Nodes: 0 receive the first number on the port, 1 set the second to 1, 2 the first becomes their sum, or else go on
abbrev pub counter : Table
counter =
    header 1 1 3 4 4 1 ∷ of_numbers ∷ definition 1 3 4 ∷ slot 1 ∷ slot 0 ∷ slot 0
    ∷ choice 1 ∷ choice 1 ∷ choice 2 ∷ ending
    ∷ receive 0 1 1 ∷ set 2 1 2 ∷ add 1 1 2 3 ∷ pass 3 ∷ []

-- the same without the branch that goes on
abbrev pub only_counter : Table
only_counter =
    header 1 1 3 4 3 1 ∷ of_numbers ∷ definition 1 3 4 ∷ slot 1 ∷ slot 0 ∷ slot 0
    ∷ choice 1 ∷ choice 1 ∷ choice 1 ∷ ending
    ∷ receive 0 1 1 ∷ set 2 1 2 ∷ add 1 1 2 3 ∷ []

-- two ports, which are the parameters of definition 0; its one node calls it again with the two changed round
abbrev pub swap : Table
swap = header 1 1 2 1 0 2 ∷ of_numbers ∷ definition 2 2 1 ∷ slot 1 ∷ slot 1 ∷ call 0 1 0 ∷ []

-- nothing but an end
abbrev pub end_only : Table
end_only = header 0 1 0 1 0 0 ∷ definition 0 0 1 ∷ ending ∷ []

-- ---- the theorems

-- no slots. Node 0 is a spawn
abbrev pub spawner : Table
spawner = header 0 1 0 2 1 0 ∷ definition 0 0 2 ∷ choice 1 ∷ ending ∷ spawn 1 1 ∷ []

-- definition 0 is an end; definition 1 has eight channels for parameters. Nodes: 0 end; 1, where definition 1 begins, a new channel in the place of the first
-- parameter, 2 end
abbrev pub maker : Table
maker =
    header 1 2 8 3 1 0 ∷ of_numbers ∷ definition 0 0 1 ∷ definition 8 8 2
    ∷ slot 1 ∷ slot 1 ∷ slot 1 ∷ slot 1 ∷ slot 1 ∷ slot 1 ∷ slot 1 ∷ slot 1
    ∷ ending ∷ choice 1 ∷ ending
    ∷ new 0 1 ∷ []

-- slots: the port, a channel, a number. Nodes: 0 new channel, 1 spawn, 2 a new channel in the place of the first, 3 receive on the port; 4, where the child
-- starts, receive on the first channel, which it alone knows by then; 5 end
abbrev pub parting : Table
parting =
    header 1 1 3 6 5 1 ∷ of_numbers ∷ definition 1 3 6 ∷ slot 1 ∷ slot 1 ∷ slot 0
    ∷ choice 1 ∷ choice 1 ∷ choice 1 ∷ choice 1 ∷ choice 1 ∷ ending
    ∷ new 1 1 ∷ spawn 4 2 ∷ new 1 3 ∷ receive 0 2 5 ∷ receive 1 2 5 ∷ []

-- type 2 carries channels of type 1. Slots: c of type 2, d of type 1. Nodes: 0 new c, 1 spawn, 2 new d, 3 send d on c; 4, where the child starts, receive on c
-- into d; 5 end
abbrev pub teaching : Table
teaching =
    header 2 1 2 6 5 0 ∷ of_numbers ∷ carrying 1 ∷ definition 0 2 6 ∷ slot 2 ∷ slot 1
    ∷ choice 1 ∷ choice 1 ∷ choice 1 ∷ choice 1 ∷ choice 1 ∷ ending
    ∷ new 0 1 ∷ spawn 4 2 ∷ new 1 3 ∷ send 0 1 5 ∷ receive 0 1 5 ∷ []

-- ---- the rental-shop profile

-- no slots. Nodes: 0 to 5 spawns, of which the child goes on as its parent does, 6 end
abbrev pub doublings : Table
doublings =
    header 0 1 0 7 6 0 ∷ definition 0 0 7 ∷ choice 1 ∷ choice 1 ∷ choice 1 ∷ choice 1 ∷ choice 1 ∷ choice 1 ∷ ending
    ∷ spawn 1 1 ∷ spawn 2 2 ∷ spawn 3 3 ∷ spawn 4 4 ∷ spawn 5 5 ∷ spawn 6 6 ∷ []

-- the same, with one spawn more, before its nodes, of which the child ends at once
abbrev pub doublings_and_one : Table
doublings_and_one =
    header 0 1 0 8 7 0 ∷ definition 0 0 8 ∷ choice 1 ∷ choice 1 ∷ choice 1 ∷ choice 1 ∷ choice 1 ∷ choice 1 ∷ choice 1 ∷ ending
    ∷ spawn 7 1 ∷ spawn 2 2 ∷ spawn 3 3 ∷ spawn 4 4 ∷ spawn 5 5 ∷ spawn 6 6 ∷ spawn 7 7 ∷ []

-- two definitions without slots: the first calls the second, which has a spawn in front of its end
abbrev pub calls_up : Table
calls_up = header 0 2 0 3 1 0 ∷ definition 0 0 1 ∷ definition 0 0 2 ∷ call 1 0 0 ∷ choice 1 ∷ ending ∷ spawn 1 1 ∷ []

-- two definitions without slots: the first ends, and the second, which nobody calls, calls it
abbrev pub calls_down : Table
calls_down = header 0 2 0 2 0 0 ∷ definition 0 0 1 ∷ definition 0 0 1 ∷ ending ∷ call 0 0 0 ∷ []

-- one definition without slots. Nodes: 0 spawn, of which the child ends, 1 a call of the definition by itself, 2 end
abbrev pub calls_itself : Table
calls_itself = header 0 1 0 3 1 0 ∷ definition 0 0 3 ∷ choice 1 ∷ call 0 0 0 ∷ ending ∷ spawn 2 1 ∷ []

-- two definitions without slots. The first: 0 spawn, of which the child ends, 1 a call of the second, 2 end; the second, which has no spawn: 0 go on, 1 a call of
-- itself
abbrev pub repeats : Table
repeats = header 0 2 0 5 2 0 ∷ definition 0 0 3 ∷ definition 0 0 2 ∷ choice 1 ∷ call 1 0 0 ∷ ending ∷ choice 1 ∷ call 1 0 0 ∷ spawn 2 1 ∷ pass 1 ∷ []

-- not in order: one port, and no parameter for it
abbrev pub portless : Table
portless = header 1 1 0 1 0 1 ∷ of_numbers ∷ definition 0 0 1 ∷ ending ∷ []

-- not in order: a node whose only branch leads back to it
abbrev pub circle : Table
circle = header 0 1 0 1 1 0 ∷ definition 0 0 1 ∷ choice 1 ∷ pass 0 ∷ []

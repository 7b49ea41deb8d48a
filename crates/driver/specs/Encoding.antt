-- A list of calls at seats in a buffer, their lists of rights in another, and their answers in a third. The calls are those of the claim
-- (`guarantee/specs/SeatedClaim.antt`), which says what they leave in the state's buffer (`after_seat`, `after_seats`); the answers are the numbers that C
-- gets. Assumes nothing.
pub mod Laws
use Rattle.std.specs.Prelude.{ℕ, suc, ◌+◌, ◌*◌, ◌<◌, ◌%◌, cond, List, [], ◌∷◌, ◌++◌, eqb, get_or, set, take, drop, pos}
use Rattle.std.proofs.Common.{arith, to_z, of_z}
use Rattle.std.specs.Int.{w32}
use Rattle.numbers.specs.Bytes.{words}
use Rattle.engine_laws.specs.Lists as Lists
use Rattle.engine_laws.specs.Lists.{step, give, run}
use Rattle.interface.specs.Interface.{step_result, give_result, take_result, run_result, collect_result}
use Rattle.guarantee.specs.Claim.{Any, on, collect}
use Rattle.guarantee.specs.SeatedClaim.{AtSeat, after_seat}
use Rattle.interface.specs.declared.StepAnswer.{StepAnswer}
use Rattle.interface.specs.declared.GiveAnswer.{GiveAnswer}
use Rattle.interface.specs.declared.TakeAnswer.{TakeAnswer}
use Rattle.interface.specs.declared.RunAnswer.{RunAnswer}
use Rattle.interface.specs.declared.CollectAnswer.{CollectAnswer}
use Rattle.driver.specs.declared.Answer.{Answer}

-- ---- calls

-- the lower 32 bits, which a word of a buffer has alone
abbrev pub pattern : ℕ → ℕ
pattern v = v % 4294967296

pub pattern_small : (v : ℕ) → pattern v < 4294967296
pattern_small v = omega arith

-- a call by three words. The first says which: 0 a step, 1 a give, 2 a take, 3 a run, any other a collection. The second is the thread, the port, or the
-- number of steps, of which the lower 16 bits count; the third is the pattern of the number that is given
unfoldable pub call_by : ℕ → ℕ → ℕ → Any
call_by code a v =
    cond (eqb code 0) (on (step a))
    (cond (eqb code 1) (on (give a (pattern v) (pattern_small v)))
    (cond (eqb code 2) (on (Lists.take a))
    (cond (eqb code 3) (on (run (a % 65536)))
    collect)))

-- so many bytes of a buffer from a place on; what lies past its end is no part of it
unfoldable pub part_of : List ℕ → ℕ → ℕ → List ℕ
part_of lists from n = take n (drop from lists)

-- a call at a seat by six words: those three, the seat, and which part of the lists is its list of rights
unfoldable pub seated_by : List ℕ → ℕ → ℕ → ℕ → ℕ → ℕ → ℕ → AtSeat Any
seated_by lists code a v seat from n = record { rights = part_of lists from n; seat = seat; call = call_by code a v }

-- the calls of a list of words, six for each; a rest of fewer is no call
unfoldable pub called_by : List ℕ → List ℕ → List (AtSeat Any)
called_by lists [] = []
called_by lists (c ∷ []) = []
called_by lists (c ∷ a ∷ []) = []
called_by lists (c ∷ a ∷ v ∷ []) = []
called_by lists (c ∷ a ∷ v ∷ s ∷ []) = []
called_by lists (c ∷ a ∷ v ∷ s ∷ f ∷ []) = []
called_by lists (c ∷ a ∷ v ∷ s ∷ f ∷ n ∷ ws) = seated_by lists c a v s f n ∷ called_by lists ws

-- the call of record i, counted from 0
unfoldable pub record_at : List ℕ → List ℕ → ℕ → AtSeat Any
record_at lists ws i =
    seated_by lists (get_or ws (i * 6) 0) (get_or ws (i * 6 + 1) 0) (get_or ws (i * 6 + 2) 0) (get_or ws (i * 6 + 3) 0) (get_or ws (i * 6 + 4) 0) (get_or ws (i * 6 + 5) 0)

-- the calls of a buffer
abbrev pub calls_of : List ℕ → List ℕ → List (AtSeat Any)
calls_of lists b = called_by lists (words b)

-- ---- answers

-- the numbers of each answer in their order, and 0 in the place of those that it does not have
unfoldable pub stepped : StepAnswer → Answer
stepped a = record { refusal = a.refusal; second = a.node; third = a.act; fourth = a.branch; fifth = a.partner }

unfoldable pub given : GiveAnswer → Answer
given a = record { refusal = a.refusal; second = a.thread; third = pos 0; fourth = pos 0; fifth = pos 0 }

unfoldable pub taken : TakeAnswer → Answer
taken a = record { refusal = a.refusal; second = a.thread; third = a.number; fourth = pos 0; fifth = pos 0 }

unfoldable pub ran : RunAnswer → Answer
ran a = record { refusal = a.refusal; second = a.steps; third = a.reason; fourth = a.thread; fifth = pos 0 }

unfoldable pub collected : CollectAnswer → Answer
collected a = record { refusal = a.refusal; second = a.threads; third = pos 0; fourth = pos 0; fifth = pos 0 }

-- what C is answered by a call on these buffers, at a seat
unfoldable pub answer_to : List ℕ → List ℕ → List ℕ → ℕ → Any → Answer
answer_to table state rights seat (on (step t)) = stepped (step_result table state rights seat t).answer
answer_to table state rights seat (on (give p v h)) = given (give_result table state rights seat p (to_z w32 v)).answer
answer_to table state rights seat (on (Lists.take p)) = taken (take_result table state rights seat p).answer
answer_to table state rights seat (on (run n)) = ran (run_result table state rights seat n).answer
answer_to table state rights seat collect = collected (collect_result table state rights seat).answer

abbrev pub answer_at : List ℕ → List ℕ → AtSeat Any → Answer
answer_at table state k = answer_to table state k.rights k.seat k.call

-- the five words of an answer, and those of the answers to a list of calls in turn, each call on the bytes that the ones before it leave
unfoldable pub words_of : Answer → List ℕ
words_of a = of_z w32 a.refusal ∷ of_z w32 a.second ∷ of_z w32 a.third ∷ of_z w32 a.fourth ∷ of_z w32 a.fifth ∷ []

unfoldable pub answers_to : List ℕ → List ℕ → List (AtSeat Any) → List ℕ
answers_to table state [] = []
answers_to table state (k ∷ ks) = words_of (answer_at table state k) ++ answers_to table (after_seat table state k) ks

-- a buffer's words after these were written from place i on; a place past its end is not written
unfoldable pub written_from : List ℕ → ℕ → List ℕ → List ℕ
written_from b i [] = b
written_from b i (w ∷ ws) = written_from (set b i w) (suc i) ws

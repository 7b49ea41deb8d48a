-- The threads of a product at the places that a test takes, by which Propositions 3, 4 and 5 of 002 are said. `proofs/Cliques.antt` has them.
use Rattle.std.specs.Prelude.{ℕ, suc, cond}
use Rattle.std.proofs.Math.Bool.{Bool}
use mathlib.Core.List.{List, [], ◌∷◌}
use Rattle.published.specs.Agents.{Thread}

unfoldable pub chosen : (ℕ → Bool) → List Thread → List Thread
chosen q [] = []
chosen q (t ∷ A) = cond (q 0) (t ∷ chosen (λ j. q (suc j)) A) (chosen (λ j. q (suc j)) A)

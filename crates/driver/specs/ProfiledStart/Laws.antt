-- The ways out of the function that starts what keeps to the profile, from what the exported functions ensure; and what is pledged where it answers 0. A number
-- of an answer comes back by way of its pattern. Assumes nothing.
use Rattle.std.specs.Prelude.{ℕ, ◌<◌, ◌≡◌, refl, List, get_or}
use Rattle.std.proofs.Math.Path.{sym, ap}
use Rattle.std.proofs.Common.{◌∙◌, SFits, to_z, of_z}
use Rattle.std.proofs.Math.IntN.{pos}
use Rattle.std.specs.Int.{w32}
use Rattle.std.proofs.Math.Facts.{to_z-of_z}
use Rattle.numbers.specs.Search.Laws.{case_b, contra}
use Rattle.interface.specs.Interface.{start_result, profile_result}
use Rattle.interface.specs.declared.ProfileAnswer.{ProfileAnswer}
use Rattle.guarantee.specs.Claim.{Any}
use Rattle.guarantee.specs.SeatedClaim.{AtSeat}
use Rattle.guarantee.specs.InNumbers.{is_zero}
use Rattle.profile_laws.specs.InNumbers.{PledgeInNumbers, passed_pledge}
use Rattle.driver.specs.Restore.Laws.{zero_is}
use Rattle.driver.specs.WorkedFile.{start_opening}
use Rattle.driver.specs.ProfiledStart.{begun_to, begun}
use Rattle.driver.specs.declared.Opening.{Opening}

module _ (t b : List ℕ) (a : ProfileAnswer) (e : a ≡ profile_result t) (f : SFits w32 a.refusal) where
  -- a table that the check refuses
  pub check_refused : (b' : List ℕ) → (of_z w32 a.refusal ≡ 0 → ⊥) → b' ≡ b → begun_to (to_z w32 (of_z w32 a.refusal)) b' ≡ begun t b
  unfolding begun
  check_refused b' n q =
      case_b (is_zero a.refusal)
      (λ y. absurd (n (ap (of_z w32) (zero_is a.refusal y))))
      (λ y. rw (← e, y, to_z-of_z f, q))

  -- one that passes is started
  pub check_passed : of_z w32 a.refusal ≡ 0 → (o : Opening) (b₁ : List ℕ) → b₁ ≡ (start_result t b).state → o ≡ start_opening (start_result t b).answer → SFits w32 o.refusal
      → begun_to (to_z w32 (of_z w32 o.refusal)) b₁ ≡ begun t b
  unfolding begun is_zero start_opening
  check_passed z o b₁ w q g =
      let p : a.refusal ≡ pos 0 = sym (to_z-of_z f) ∙ ap (to_z w32) z in
      rw (← e, p, to_z-of_z g, w, q)

-- where 0 is answered the state is that of a start, and the profile's pledge holds of every list of calls from there
pub pledged : (table : List ℕ) → ((i : ℕ) → get_or table i 0 < 256) → (state : List ℕ) → (begun table state).refusal ≡ pos 0
    → ((begun table state).state ≡ (start_result table state).state) × ((ks : List (AtSeat Any)) → PledgeInNumbers table state ks)
unfolding begun is_zero
pledged table fit state e = case_b (is_zero (profile_result table).refusal)
    (λ y. let s : (start_result table state).answer.refusal ≡ pos 0 = rw y at e in
    rw y (refl, λ ks. passed_pledge table fit (zero_is (profile_result table).refusal y) state s ks))
    (λ y. let z : (profile_result table).refusal ≡ pos 0 = rw y at e in contra (rw z) y)

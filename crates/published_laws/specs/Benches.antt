-- A bench for every table: it knows the ports, by the variables that have their numbers, and has one variable more for a number. Assumes nothing.
use Rattle.std.specs.Prelude.{ℕ, ◌<◌, ◌≡◌, refl, true, false, ltb, None, Option, Some}
use Rattle.std.proofs.Common.{arith, sym, ◌∙◌, ltb-true, ltb-false}
use Rattle.std.proofs.Math.Path.{ap}
use mathlib.Core.List.{[], ◌∷◌, ◌++◌}
use Rattle.std.proofs.Math.ListN.{length, get_or-append, get_or-eq_default}
use Rattle.std.proofs.Math.Seq.{get_or-append_seam}
use Rattle.numbers.specs.Search.{tabulate}
use Rattle.numbers.specs.Search.Laws.{case_b, same_truth, get_d_tabulate, length_tabulate}
use Rattle.numbers.specs.Tests.{clash}
use Rattle.table.specs.Table.{Table, ports}
use Rattle.published.specs.Syntax.{Process, waiting}
use Rattle.published.specs.Agents.{Value, channel, Env, look, bind, refers, mentions, thread, knows}
use Rattle.published.specs.Bindings.{knows_iff}
use Rattle.published_laws.specs.Products.{Bench}

-- the variables of the ports, and variable P, for a number
unfoldable pub ports_and : Table → Option Value → Env
ports_and tb o = tabulate (ports tb) (λ c. Some (channel c)) ++ (o ∷ [])

mentions_ports : (c : ℕ) (l : Env) (o : Option Value) → refers c o ≡ false → mentions c (l ++ (o ∷ [])) ≡ mentions c l
unfolding mentions
mentions_ports c [] o f = rw f
mentions_ports c (x ∷ l) o f = rw (mentions_ports c l o f)

bind_last : (l : Env) (o : Option Value) (v : Value) → bind (l ++ (o ∷ [])) (length l) v ≡ l ++ (Some v ∷ [])
unfolding bind
bind_last [] o v = refl
bind_last (x ∷ l) o v = rw (bind_last l o v)

module _ (tb : Table) where
  abbrev channels : Env
  channels = tabulate (ports tb) (λ c. Some (channel c))

  look_channels : (c : ℕ) → c < ports tb → look channels c ≡ Some (channel c)
  look_channels c l = get_d_tabulate (ports tb) c (λ c. Some (channel c)) None l

  known_port : (c : ℕ) (E : Process) (x : ℕ) → look channels x ≡ Some (channel c) → ltb c (ports tb) ≡ true
  known_port c E x e =
      case_b (ltb x (ports tb))
      (λ y. let l = ltb-true x (ports tb) y in
      let q : Some (channel x) ≡ Some (channel c) = sym (look_channels x l) ∙ e in
      let z : x ≡ c = cc in rw z at y)
      (λ y. let q : None ≡ Some (channel c) =
      sym (get_or-eq_default channels None {n = x} (omega (arith, ltb-false x (ports tb) y, length_tabulate (ports tb) (λ c. Some (channel c))))) ∙ e in
      clash cc)

  ports_known : (c : ℕ) (E : Process) → knows c (thread [] channels E) ≡ ltb c (ports tb)
  ports_known c E =
      same_truth (knows c (thread [] channels E)) (ltb c (ports tb))
      (λ y. let (x, e) = (knows_iff c (thread [] channels E)).0 y in known_port c E x e)
      (λ y. (knows_iff c (thread [] channels E)).1 (c, look_channels c (ltb-true c (ports tb) y)))

  -- whatever it does, as long as it does not wait, and whatever number it has
  pub bench_is : (o : Option Value) → ((c : ℕ) → refers c o ≡ false) → (E : Process) → waiting E ≡ false → Bench tb (thread [] (ports_and tb o) E)
  unfolding ports_and knows
  bench_is o f E w = record {
    uncommitted = refl;
    ports_only = λ c. mentions_ports c channels o (f c) ∙ ports_known c E;
    acts = w;
  }

  -- ---- its variables

  pub look_port : (o : Option Value) (p : ℕ) → p < ports tb → look (ports_and tb o) p ≡ Some (channel p)
  unfolding ports_and
  look_port o p l =
      get_or-append channels (o ∷ []) None p (omega (arith, length_tabulate (ports tb) (λ c. Some (channel c)))) ∙ look_channels p l

  pub look_own : (o : Option Value) → look (ports_and tb o) (ports tb) ≡ o
  unfolding ports_and
  look_own o = let n : length channels ≡ ports tb = length_tabulate (ports tb) (λ c. Some (channel c)) in
      ap (λ (k : ℕ). look (channels ++ (o ∷ [])) k) (sym n) ∙ get_or-append_seam channels o [] None

  pub bind_own : (o : Option Value) (v : Value) → bind (ports_and tb o) (ports tb) v ≡ ports_and tb (Some v)
  unfolding ports_and
  bind_own o v = let n : length channels ≡ ports tb = length_tabulate (ports tb) (λ c. Some (channel c)) in
      ap (λ (k : ℕ). bind (channels ++ (o ∷ [])) k v) (sym n) ∙ bind_last channels o v

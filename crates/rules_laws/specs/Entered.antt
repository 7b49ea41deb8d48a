-- Free rows are sound, and so is the row of a thread that enters a definition with sound arguments. Assumes nothing but what the table grants.
use Prim.Native.Nat.{ℕ, zero, suc, ◌<◌, ◌≤◌}
use Rattle.std.proofs.Common.{arith, ltb-true, ltb-false, eqb-true}
use Rattle.std.specs.Prelude.{◌≡◌, true, cond, ◌∷◌, ltb, eqb, get_or}
use Rattle.std.proofs.Math.Path.{refl, ap}
use Rattle.std.proofs.Math.Logic.{inl}
use Rattle.std.proofs.lemmas.List.{get_or-replicate}
use Rattle.std.proofs.Math.ListN.{get_or-eq_default}
use Rattle.std.proofs.lemmas.Bool.{eqb-false}
use Rattle.numbers.specs.Search.{tabulate}
use Rattle.numbers.specs.Search.Laws.{case_b, contra, get_d_tabulate, length_tabulate}
use Rattle.table.specs.Table.{Table, max_nodes, definitions, nodes, parameters, slot_count}
use Rattle.table.specs.Layout.{start, definition_of, slot_type}
use Rattle.table.specs.declared.Part.TheVariants.{Nodes}
use Rattle.flow.specs.Flow.{may_lack}
use Rattle.state.specs.State.{row_slots}
use Rattle.rules.specs.Program.{channel_slot, blank}
use Rattle.rules.specs.Start.{free_row, entered}
use Rattle.rules_laws.specs.Granted.{Definition, Granted}
use Rattle.rules_laws.specs.Reading.Laws.{head_slot}
use Rattle.rules_laws.specs.Soundness.{SlotSound, spare, number, unfilled, RowSound}

-- a free row, whatever the types
pub free_sound : (tb : Table) (ty : ℕ → ℕ) → RowSound tb ty free_row
free_sound tb ty = record {
  long = refl;
  small = small;
  free = λ e. refl;
  ready_or_waits = λ e. contra e refl;
  node_in = λ e. contra e refl;
  slots = λ e. contra e refl;
  waits_at = λ e. contra e refl;
  waits_for = λ e. contra e refl;
}
  where
    small : (k : ℕ) → get_or free_row k 0 < 4294967296
    small k =
        case_b (ltb k 18)
        (λ t. rw (get_or-replicate {A = ℕ} 18 k 0 0 (ltb-true k 18 t)) (omega arith))
        (λ f. rw (get_or-eq_default free_row 0 {n = k} (omega (arith, ltb-false k 18 f))) (omega arith))

-- ---- blank slots

blank_small : (tb : Table) (d k : ℕ) → blank tb d k < 4294967296
unfolding blank
blank_small tb d k = case_b (channel_slot tb d k) (λ t. rw t (omega arith)) (λ f. rw f (omega arith))

-- slot k of node n, of definition d, which some path leaves unwritten
blank_sound : (tb : Table) (ty : ℕ → ℕ) (d n k : ℕ) → definition_of tb n ≡ d → may_lack tb n k ≡ true → SlotSound tb ty n k (blank tb d k)
unfolding blank channel_slot
blank_sound tb ty d n k e m =
    case_b (ltb k (slot_count tb d))
    (λ a. case_b (eqb (slot_type tb d k) 0)
    (λ b. number (rw e (ltb-true k (slot_count tb d) a)) (rw e (eqb-true (slot_type tb d k) 0 b)))
    (λ b. unfilled (rw e (ltb-true k (slot_count tb d) a)) (rw e (eqb-false (slot_type tb d k) 0 b)) m (rw (a, b))))
    (λ a. spare (rw e (ltb-false k (slot_count tb d) a)) (rw a))

-- ---- the row of a thread that enters definition d

module _ (tb : Table) (ty : ℕ → ℕ) (d : ℕ) (given : ℕ → ℕ) (g : Definition tb d)
    (sound : (k : ℕ) → k < parameters tb d → (given k < 4294967296) × SlotSound tb ty (start tb Nodes d) k (given k)) where
  abbrev word : ℕ → ℕ
  word k = cond (ltb k (parameters tb d)) (given k) (blank tb d k)

  word_small : (k : ℕ) → word k < 4294967296
  word_small k =
      case_b (ltb k (parameters tb d))
      (λ t. rw t (sound k (ltb-true k (parameters tb d) t)).0)
      (λ f. rw f (blank_small tb d k))

  lacks : (k : ℕ) → k < row_slots → parameters tb d ≤ k → may_lack tb (start tb Nodes d) k ≡ true
  lacks k l h = case_b (may_lack tb (start tb Nodes d) k) (λ t. t) (λ f. absurd (omega (arith, h, g.first_filled k l f)))

  word_sound : (k : ℕ) → k < row_slots → SlotSound tb ty (start tb Nodes d) k (word k)
  word_sound k l =
      case_b (ltb k (parameters tb d))
      (λ t. rw t (sound k (ltb-true k (parameters tb d) t)).1)
      (λ f. rw f (blank_sound tb ty d (start tb Nodes d) k g.first_same (lacks k l (ltb-false k (parameters tb d) f))))

  -- the words of the row are those of 32 bits
  row_small : nodes tb ≤ max_nodes → (k : ℕ) → get_or (1 ∷ start tb Nodes d ∷ tabulate row_slots word) k 0 < 4294967296
  row_small h zero = omega arith
  row_small h (suc zero) = omega (arith, g.first_inside)
  row_small h (suc (suc k)) =
      case_b (ltb k 16)
      (λ t. rw (get_d_tabulate 16 k word 0 (ltb-true k 16 t)) (word_small k))
      (λ f. rw (get_or-eq_default (tabulate 16 word) 0 {n = k} (omega (arith, ltb-false k 16 f, length_tabulate 16 word))) (omega arith))

  row_sound_lem : nodes tb ≤ max_nodes → RowSound tb ty (entered tb d given)
  unfolding entered
  row_sound_lem h = record {
    long = ap (λ n. suc (suc n)) (length_tabulate 16 word);
    small = row_small h;
    free = λ e. contra refl e;
    ready_or_waits = λ e. inl refl;
    node_in = λ e. g.first_inside;
    slots = λ e k l. rw (head_slot 1 (start tb Nodes d) (tabulate 16 word) k, get_d_tabulate 16 k word 0 l) (word_sound k l);
    waits_at = λ e. contra e refl;
    waits_for = λ e. contra e refl;
  }

-- a thread that enters a definition, where what it gives to the parameters is sound at the first node of it
pub entered_sound : (tb : Table) → Granted tb → (ty : ℕ → ℕ) (d : ℕ) (given : ℕ → ℕ) → d < definitions tb
    → ((k : ℕ) → k < parameters tb d → (given k < 4294967296) × SlotSound tb ty (start tb Nodes d) k (given k)) → RowSound tb ty (entered tb d given)
entered_sound tb g ty d given l h = row_sound_lem tb ty d given (g.definition d l) h g.few_nodes

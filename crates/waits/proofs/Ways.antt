-- What the functions that note offers come to. Assumes nothing.
use Prim.Native.Nat.{ℕ, ◌+◌, ◌≤◌, ◌<◌}
use native.Mathlib.Omega.{arith}
use native.Mathlib.Numerals.{add-one}
use mathlib.Core.Path.{◌≡◌, refl, ◌∙◌}
use mathlib.Core.Logic.{inl, inr}
use mathlib.Core.Bool.{Bool, true, false, not, ◌&&◌}
use mathlib.Core.List.{List, [], ◌∷◌}
use types.Run.{OneOf}
use denote.Enum.Declared.{tag_of}
use lib.ListN.{get_or, set, replicate}
use borrow.Author.Tests.{eq-eqb, ne_eqb}
use Rattle.numbers.specs.Search.{every, tabulate}
use Rattle.numbers.specs.Search.Laws.{get_d_tabulate, every_all, every_not, every_cong, case_b, contra}
use Rattle.numbers.specs.Tests.{and_true}
use Rattle.numbers.specs.Rows.{at}
use Rattle.table.specs.Fields as Field
use Rattle.table.specs.Table.{Table, branch_row}
use Rattle.table.specs.Layout.{start, branch_count}
use Rattle.table.specs.declared.Part.TheVariants.{Branches}
use Rattle.state.specs.State.{State, max_threads, max_channels, thread, status, stands_at, slot_of}
use Rattle.rules.specs.Program.{fitting, branch_at, act_of, printed_guard, guard_holds, same}
use Rattle.rules.specs.Offers.{meets?, offers_in}
use Rattle.rules.specs.Sound.{waits_rightly}
use Rattle.rules.specs.declared.Direction.{Direction}
use Rattle.rules.specs.declared.Direction.TheVariants.{Out, In}
use Rattle.rules.specs.declared.Act.{Act}
use Rattle.rules.specs.declared.Act.TheVariants.{Tau, Meeting, New, Spawn, Assignment}
use Rattle.rules.specs.contracts.Act.{the_type}
use Rattle.offers.specs.Offer.Laws.{same_self}
use Rattle.waits.specs.Waits.{noted, apart, all_apart, needs_partner, held_back, offer_noted, branch_held, waits_alone, who, who_to}
use Rattle.waits.specs.Waits.Laws.{waits_law}
use Rattle.waits.specs.Waits.Pass.{branch_noted, no_branch_noted, branches_noted, none_noted, none_yet}

-- ---- note_branch: the act of the branch in row r is a

-- an act whose tag, as `if let` read it, is not that of a meeting, 1
no_partner : (a : Act) → OneOf (0 ∷ 2 ∷ 3 ∷ 4 ∷ []) (tag_of the_type a) → needs_partner a ≡ false
unfolding needs_partner
no_partner Tau h = refl
no_partner (Meeting d) (inl h) = absurd (omega arith)
no_partner (Meeting d) (inr (inl h)) = absurd (omega arith)
no_partner (Meeting d) (inr (inr (inl h))) = absurd (omega arith)
no_partner (Meeting d) (inr (inr (inr h))) = absurd (omega arith)
no_partner New h = refl
no_partner Spawn h = refl
no_partner Assignment h = refl

-- such an act offers nothing
no_meeting : (a : Act) (d : Direction) → needs_partner a ≡ false → meets? a d ≡ false
unfolding needs_partner meets?
no_meeting Tau d h = refl
no_meeting (Meeting e) d h = contra refl h
no_meeting New d h = refl
no_meeting Spawn d h = refl
no_meeting Assignment d h = refl

module _ (tb : Table) (row : List ℕ) (r : ℕ) (a : Act) (e : a ≡ act_of tb r) where
  -- a meeting of direction o: it assigns nothing, so that its guard is the file's, q
  module _ (o : Direction) (f : a ≡ Meeting o) where
    pub meeting_held : true ≡ held_back tb row r
    unfolding held_back needs_partner
    meeting_held = rw (← e, f) (case_b (guard_holds tb r row) (λ y. rw y) (λ n. rw n))

    module _ (q : Bool) (g : q ≡ printed_guard tb r row) where
      meeting_offers : (d : Direction) → offers_in tb row d (slot_of row (at tb r Field.a)) r ≡ (same o d && q)
      unfolding offers_in meets? guard_holds fitting
      meeting_offers d = rw (← e, f, ← g, ← and_true q, eq-eqb (slot_of row (at tb r Field.a)) (slot_of row (at tb r Field.a)) refl)

      pub shut_noted : q ≡ false → (d : Direction) (t : ℕ) (l : List ℕ) → l ≡ offer_noted tb row d r t l
      unfolding offer_noted
      shut_noted h d t l = rw (meeting_offers d, h) (case_b (same o d) (λ y. rw y) (λ n. rw n))

      -- field a names slot x, which has c, and o is the direction k
      module _ (h : q ≡ true) (x c : ℕ) (i : x ≡ at tb r Field.a) (j : c ≡ slot_of row x) (k : Direction) (p : o ≡ k) (t : ℕ) (l : List ℕ) where
        pub open_noted : (m : List ℕ) → m ≡ set l c (noted (get_or l c 0) t) → m ≡ offer_noted tb row k r t l
        unfolding offer_noted
        open_noted m y = rw (meeting_offers k, h, p, same_self k, ← i, ← j) y

        pub other_noted : (d : Direction) → same k d ≡ false → l ≡ offer_noted tb row d r t l
        unfolding offer_noted
        other_noted d y = rw (meeting_offers d, h, p, y)

  -- no meeting
  module _ (n : OneOf (0 ∷ 2 ∷ 3 ∷ 4 ∷ []) (tag_of the_type a)) where
    pub alone_held : (b : Bool) → b ≡ guard_holds tb r row → not b ≡ held_back tb row r
    unfolding held_back
    alone_held b g = rw (← e, no_partner a n, ← g) (case_b b (λ y. rw y) (λ y. rw y))

    pub alone_noted : (d : Direction) (t : ℕ) (l : List ℕ) → l ≡ offer_noted tb row d r t l
    unfolding offer_noted offers_in
    alone_noted d t l = rw (← e, no_meeting a d (no_partner a n))

pub ruleset meeting = (meeting_held, shut_noted, open_noted, other_noted)

pub ruleset alone = (alone_held, alone_noted)

-- ---- note_branches: the rows of its node's branches begin at b

module _ (tb : Table) (s : State) (t i n b : ℕ) (p : n ≡ stands_at (thread s t)) (q : b ≡ branch_row tb + start tb Branches n) where
  row_is : b + i ≡ branch_at tb (stands_at (thread s t)) i
  unfolding branch_at
  row_is = rw (← p) (omega arith)

  pub row_held : (r : Bool) → r ≡ held_back tb (thread s t) (b + i) → r ≡ branch_held tb s t i
  unfolding branch_held
  row_held r e = e ∙ rw row_is

  pub branches_more : (d : Direction) (l m : List ℕ) → l ≡ tabulate max_channels (who_to tb s d t i) → m ≡ offer_noted tb (thread s t) d (b + i) t l
      → m ≡ tabulate max_channels (who_to tb s d t (i + 1))
  branches_more d l m e f = branch_noted tb s d t i l e m (f ∙ rw row_is)

module _ (tb : Table) (s : State) (d : Direction) (t : ℕ) where
  pub branches_none : (l : List ℕ) → l ≡ tabulate max_channels (who tb s d t) → l ≡ tabulate max_channels (who_to tb s d t 0)
  branches_none l e = e ∙ no_branch_noted tb s d t

  pub branches_all : (i n k : ℕ) (l : List ℕ) → l ≡ tabulate max_channels (who_to tb s d t i) → i ≤ k → k ≤ i → k ≡ branch_count tb n → n ≡ stands_at (thread s t)
      → status (thread s t) ≡ 2 → l ≡ tabulate max_channels (who tb s d (t + 1))
  branches_all i n k l e a b f g w =
      let q : i ≡ branch_count tb (stands_at (thread s t)) = (let z : i ≡ k = omega arith in z) ∙ (f ∙ rw g) in
      rw (add-one t) (e ∙ (rw q (branches_noted tb s d t (rw w))))

  -- ---- note_thread
  pub thread_skipped : (x : ℕ) (l : List ℕ) → l ≡ tabulate max_channels (who tb s d t) → x ≡ status (thread s t) → (x ≡ 2 → ⊥)
      → l ≡ tabulate max_channels (who tb s d (t + 1))
  thread_skipped x l e f n = rw (add-one t) (e ∙ none_noted tb s d t (rw (← f) (ne_eqb x 2 n)))

module _ (tb : Table) (s : State) (t i n k : ℕ) (f : k ≡ branch_count tb n) (g : n ≡ stands_at (thread s t)) where
  pub held_all : every (branch_held tb s t) i ≡ true → i ≤ k → k ≤ i → true ≡ every (branch_held tb s t) (branch_count tb (stands_at (thread s t)))
  held_all e a b = rw (← g, ← f) (every_all (branch_held tb s t) i k e a b)

  pub held_not : (r : Bool) → r ≡ branch_held tb s t i → r ≡ false → i < k → false ≡ every (branch_held tb s t) (branch_count tb (stands_at (thread s t)))
  held_not r e a b = rw (← g, ← f) (every_not (branch_held tb s t) i k r e a b)

-- ---- note_threads

module _ (tb : Table) (s : State) (d : Direction) (l : List ℕ) where
  pub threads_none : l ≡ replicate max_channels 0 → l ≡ tabulate max_channels (who tb s d 0)
  threads_none e = e ∙ none_yet tb s d

  -- what was claimed of the notes if r is true
  pub threads_more : (t : ℕ) (r : Bool) → (r ≡ true → l ≡ tabulate max_channels (who tb s d (t + 1))) → r ≡ true → l ≡ tabulate max_channels (who tb s d (t + 1))
  threads_more t r f e = f e

  pub threads_all : (t : ℕ) → l ≡ tabulate max_channels (who tb s d t) → t ≤ max_threads → max_threads ≤ t → l ≡ tabulate max_channels (who tb s d max_threads)
  threads_all t e h i = let q : t ≡ 64 = omega arith in rw q at e

-- ---- waits_rightly

module _ (tb : Table) (s : State) where
  pub not_alone : (r : Bool) → r ≡ every (waits_alone tb s) max_threads → r ≡ false → false ≡ every (waits_rightly tb s) max_threads
  not_alone r e f = rw (waits_law tb s, ← e, f)

  pub all_apart_lem : (r b : Bool) (l m : List ℕ) → r ≡ every (waits_alone tb s) max_threads → r ≡ true
      → b ≡ all_apart l m → (r ≡ true → l ≡ tabulate max_channels (who tb s Out max_threads)) → (r ≡ true → m ≡ tabulate max_channels (who tb s In max_threads))
      → b ≡ every (waits_rightly tb s) max_threads
  unfolding all_apart
  all_apart_lem r b l m e f g h i =
      rw (waits_law tb s, ← e, f) (g ∙ every_cong (λ c. apart (get_or l c 0) (get_or m c 0)) (λ c. apart (who tb s Out 64 c) (who tb s In 64 c)) max_channels
      (λ c j. rw (h f, i f, get_d_tabulate 128 c (who tb s Out 64) 0 j, get_d_tabulate 128 c (who tb s In 64) 0 j)))

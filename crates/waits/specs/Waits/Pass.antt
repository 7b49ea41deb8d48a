-- One pass over the threads and their branches leaves the notes of who offers. Assumes nothing.
use Rattle.std.specs.Prelude.{ℕ, suc, ◌+◌, ◌<◌, ◌≡◌, Bool, ◌&&◌, List, eqb, length, get_or, replicate}
use Rattle.std.proofs.Common.{arith, add-one, ◌∙◌, ap, length-set, get_or-set_same}
use Rattle.std.proofs.Math.Path.{refl, sym}
use Rattle.std.proofs.Math.Bool.{true, false}
use Rattle.std.proofs.lemmas.List.{length-replicate}
use Rattle.std.proofs.Math.Seq.{get_or-set_other}
use borrow.Author.Tests.{lt-ltb, eqb-true, eqb-false, eq-eqb, ne_eqb}
use Rattle.numbers.specs.Laid.Laws.{zeros_at}
use Rattle.numbers.specs.Search.{some, tabulate}
use Rattle.numbers.specs.Search.Laws.{case_b, contra, get_d_tabulate, length_tabulate, tabulate_cong, some_zero, some_suc, is_tabulate}
use Rattle.table.specs.Table.{Table}
use Rattle.table.specs.Layout.{branch_count}
use Rattle.state.specs.State.{State, max_channels, thread, stands_at, slot_of, is_waiting}
use Rattle.rules.specs.Program.{branch_at, field_a, act_of, guard_holds}
use Rattle.rules.specs.Offers.{meets?, offers_in, offers_at, offers}
use Rattle.rules.specs.declared.Direction.{Direction}
use Rattle.waits.specs.Waits.{noted, note_of, offer_noted, who, who_to}

-- a thread is noted once
noted_again : (m t : ℕ) → noted (noted m t) t ≡ noted m t
unfolding noted
noted_again m t = case_b (eqb m 0)
    (λ y. rw (y, ne_eqb (suc t) 0 (λ q. omega arith), eq-eqb (suc t) (suc t) refl))
    (λ n. rw n (case_b (eqb m (suc t)) (λ y. rw (y, n, y)) (λ k. rw k (case_b (eqb 65 (suc t)) (λ z. rw z) (λ z. rw z)))))

module _ (tb : Table) (s : State) (d : Direction) (t : ℕ) where
  abbrev line : ℕ → ℕ
  line i = branch_at tb (stands_at (thread s t)) i

  abbrev channel_at : ℕ → ℕ
  channel_at i = slot_of (thread s t) (field_a tb (line i))

  -- branch i offers d on the channel that it names, and on no other
  abbrev is_open : ℕ → Bool
  is_open i = offers_in tb (thread s t) d (channel_at i) (line i)

  own_channel : (i : ℕ) → eqb (channel_at i) (channel_at i) ≡ true
  own_channel i = eq-eqb (channel_at i) (channel_at i) refl

  shut_offer : (i c : ℕ) → is_open i ≡ false → offers_at tb (thread s t) d c i ≡ false
  unfolding offers_at offers_in
  shut_offer i c e = shut (meets? (act_of tb (line i)) d) (eqb (channel_at i) c) (guard_holds tb (line i) (thread s t)) (rw (own_channel i) at e)
    where
      shut : (a b g : Bool) → (a && g) ≡ false → (a && (b && g)) ≡ false
      shut true true g e = e
      shut true false g e = refl
      shut false b g e = refl

  open_offer : (i c : ℕ) → is_open i ≡ true → offers_at tb (thread s t) d c i ≡ eqb (channel_at i) c
  unfolding offers_at offers_in
  open_offer i c e = opened (meets? (act_of tb (line i)) d) (eqb (channel_at i) c) (guard_holds tb (line i) (thread s t)) (rw (own_channel i) at e)
    where
      opened : (a b g : Bool) → (a && g) ≡ true → (a && (b && g)) ≡ b
      opened true true true e = refl
      opened true true false e = e
      opened true false g e = refl
      opened false b g e = contra e refl

  -- one branch more
  who_to_same : (i c : ℕ) → offers_at tb (thread s t) d c i ≡ false → who_to tb s d t (suc i) c ≡ who_to tb s d t i c
  unfolding who_to
  who_to_same i c e = rw (some_suc (offers_at tb (thread s t) d c) i, e) (case_b (some (offers_at tb (thread s t) d c) i) (λ y. rw y) (λ n. rw n))

  who_to_more : (i c : ℕ) → offers_at tb (thread s t) d c i ≡ true → who_to tb s d t (suc i) c ≡ noted (who_to tb s d t i c) t
  unfolding who_to
  who_to_more i c e = rw (some_suc (offers_at tb (thread s t) d c) i, e)
      (case_b (some (offers_at tb (thread s t) d c) i) (λ y. rw y (sym (noted_again (who tb s d t c) t))) (λ n. rw n))

  module _ (i : ℕ) (l : List ℕ) (e : l ≡ tabulate max_channels (who_to tb s d t i)) where
    long : length l ≡ max_channels
    long = ap length e ∙ length_tabulate 128 (who_to tb s d t i)

    entry : (c : ℕ) → c < max_channels → get_or l c 0 ≡ who_to tb s d t i c
    entry c h = ap (λ m. get_or m c 0) e ∙ get_d_tabulate 128 c (who_to tb s d t i) 0 h

    length_noted : length (offer_noted tb (thread s t) d (line i) t l) ≡ max_channels
    unfolding offer_noted
    length_noted = case_b (is_open i)
        (λ y. rw y (length-set l (channel_at i) (noted (get_or l (channel_at i) 0) t) ∙ long))
        (λ n. rw n long)

    entry_noted : (c : ℕ) → c < max_channels → get_or (offer_noted tb (thread s t) d (line i) t l) c 0 ≡ who_to tb s d t (suc i) c
    unfolding offer_noted
    entry_noted c h = case_b (is_open i)
        (λ y. rw y (case_b (eqb (channel_at i) c)
        (λ z. let q : channel_at i ≡ c = eqb-true (channel_at i) c z in
        rw q (get_or-set_same l c (noted (get_or l c 0) t) 0 (omega (arith, long)) ∙ rw (entry c h) (sym (who_to_more i c (open_offer i c y ∙ z)))))
        (λ z. get_or-set_other l (channel_at i) c (noted (get_or l (channel_at i) 0) t) 0 (λ q. eqb-false (channel_at i) c z (sym q))
        ∙ (entry c h ∙ sym (who_to_same i c (open_offer i c y ∙ z))))))
        (λ n. rw n (entry c h ∙ sym (who_to_same i c (shut_offer i c n))))

    pub branch_noted : (m : List ℕ) → m ≡ offer_noted tb (thread s t) d (line i) t l → m ≡ tabulate max_channels (who_to tb s d t (i + 1))
    branch_noted m f = rw (f, add-one i) (is_tabulate (offer_noted tb (thread s t) d (line i) t l) 128 (who_to tb s d t (suc i)) 0 length_noted entry_noted)

  -- no branch, and all branches
  pub no_branch_noted : tabulate max_channels (who tb s d t) ≡ tabulate max_channels (who_to tb s d t 0)
  unfolding who_to
  no_branch_noted = tabulate_cong 128 (who tb s d t) (who_to tb s d t 0) (λ c h. rw (some_zero (offers_at tb (thread s t) d c)))

  offers_by_branch : (c : ℕ) → c < max_channels → is_waiting (thread s t) ≡ true
      → offers tb (thread s t) d c ≡ some (offers_at tb (thread s t) d c) (branch_count tb (stands_at (thread s t)))
  unfolding offers
  offers_by_branch c h w = rw (lt-ltb c 128 h, w)

  pub branches_noted : is_waiting (thread s t) ≡ true
      → tabulate max_channels (who_to tb s d t (branch_count tb (stands_at (thread s t)))) ≡ tabulate max_channels (who tb s d (suc t))
  unfolding who_to who note_of
  branches_noted w = tabulate_cong 128 (who_to tb s d t (branch_count tb (stands_at (thread s t)))) (who tb s d (suc t)) (λ c h. rw (offers_by_branch c h w))

  -- a thread that does not wait offers nothing
  offers_nothing : (c : ℕ) → c < max_channels → is_waiting (thread s t) ≡ false → offers tb (thread s t) d c ≡ false
  unfolding offers
  offers_nothing c h w = rw (lt-ltb c 128 h, w)

  pub none_noted : is_waiting (thread s t) ≡ false → tabulate max_channels (who tb s d t) ≡ tabulate max_channels (who tb s d (suc t))
  unfolding who note_of
  none_noted w = tabulate_cong 128 (who tb s d t) (who tb s d (suc t)) (λ c h. rw (offers_nothing c h w))

-- before the first thread
pub none_yet : (tb : Table) (s : State) (d : Direction) → replicate max_channels 0 ≡ tabulate max_channels (who tb s d 0)
unfolding who note_of
none_yet tb s d = is_tabulate (replicate max_channels 0) 128 (who tb s d 0) 0 (length-replicate {A = ℕ} 128 0) (λ c h. zeros_at 128 c)

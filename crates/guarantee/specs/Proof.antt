-- The whole claim holds, of every file that loads. Assumes nothing.
use Rattle.std.specs.Prelude.{ℕ, ◌<◌, ◌≡◌, true, List, map, length, get_or, Ok}
use Rattle.std.proofs.Common.{sym, ◌∙◌}
use Rattle.table.specs.Table.{Table, table_of}
use Rattle.loader.specs.Load.{loaded, accepted}
use Rattle.loader_laws.specs.Yields.{loaded_small, loaded_accepted}
use Rattle.state.specs.State.{State, state_length, view}
use Rattle.rules.specs.Calls.{start_call}
use Rattle.rules_laws.specs.Soundness.{Sound}
use Rattle.rules_laws.specs.Soundness.Counted.{count_is, used_exactly}
use Rattle.engine_laws.specs.Buffers.{SoundBuffer, view_sound}
use Rattle.engine_laws.specs.SoundCalls.{start_done, start_sound}
use Rattle.engine_laws.specs.Lists.{Call}
use Rattle.collector.specs.Collect.{taken_count, collect_call}
use Rattle.collector_laws.specs.Linked.{waiting_linked}
use Rattle.collector_laws.specs.Out.{taken_thread, taken_sealed}
use Rattle.guarantee.specs.Claim.{Any, on, reached_by, Counted, Untouched, Linked, Guarantee}
use Rattle.guarantee.specs.ClaimKept.{collect_done, collect_view, taken_is, list_sound, list_not_ten}
use Rattle.guarantee.specs.Later.{list_rests}

-- ---- of a table that is accepted

module _ (table : List ℕ) (ok : accepted table ≡ true) (fit : (i : ℕ) → get_or table i 0 < 256) where
  module _ (state : List ℕ) (b : SoundBuffer table state) where
    abbrev tb : Table
    tb = table_of table

    abbrev s : State
    s = view state

    held : Sound tb s
    held = view_sound table state b

    counts : Counted table state
    counts c l = (count_is tb s held c l, used_exactly tb s held c l)

    apart : (later : List Call) → Untouched table state later
    apart later t k =
        let q : taken_thread tb s t ≡ true = sym (taken_is table ok fit state b t) ∙ k in
        let (y, still) = list_rests table ok fit (taken_thread tb s) s state b (taken_sealed tb s held) later in
        (still t q, y.same t q)

    links : Linked table (collect_call table state).state
    links = rw (collect_view table ok fit state b) (waiting_linked tb s)

  module _ (state : List ℕ) (long : length state ≡ state_length) where
    started : SoundBuffer table (start_call table state).state
    started = start_sound table ok fit state (start_done table ok state long)

    -- after every list of calls the buffer holds a sound state
    pub reached_sound : (ks : List Any) → SoundBuffer table (reached_by table state ks)
    reached_sound ks = list_sound table ok fit (start_call table state).state started ks

    -- a collection that follows the list is never refused
    pub collection_made : (ks : List Any)
        → (collect_call table (reached_by table state ks)).answer ≡ Ok (taken_count (table_of table) (view (reached_by table state ks)))
    collection_made ks = collect_done table ok (reached_by table state ks) (reached_sound ks)

    pub accepted_guarantee : (ks : List Any) → Guarantee table state ks
    accepted_guarantee ks = let b = reached_sound ks in record {
      starts = start_done table ok state long;
      counted = counts (reached_by table state ks) b;
      untouched = λ n e later. apart (reached_by table state ks) b later;
      linked = λ n e. links (reached_by table state ks) b;
      never_ten = list_not_ten table ok fit (start_call table state).state started ks;
      never_ten_later = λ later. list_not_ten table ok fit (reached_by table state ks) b (map on later);
    }

-- ---- the theorem: document 01's demand 3, of every file that loads, whatever the two buffers had, and of every list of calls
pub guarantee : (file t : List ℕ) → (loaded file t).answer ≡ Ok tt → (state : List ℕ) → length state ≡ state_length → (ks : List Any)
    → Guarantee (loaded file t).table state ks
guarantee file t e = accepted_guarantee (loaded file t).table (loaded_accepted file t e) (loaded_small file t e)

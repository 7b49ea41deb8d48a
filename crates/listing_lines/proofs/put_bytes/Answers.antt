use Prim.Native.Nat.{ℕ, ◌+◌, ◌-◌, ◌≤◌}
use native.Mathlib.Omega.{arith}
use mathlib.Core.Path.{◌≡◌}
use mathlib.Core.List.{List}
use borrow.Rule.Slice.PartMut.{put_mid}
use lib.ListN.{length}
use lib.Seq.{sets, sets-eq, drop-drop}
use Rattle.std.proofs.Common.{append_assoc}
use Rattle.listing_lines.proofs.put_bytes.Goals as goal

laid : (l ys bs : List ℕ) (at : ℕ) → at + length bs ≤ length l → ys ≡ bs → put_mid at (at + length bs - at) l ys ≡ sets l at bs
laid l ys bs at h e =
    let k : at + length bs - at ≡ length bs = omega arith in
    rw (e, k, sets-eq bs l at h, drop-drop (length bs) at l, append_assoc)

pub returns : goal.returns
returns c = laid _ _ _ _ c.requires c.copy_from_slice.ensures.after

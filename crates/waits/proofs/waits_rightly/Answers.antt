use mathlib.Core.Path.{refl}
use mathlib.Core.Bool.{true}
use Rattle.waits.proofs.Ways.{all_apart_lem}
use Rattle.waits.proofs.waits_rightly.Goals as goal

pub returns-in-Some : goal.returns-in-Some
returns-in-Some c =
    let told = rw c.in-Some.is at c.note_threads.ensures.value in
    let senders = rw c.in-Some.is at c.note_threads.ensures.senders in
    let receivers = rw c.in-Some.is at c.note_threads.ensures.receivers in
    all_apart_lem _ _ true c.all_apart.result _ _ told refl c.all_apart.ensures (λ e. senders) (λ e. receivers)

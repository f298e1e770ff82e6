-- Every queue that accepted calls lead to is sound.
use Rattle.std.specs.Prelude.{Bool, List, ℕ}
use Rattle.thread.specs.declared.ThreadRecord.{ThreadRecord}
use Rattle.queue.specs.RunQueue.{CpuRunQueue}
use Rattle.sound_queue.specs.Sound.{Sound}
use Rattle.sound_queue.proofs.Calls.{new_sound, changes_sound, enqueue_sound, remove_sound}
use Rattle.sound_selection.specs.Reached.{Reached}
use Rattle.sound_selection.specs.Reached as reached
use Rattle.sound_selection.specs.Selecting.{select_sound}

-- After any accepted calls from an empty queue, each for any processor, with changes of any kind to records that are
-- not queued and with records added or dropped, the queue is sound.
pub reached_sound : {queued : ℕ → Bool} {q : CpuRunQueue} {t : List ThreadRecord} → Reached queued q t
    → Sound queued q t
reached_sound (reached.new t n) = new_sound t n
reached_sound (reached.enqueued cpu queued q r t s front i p b e) =
    (enqueue_sound (reached_sound p) cpu i front r s b e).sound
reached_sound (reached.removed cpu queued q r t s i p e) = (remove_sound (reached_sound p) cpu i r s e).sound
reached_sound (reached.selected cpu queued q r t s now w v current a p e) =
    (select_sound (reached_sound p) now w current cpu a v r s e).sound
reached_sound (reached.changed queued q t s p l h) = changes_sound (reached_sound p) s l h

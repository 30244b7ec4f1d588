-- An event is taken from the queue's words: what each case stores is what taking leaves.
use Rattle.std.specs.Prelude.{ℕ, ◌+◌, ◌≤◌, ◌≡◌, true, false, List, length, get_or, set}
use Rattle.std.proofs.Common.{sym, ◌∙◌, ap, arith}
use Rattle.std.proofs.Math.Nat.{add-zero}
use borrow.Author.Tests.{ne_eqb}
use Rattle.std.proofs.Math.Seq.{get_or-set_same, get_or-set_other}
use Rattle.wire.specs.Words.{Holds, flag_of}
use Rattle.wire.proofs.WordsLaws.{holds-set, within_none, within-put, within-set}
use Rattle.mmtp.specs.declared.unit.DataUnit.{DataUnit}
use Rattle.mmtp.specs.declared.unit.Step.TheVariants.{Unit as UnitAt, Malformed, End}
use Rattle.reassembly.specs.declared.note.JoinNote.TheVariants.{AboveLimit}
use Rattle.reassembly.specs.Notes.{number_of}
use Rattle.words.specs.Channel.{read_unit}
use Rattle.queue.specs.Event.{Nothing, Note, Unit}
use Rattle.queue.specs.Waiting.{Nothing as NoUnit, One, Many, Aggregate, Queue}
use Rattle.queue.specs.Located.{whole_given}
use Rattle.queue.specs.Queue.{giving, next_unit}
use Rattle.queue.proofs.QueueLaws.{taken-note, taken-over, taken-nothing, taken-one, taken_many}
use Rattle.queue.specs.Words.{memory_at, read_packet, packet_words, read_give, give_words, read_queue, queue_words, GiveStored, CleanQueue, Gives, Takes}
use Rattle.queue.proofs.WordsLaws.{packet-same, give-same, give-put, give-clean}

-- what waits, by the number of its units
module _ (t : List ℕ) (i : ℕ) where
  pub give-none : get_or t (i + 3) 0 ≡ 0 → (read_queue t i).give ≡ NoUnit
  unfolding read_queue read_give
  give-none e = rw e

  pub give-one : get_or t (i + 3) 0 ≡ 1
      → (read_queue t i).give
      ≡ One
      (record {
        unit = read_unit t (i + 4);
        place = record { memory = memory_at (get_or t (i + 14) 0); start = get_or t (i + 15) 0; len = get_or t (i + 16) 0 };
      })
  unfolding read_queue read_give
  give-one e = rw e

  -- the aggregate whose units are being given
  abbrev pub aggregate : Aggregate
  aggregate =
      record { packet = read_packet t (i + 4); start = get_or t (i + 14) 0; end = get_or t (i + 15) 0; at = get_or t (i + 16) 0 }

  pub give_many : 2 ≤ get_or t (i + 3) 0 → (read_queue t i).give ≡ Many aggregate
  unfolding read_queue read_give
  give_many h = rw (ne_eqb (get_or t (i + 3) 0) 0 (λ e. omega arith), ne_eqb (get_or t (i + 3) 0) 1 (λ e. omega arith))

-- one word is stored: the note or note 64 is given, or the next unit's place goes on
module _ (t : List ℕ) (i : ℕ) (l : i + 17 ≤ length t) where
  other : (k v j : ℕ) → (j ≡ k → ⊥) → get_or (set t (i + k) v) (i + j) 0 ≡ get_or t (i + j) 0
  other k v j d = get_or-set_other t (i + k) (i + j) v 0 (λ e. d (omega arith))

  pub note-put : let q = read_queue t i in
      read_queue (set t i 0) i ≡ record { note = 0; over = q.over; packet_id = q.packet_id; give = q.give }
  unfolding read_queue
  note-put =
      let z : i + 0 ≡ i = add-zero i in
      rw (
        get_or-set_same t i 0 0 (omega arith),
        rw z at (other 0 0 1 (λ e. omega arith)),
        rw z at (other 0 0 2 (λ e. omega arith)),
        rw z at (other 0 0 3 (λ e. omega arith)),
        give-same (set t i 0) i t i (get_or t (i + 3) 0) (λ j g h. rw z at (other 0 0 j (λ e. omega arith))),
      )

  pub over-put : let q = read_queue t i in
      read_queue (set t (i + 1) 0) i ≡ record { note = q.note; over = false; packet_id = q.packet_id; give = q.give }
  unfolding read_queue flag_of
  over-put =
      rw (
        get_or-set_other t (i + 1) i 0 0 (λ e. omega arith),
        get_or-set_same t (i + 1) 0 0 (omega arith),
        other 1 0 2 (λ e. omega arith),
        other 1 0 3 (λ e. omega arith),
        give-same (set t (i + 1) 0) i t i (get_or t (i + 3) 0) (λ j g h. other 1 0 j (λ e. omega arith)),
      )

  -- the aggregate with its next unit at v
  abbrev pub aggregate_at : ℕ → Aggregate
  aggregate_at v = record { packet = read_packet t (i + 4); start = get_or t (i + 14) 0; end = get_or t (i + 15) 0; at = v }

  at_many : (v : ℕ) → 2 ≤ get_or t (i + 3) 0 → read_give (get_or t (i + 3) 0) (set t (i + 16) v) i ≡ Many (aggregate_at v)
  unfolding read_give
  at_many v h =
      rw (
        ne_eqb (get_or t (i + 3) 0) 0 (λ e. omega arith),
        ne_eqb (get_or t (i + 3) 0) 1 (λ e. omega arith),
        packet-same (set t (i + 16) v) (i + 4) t (i + 4)
            (λ j g. get_or-set_other t (i + 16) (i + 4 + j) v 0 (λ e. omega arith)),
        other 16 v 14 (λ e. omega arith),
        other 16 v 15 (λ e. omega arith),
        get_or-set_same t (i + 16) v 0 (omega arith),
      )

  pub at-put : (v : ℕ) → 2 ≤ get_or t (i + 3) 0 → read_queue (set t (i + 16) v) i ≡ giving (read_queue t i) (Many (aggregate_at v))
  unfolding read_queue
  at-put v h =
      rw (
        get_or-set_other t (i + 16) i v 0 (λ e. omega arith),
        other 16 v 1 (λ e. omega arith),
        other 16 v 2 (λ e. omega arith),
        other 16 v 3 (λ e. omega arith),
        at_many v h,
      )

  -- its words stay just its own
  note_words : (q : Queue) → Holds t i 17 (queue_words q)
      → Holds (set t i 0) i 17 (queue_words (record { note = 0; over = q.over; packet_id = q.packet_id; give = q.give }))
  unfolding queue_words
  note_words q h = rw (add-zero i) at (holds-set t i 17 (queue_words q) 0 0 (omega arith) (omega arith) h)

  pub note-clean : CleanQueue t i → CleanQueue (set t i 0) i
  note-clean h = rw note-put (note_words (read_queue t i) h)

  over_words : (q : Queue) → Holds t i 17 (queue_words q)
      → Holds (set t (i + 1) 0) i 17 (queue_words (record { note = q.note; over = false; packet_id = q.packet_id; give = q.give }))
  unfolding queue_words
  over_words q h = holds-set t i 17 (queue_words q) 1 0 (omega arith) (omega arith) h

  pub over-clean : CleanQueue t i → CleanQueue (set t (i + 1) 0) i
  over-clean h = rw over-put (over_words (read_queue t i) h)

  at_words : (q : Queue) (v : ℕ) → Holds t i 17 (queue_words (giving q (Many (aggregate_at (get_or t (i + 16) 0)))))
      → Holds (set t (i + 16) v) i 17 (queue_words (giving q (Many (aggregate_at v))))
  unfolding queue_words give_words packet_words
  at_words q v h =
      holds-set t i 17 (queue_words (giving q (Many (aggregate_at (get_or t (i + 16) 0))))) 16 v (omega arith) (omega arith) h

  pub at-clean : (v : ℕ) → 2 ≤ get_or t (i + 3) 0 → CleanQueue t i → CleanQueue (set t (i + 16) v) i
  at-clean v m h =
      let e : read_queue t i ≡ giving (read_queue t i) (Many (aggregate t i)) = ap (giving (read_queue t i)) (give_many t i m) in
      rw (at-put v m) (at_words (read_queue t i) v (rw e at h))

-- a queue past note 64, with a note
abbrev with_note : Queue → ℕ → Queue
with_note q n = record { note = n; over = false; packet_id = q.packet_id; give = q.give }

module _ (t : List ℕ) (i : ℕ) (p : List ℕ) where
  pub takes_note : i + 17 ≤ length t → ((read_queue t i).note ≡ 0 → ⊥)
      → Takes t i p (Note (read_queue t i).note (read_queue t i).packet_id) (set t i 0)
  takes_note l h =
      record {
        taken = rw (note-put t i l) (sym (taken-note (read_queue t i) p h));
        within = rw (add-zero i) at (within-set t i 17 0 0 (omega arith));
        clean = note-clean t i l;
      }

  pub takes_over : i + 17 ≤ length t → (read_queue t i).note ≡ 0 → (read_queue t i).over ≡ true
      → Takes t i p (Note (number_of AboveLimit) (read_queue t i).packet_id) (set t (i + 1) 0)
  takes_over l n o =
      record {
        taken =
            let e : read_queue (set t (i + 1) 0) i ≡ with_note (read_queue t i) 0 =
            over-put t i l ∙ ap (with_note (read_queue t i)) n in
            rw e (sym (taken-over (read_queue t i) p n o));
        within = within-set t i 17 1 0 (omega arith);
        clean = over-clean t i l;
      }

  pub takes_nothing : Gives t i 0 → Takes t i p Nothing t
  takes_nothing g =
      record {
        taken = sym (taken-nothing (read_queue t i) p g.note g.over (give-none t i g.units));
        within = within_none t i 17;
        clean = λ h. h;
      }

  pub takes_one : (u : List ℕ) → Gives t i 1 → GiveStored t u i NoUnit
      → Takes t i p
      (Unit
      (record {
        unit = read_unit t (i + 4);
        place = record { memory = memory_at (get_or t (i + 14) 0); start = get_or t (i + 15) 0; len = get_or t (i + 16) 0 };
      }))
      u
  takes_one u g s =
      record {
        taken = rw (give-put t u i NoUnit s) (sym (taken-one (read_queue t i) p g.note g.over _ (give-one t i g.units)));
        within = within-put t u i 17 (i + 3) 14 (give_words NoUnit) (omega arith) (omega arith) s.put;
        clean = give-clean t u i NoUnit s;
      }

  -- an aggregate: a unit, and no unit more
  pub takes_unit : (u : DataUnit) → Gives t i 2 → next_unit (aggregate t i) p ≡ UnitAt u
      → Takes t i p
      (Unit (whole_given (record { packet = read_packet t (i + 4); start = get_or t (i + 14) 0; end = get_or t (i + 15) 0 }) u))
      (set t (i + 16) u.end)
  takes_unit u g e =
      record {
        taken =
            rw (at-put t i g.room u.end g.units)
            (sym (taken_many (read_queue t i) p g.note g.over (aggregate t i) (give_many t i g.units) (UnitAt u) e));
        within = within-set t i 17 16 u.end (omega arith);
        clean = at-clean t i g.room u.end g.units;
      }

  pub takes_malformed : (u : List ℕ) → Gives t i 2 → next_unit (aggregate t i) p ≡ Malformed → GiveStored t u i NoUnit
      → Takes t i p Nothing u
  takes_malformed u g e s =
      record {
        taken =
            rw (give-put t u i NoUnit s)
            (sym (taken_many (read_queue t i) p g.note g.over (aggregate t i) (give_many t i g.units) Malformed e));
        within = within-put t u i 17 (i + 3) 14 (give_words NoUnit) (omega arith) (omega arith) s.put;
        clean = give-clean t u i NoUnit s;
      }

  pub takes_end : (u : List ℕ) → Gives t i 2 → next_unit (aggregate t i) p ≡ End → GiveStored t u i NoUnit → Takes t i p Nothing u
  takes_end u g e s =
      record {
        taken =
            rw (give-put t u i NoUnit s)
            (sym (taken_many (read_queue t i) p g.note g.over (aggregate t i) (give_many t i g.units) End e));
        within = within-put t u i 17 (i + 3) 14 (give_words NoUnit) (omega arith) (omega arith) s.put;
        clean = give-clean t u i NoUnit s;
      }

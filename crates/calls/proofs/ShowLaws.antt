-- Laws of specs/Show.antt.
use Rattle.std.specs.Prelude.{ℕ, ◌<◌, ◌≤◌, ◌≡◌, List, length}
use Rattle.std.proofs.Common.{lt-ltb, le-ltb}
use Rattle.wire.specs.Memory.{pasted, part_of}
use Rattle.queue.specs.declared.event.Memory.TheVariants.{Packet, Collecting}
use Rattle.queue.specs.declared.event.Place.{Place}
use Rattle.receiver.specs.Show.{show_of}
use Rattle.calls.specs.Record.{record_words, read_place}
use Rattle.calls.specs.Show.{copied, show_call}

-- Laws.
module _ (b out : List ℕ) (len : ℕ) where
  pub copied-short : length out < length b → copied b out len ≡ (93, len, out)
  unfolding copied
  copied-short h = rw (lt-ltb _ _ h)

  pub copied-whole : length b ≤ length out → copied b out len ≡ (0, length b, pasted out 0 b (length b))
  unfolding copied
  copied-whole h = rw (le-ltb _ _ h)

module _ (p c t out : List ℕ) (len : ℕ) where
  pub show-few : length t < record_words → show_call p c t out len ≡ (92, len, out)
  unfolding show_call
  show-few h = rw (lt-ltb _ _ h)

  -- by the memory that the place is in
  module _ (h : record_words ≤ length t) (x : Place) (e : x ≡ read_place t 0) where
    pub show-packet : x.memory ≡ Packet → show_call p c t out len ≡ copied (part_of p x.start x.len) out len
    unfolding show_call show_of
    show-packet m = rw (le-ltb _ _ h, ← e, m)

    pub show-collecting : x.memory ≡ Collecting → show_call p c t out len ≡ copied (part_of c x.start x.len) out len
    unfolding show_call show_of
    show-collecting m = rw (le-ltb _ _ h, ← e, m)

  pub show-long : record_words ≤ length t → show_call p c t out len ≡ copied (show_of p c (read_place t 0)) out len
  unfolding show_call
  show-long h = rw (le-ltb _ _ h)

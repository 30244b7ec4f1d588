-- Where reading on comes to nothing, next is owed no more.
use Rattle.std.specs.Prelude.{◌≡◌, ℕ, zero, suc, ◌<◌, Bool, true, false, List, drop, ◌==◌, Option, Some, None}
use Rattle.std.proofs.Math.Path.{refl}
use Rattle.std.proofs.Common.{sym, ◌∙◌, true≢false, arith}
use Rattle.wire.specs.Memory.{part_of}
use Rattle.tlv.specs.Packet.{packet_at, too_long}
use Rattle.intake.specs.declared.held.Cursor.{Cursor}
use Rattle.wire.proofs.Choice.{by_test}
use Rattle.queue.specs.Event.{Event as AnEvent}
use Rattle.queue.specs.Event.{Nothing, Note, Unit, Refused}
use Rattle.queue.specs.Waiting.{Queue}
use Rattle.delivery.specs.Found.{Found}
use Rattle.delivery.specs.Found.{Event, Packet, Tail, Done}
use Rattle.delivery.specs.Found.{Advanced}
use Rattle.queue.specs.Queue.{event_taken}
use Rattle.delivery.specs.Cursor.{left, is_event, advanced_by, advanced_of, slot_advanced, tail_advanced, turn_by, turn_of}
use Rattle.delivery.proofs.CursorLaws.{turn-less}
use Rattle.state.specs.State.{State}
use Rattle.receiver.specs.Next.{NextOut, past, onwards, packet_of, read_on, read_all}
use Rattle.receiver.proofs.ReadOnLaws.{packet-kept}

-- an event that is found is not Nothing
abbrev some : Found → Bool
some (Event e) = is_event e
some (Packet start end) = true
some (Tail start len) = true
some Done = true

abbrev Gives : Advanced → Type 0
Gives a = some a.found ≡ true

module _ (q : Queue) (cur : Cursor) (p : List ℕ) where
  slot-some : Gives (slot_advanced cur p)
  unfolding slot_advanced tail_advanced
  slot-some = go (packet_at s cur.at)
    where
      s : List ℕ
      s = part_of p 0 cur.end

      go : (n : Option ℕ) → Gives (advanced_by n cur s)
      go (Some e) = refl
      go None = by_test (λ (f : Found). some f ≡ true) (too_long (drop cur.at s)) _ _ (λ e. refl) (λ e. refl)

  advanced_some : Gives (advanced_of cur p)
  unfolding advanced_of
  advanced_some =
      by_test Gives (cur.note == 0) _ _
      (λ e. by_test Gives (cur.packet == 0) _ _ (λ f. by_test Gives cur.reading _ _ (λ g. slot-some) (λ g. refl)) (λ f. refl))
      (λ e. refl)

  turn-some : some (turn_of q cur p).found ≡ true
  unfolding turn_of
  turn-some = go (event_taken q p).event
    where
      go : (e : AnEvent) → some (turn_by e (event_taken q p).queue cur p).found ≡ true
      go Nothing = advanced_some
      go (Note n id) = refl
      go (Unit g) = refl
      go (Refused n) = refl

module _ (p : List ℕ) where
  abbrev Paid : NextOut → Type 0
  Paid o = is_event o.0.event ≡ false → o.0.state.owed ≡ false

  onwards-paid : (st : State) (c : List ℕ) (f : State → List ℕ → NextOut) (x : Found) → (turn_of st.queue st.cursor p).found ≡ x
      → ((s : State) (d : List ℕ) → left s.cursor < left st.cursor → Paid (f s d))
      → Paid (onwards x (past st (turn_of st.queue st.cursor p)) p c f)
  onwards-paid st c f (Event e) h k =
      let i : is_event e ≡ true = rw h at (turn-some st.queue st.cursor p) in
      λ g. absurd (true≢false (sym i ∙ g))
  onwards-paid st c f (Packet start end) h k =
      let s = past st (turn_of st.queue st.cursor p) in
      let r = packet_of s p c start end in
      k r.0 r.1 (rw (packet-kept s p c start end).cursor (turn-less st.queue st.cursor p (rw h refl)))
  onwards-paid st c f (Tail start len) h k = k _ c (turn-less st.queue st.cursor p (rw h refl))
  onwards-paid st c f Done h k = λ g. refl

  read-on-paid : (f : ℕ) (st : State) (c : List ℕ) → left st.cursor < f → Paid (read_on f st p c)
  unfolding read_on
  read-on-paid zero st c h = absurd (omega arith)
  read-on-paid (suc f) st c h =
      onwards-paid st c (λ s d. read_on f s p d) _ refl (λ s d l. read-on-paid f s d (omega arith))

  pub read-paid : (st : State) (c : List ℕ) → (read_all st p c).0.event ≡ Nothing → (read_all st p c).0.state.owed ≡ false
  unfolding read_all
  read-paid st c e = read-on-paid (suc (left st.cursor)) st c (omega arith) (rw e refl)

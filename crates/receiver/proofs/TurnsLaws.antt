-- Laws of specs/Turns.antt.
use Rattle.std.specs.Prelude.{ℕ, ◌<◌, ◌≡◌, refl, true, false, List, length, get_or, set}
use Rattle.std.proofs.Common.{sym, ◌∙◌, inl, arith}
use Rattle.std.proofs.Math.Path.{ap}
use Rattle.wire.specs.Words.{Put, flag_of}
use Rattle.words.specs.Config.{KeptConfig}
use Rattle.reassembly.specs.Channel.{unheard}
use Rattle.words.specs.Channel.{read_channel}
use Rattle.intake.specs.Slot.{holding}
use Rattle.words.specs.Cursor.{held_words, read_cursor}
use Rattle.words.proofs.CursorLaws.{cursor-same}
use Rattle.queue.specs.Event.{Event as AnEvent}
use Rattle.queue.specs.Event.{Nothing}
use Rattle.delivery.specs.Found.{Found}
use Rattle.delivery.specs.Found.{Event, Packet, Tail, Done}
use Rattle.delivery.specs.Packet.{JoinedPacket, arrived_at, place_of, received_of}
use Rattle.delivery.specs.Cursor.{advanced_of, is_event, left}
use Rattle.delivery.proofs.CursorLaws.{turn-event, turn_on, goes_on, turn-less}
use Rattle.queue.specs.Queue.{event_taken}
use Rattle.queue.specs.Words.{read_queue, Takes}
use Rattle.delivery.specs.Words.{channel_place, Receives}
use Rattle.state.specs.State.{State, with_owed, with_slot, with_queue, with_channels}
use Rattle.state.specs.Words.{state_in, Moves}
use Rattle.receiver.specs.Next.{answered, read_all}
use Rattle.receiver.proofs.ReadOnLaws.{read-event, read-received, read-tail, read_done}
use Rattle.state.proofs.LentLaws.{kept_words, state-held, state-cursor, state-queue, state-owed, state-packet, packet-comes, cursor_in, queue_in}
use Rattle.receiver.specs.Turns.{turn_in, Turned}

-- the queue gives an event, or the cursor comes to something
module _ (t u p : List ℕ) (r : AnEvent) (k : Takes t 30 p r u) where
  taken-from : event_taken (state_in t).queue p ≡ record { event = r; queue = read_queue u 30 }
  taken-from = rw (queue_in t) (sym k.taken)

  queue-past : state_in u ≡ with_queue (state_in t) (read_queue u 30)
  queue-past = state-queue t u (read_queue u 30) k.within refl

  pub turned-event : is_event r ≡ true → Turned t p (Event r) u
  turned-event h =
      let turn : turn_in t p ≡ record { found = Event r; queue = read_queue u 30; cursor = (state_in t).cursor } =
      turn-event (state_in t).queue (state_in t).cursor p (rw taken-from h) ∙ rw taken-from in
      record { found = rw turn; past = rw turn queue-past }

  pub turned_on : (v : List ℕ) (f : Found) → is_event r ≡ false → Moves u p f v → Turned t p f v
  turned_on v f h m =
      let same : read_cursor u 25 ≡ (state_in t).cursor =
      cursor-same u 25 t 25 (kept_words t u 30 17 k.within 25 5 (inl (omega arith))) ∙ sym (cursor_in t) in
      let moved : advanced_of (state_in t).cursor p ≡ record { found = f; cursor = read_cursor v 25 } = rw same at (sym m.moved) in
      let turn : turn_in t p ≡ record { found = f; queue = read_queue u 30; cursor = read_cursor v 25 } =
      turn_on (state_in t).queue (state_in t).cursor p (rw taken-from h) ∙ rw (taken-from, moved) in
      record {
        found = rw turn;
        past =
            rw turn
            (state-cursor u v (read_cursor v 25) m.within refl
            ∙ ap (λ (s : State). with_slot s s.held (read_cursor v 25)) queue-past);
      }

-- the cursor has less left, where reading goes on
pub turned-less : (t p : List ℕ) (f : Found) (v : List ℕ) → Turned t p f v → goes_on f ≡ true
    → left (state_in v).cursor < left (state_in t).cursor
turned-less t p f v x g = rw x.past (turn-less (state_in t).queue (state_in t).cursor p (rw x.found g))

pub turned-config : (t p : List ℕ) (f : Found) (v : List ℕ) → Turned t p f v → (state_in v).config ≡ (state_in t).config
turned-config t p f v x = ap (λ (s : State). s.config) x.past

-- what is left to read
module _ (t v p c : List ℕ) where
  pub reads-event : (e : AnEvent) → Turned t p (Event e) v → read_all (state_in t) p c ≡ answered e (state_in v) c
  reads-event e x = read-event (state_in t) p c e x.found ∙ ap (λ (s : State). answered e s c) (sym x.past)

  pub reads-tail : (start len : ℕ) (w : List ℕ) → Turned t p (Tail start len) v → Put v w 22 3 (held_words (holding start len))
      → read_all (state_in t) p c ≡ read_all (state_in w) p c
  reads-tail start len w x q =
      read-tail (state_in t) p c start len x.found
      ∙ ap (λ (s : State). read_all s p c)
      (sym (state-held v w (holding start len) q ∙ ap (λ (s : State). with_slot s (holding start len) s.cursor) x.past))

  pub reads-done : Turned t p Done v → 21 < length v → read_all (state_in t) p c ≡ answered Nothing (state_in (set v 21 0)) c
  unfolding flag_of
  reads-done x h =
      read_done (state_in t) p c x.found
      ∙ ap (λ (s : State). answered Nothing s c) (sym (state-owed v 0 h ∙ ap (λ (s : State). with_owed s false) x.past))

  pub reads-packet : (start end : ℕ) (w d : List ℕ) (g : KeptConfig) → Turned t p (Packet start end) v → (state_in t).config ≡ g
      → Receives g v 30 47 p c start end w d → read_all (state_in t) p c ≡ read_all (state_in w) p d
  reads-packet start end w d g x e q =
      let st = state_in t in
      let r : Receives st.config v 30 47 p c start end w d = rw e q in
      let a = arrived_at st.config p start end in
      let j : JoinedPacket = record { channel = read_channel w (channel_place 47 (place_of a)); queue = read_queue w 30 } in
      let comes : (j, d) ≡ received_of a (get_or st.channels (place_of a) unheard) (turn_in t p).queue p c st.config.rules =
      rw x.past at (packet-comes st.config v p c start end w d r) in
      read-received st p c start end a j d x.found refl comes
      ∙ ap (λ (s : State). read_all s p d)
      (sym
      (state-packet st.config v p c start end w d r
      ∙ ap (λ (s : State). with_queue (with_channels s (set s.channels (place_of a) j.channel)) j.queue) x.past))

-- Laws of specs/Next.antt.
use Rattle.std.specs.Prelude.{ℕ, ◌*◌, ◌≤◌, ◌≡◌, true, false, List, length, get_or, set, ltb}
use Rattle.std.proofs.Common.{◌∙◌, ltb-false}
use Rattle.std.proofs.Math.Path.{ap}
use Rattle.wire.proofs.Choice.{chosen, chosen-not, neither}
use Rattle.words.specs.Config.{KeptConfig}
use Rattle.reassembly.specs.Channel.{unheard}
use Rattle.queue.specs.Event.{Nothing, Refused}
use Rattle.state.specs.State.{State, with_queue, with_channels}
use Rattle.queue.specs.declared.located.Located.{Located}
use Rattle.delivery.specs.Arrived.{Arrived, Silent, Noted, Good}
use Rattle.mmtp.specs.declared.note.PacketNote.{PacketNote}
use Rattle.intake.specs.Slot.{packet_memory}
use Rattle.frames.specs.Slot.{short_by}
use Rattle.delivery.specs.Packet.{note_queue, arrived_at, joined_of}
use Rattle.receiver.specs.Next.{answered, arrived_by, packet_of, read_all, next_of}

-- Laws.
-- what a packet leaves, case by case
module _ (st : State) (p c : List ℕ) (start end : ℕ) where
  pub packet-silent : arrived_at st.config p start end ≡ Silent → packet_of st p c start end ≡ (st, c)
  unfolding packet_of
  packet-silent e = ap (λ (a : Arrived). arrived_by a st p c) e

  pub packet-noted : (n : PacketNote) (id : ℕ) → arrived_at st.config p start end ≡ Noted n id
      → packet_of st p c start end ≡ (with_queue st (note_queue n id), c)
  unfolding packet_of
  packet-noted n id e = ap (λ (a : Arrived). arrived_by a st p c) e

  pub packet-good : (l : Located) → arrived_at st.config p start end ≡ Good l
      → let k = l.packet.place in
      let j = joined_of (get_or st.channels k unheard) l p c st.config.rules in
      packet_of st p c start end ≡ (with_queue (with_channels st (set st.channels k j.0.channel)) j.0.queue, j.1)
  unfolding packet_of
  packet-good l e = ap (λ (a : Arrived). arrived_by a st p c) e

-- next, case by case
module _ (st : State) (p c : List ℕ) where
  pub next-short : short_by st.config (length p) (length c) ≡ true → next_of st p c ≡ answered (Refused 22) st c
  unfolding next_of
  next-short h = chosen (short_by st.config (length p) (length c)) _ _ h

  pub next-idle : short_by st.config (length p) (length c) ≡ false → st.owed ≡ false → next_of st p c ≡ answered Nothing st c
  unfolding next_of
  next-idle h o = chosen-not (short_by st.config (length p) (length c)) _ _ h ∙ chosen-not st.owed _ _ o

  pub next-reads : short_by st.config (length p) (length c) ≡ false → st.owed ≡ true → next_of st p c ≡ read_all st p c
  unfolding next_of
  next-reads h o = chosen-not (short_by st.config (length p) (length c)) _ _ h ∙ chosen st.owed _ _ o

pub short-room : (c : KeptConfig) (packet collecting : ℕ) → short_by c packet collecting ≡ false → c.watch.n * c.rules.limit ≤ collecting
unfolding short_by
short-room c packet collecting h = ltb-false collecting (c.watch.n * c.rules.limit) (neither (ltb packet packet_memory) _ h).1

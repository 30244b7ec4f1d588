-- Laws of specs/Packet.antt.
use Rattle.std.specs.Prelude.{ℕ, ◌+◌, ◌-◌, ◌≡◌, refl, List, drop, Option}
use Rattle.std.proofs.Common.{ap}
use Rattle.wire.specs.Memory.{part_of}
use Rattle.mmtp.specs.Flow.{Flow, Silent as OtherFlow, Noted as NotedFlow, Mmtp, flow_of}
use Rattle.mmtp.specs.declared.note.PacketNote.{PacketNote}
use Rattle.mmtp.specs.Packet.{reading_of}
use Rattle.mmtp.proofs.PacketLaws.{reading-same}
use Rattle.reassembly.specs.declared.config.Rules.{Rules}
use Rattle.reassembly.specs.declared.channel.Channel.{Channel}
use Rattle.reassembly.specs.Joined.{Joined}
use Rattle.queue.specs.declared.located.Located.{Located}
use Rattle.delivery.specs.Arrived.{Silent, Noted}
use Rattle.delivery.specs.Packet.{read_by, flow_by, comes_to, bytes_at, base_of, unit_in, step_of, joined_by, joined_of}

-- Laws.
-- a TLV packet, by its flow
module _ (cid : ℕ) (look : ℕ → Option ℕ) (p : List ℕ) (start end : ℕ) where
  pub arrived-silent : flow_of (part_of p start (end - start)) cid ≡ OtherFlow → comes_to cid look p start end ≡ Silent
  unfolding comes_to
  arrived-silent e = rw e

  pub arrived-noted : (n : PacketNote) → flow_of (part_of p start (end - start)) cid ≡ NotedFlow n → comes_to cid look p start end ≡ Noted n 0
  unfolding comes_to
  arrived-noted n e = rw e

  pub arrived_mmtp : (n : ℕ) → flow_of (part_of p start (end - start)) cid ≡ Mmtp n
      → comes_to cid look p start end ≡ read_by (reading_of (drop n (part_of p start (end - start))) look) (start + n) end
  unfolding comes_to
  arrived_mmtp n e = rw e

-- two searches that answer alike
pub arrived-same : (cid : ℕ) (look other : ℕ → Option ℕ) (p : List ℕ) (start end : ℕ) → ((id : ℕ) → look id ≡ other id)
    → comes_to cid look p start end ≡ comes_to cid other p start end
unfolding comes_to
arrived-same cid look other p start end e = go (flow_of (part_of p start (end - start)) cid)
  where
    go : (f : Flow) → flow_by f look (part_of p start (end - start)) start end ≡ flow_by f other (part_of p start (end - start)) start end
    go OtherFlow = refl
    go (NotedFlow n) = refl
    go (Mmtp n) = rw (reading-same (drop n (part_of p start (end - start))) look other e)

-- a packet is joined by its step
pub joined_by_lem : (ch : Channel) (l : Located) (p c : List ℕ) (rules : Rules) (j : Joined) → step_of ch l p rules ≡ j
    → joined_of ch l p c rules ≡ joined_by j l (bytes_at l p) (unit_in l p) c (base_of l rules.limit)
unfolding joined_of
joined_by_lem ch l p c rules j e = ap (λ (x : Joined). joined_by x l (bytes_at l p) (unit_in l p) c (base_of l rules.limit)) e

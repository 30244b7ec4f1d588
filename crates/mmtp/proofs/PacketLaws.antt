-- Laws of specs/Packet.antt.
use Rattle.std.specs.Prelude.{ℕ, List, Option, Some, None}
use Rattle.std.proofs.Math.Path.{◌≡◌, refl, sym, ap}
use Rattle.std.proofs.Common.{◌∙◌, arith}
use Rattle.mmtp.specs.declared.header.Header.{Header}
use Rattle.mmtp.specs.declared.packet.Packet.{Packet}
use Rattle.mmtp.specs.Packet.{Silent, Noted, Good, body_read, looked_up, head_read, reading_of, Watched}
use Rattle.mmtp.specs.declared.note.PacketNote.TheVariants.{BadHeader}
use Rattle.mmtp.specs.Header.{header_of}
use Rattle.mmtp.specs.declared.payload.Payload.{Payload}
use Rattle.mmtp.specs.Payload.{payload_of}

module _ (m : List ℕ) (look : ℕ → Option ℕ) where
  pub bad-header : header_of m ≡ None → reading_of m look ≡ Noted BadHeader 0
  unfolding reading_of head_read
  bad-header e = rw e

  module _ (h : Header) (e : header_of m ≡ Some h) where
    good-header : reading_of m look ≡ looked_up (look h.packet_id) m h
    unfolding reading_of head_read
    good-header = rw e

    pub unwatched : look h.packet_id ≡ None → reading_of m look ≡ Silent
    unfolding looked_up
    unwatched n = good-header ∙ rw n

    pub watched : (k : ℕ) → look h.packet_id ≡ Some k
        → reading_of m look ≡ body_read k h (payload_of m h.start h.payload_type)
    unfolding looked_up
    watched k l = good-header ∙ rw l

  from-body : (p : Packet) (h : Header) (k : ℕ) (b : Option Payload) → header_of m ≡ Some h → look h.packet_id ≡ Some k
      → payload_of m h.start h.payload_type ≡ b → body_read k h b ≡ Good p → (Watched m look) p
  unfolding body_read
  from-body p h k None e l b q = let z : ◌≡◌ {A = ℕ} 0 1 = cc in absurd (omega arith)
  from-body p h k (Some y) e l b q =
      let r : record { place = k; packet_id = h.packet_id; psn = h.psn; payload = y } ≡ p = cc in
      record {
        head = h;
        heads = e;
        looks = l ∙ ap (λ (x : Packet). Some x.place) r;
        reads = b ∙ ap (λ (x : Packet). Some x.payload) r;
        id = sym (ap (λ (x : Packet). x.packet_id) r);
        psn = sym (ap (λ (x : Packet). x.psn) r);
      }

  from_lookup : (p : Packet) (h : Header) (f : Option ℕ) → header_of m ≡ Some h → look h.packet_id ≡ f
      → looked_up f m h ≡ Good p → (Watched m look) p
  unfolding looked_up
  from_lookup p h None e l q = let z : ◌≡◌ {A = ℕ} 0 1 = cc in absurd (omega arith)
  from_lookup p h (Some k) e l q = from-body p h k (payload_of m h.start h.payload_type) e l refl q

  from-header : (p : Packet) (r : Option Header) → header_of m ≡ r → head_read r m look ≡ Good p → (Watched m look) p
  unfolding head_read
  from-header p None e q = let z : ◌≡◌ {A = ℕ} 0 1 = cc in absurd (omega arith)
  from-header p (Some h) e q = from_lookup p h (look h.packet_id) e refl q

  pub packet-is : (p : Packet) → reading_of m look ≡ Good p → (Watched m look) p
  unfolding reading_of
  packet-is p q = from-header p (header_of m) refl q

  -- its place is what the search finds
  pub packet-place : (p : Packet) → reading_of m look ≡ Good p → look p.packet_id ≡ Some p.place
  packet-place p q = let d = packet-is p q in ap look d.id ∙ d.looks

-- two searches that answer alike read alike
pub reading-same : (m : List ℕ) (look other : ℕ → Option ℕ) → ((id : ℕ) → look id ≡ other id) → reading_of m look ≡ reading_of m other
unfolding reading_of head_read
reading-same m look other e = go (header_of m)
  where
    go : (r : Option Header) → head_read r m look ≡ head_read r m other
    go None = refl
    go (Some h) = rw (e h.packet_id)

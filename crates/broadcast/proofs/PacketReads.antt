-- One packet over the memories stands for one packet of the account.
use Prim.Native.Nat.{ℕ, ◌+◌, ◌-◌, ◌*◌, ◌≤◌, ◌<◌}
use mathlib.Core.Path.{◌≡◌, refl, sym, ◌∙◌, ap, subst}
use mathlib.Core.Bool.{Bool, true, false, cond}
use mathlib.Core.List.{List, [], ◌∷◌, ◌++◌, map}
use native.Mathlib.Omega.{arith}
use borrow.Author.Tests.{eqb-true, eqb-false}
use lib.Dec.{eqb}
use lib.ListN.{length, get_or, set, drop, length-set}
use lib.Seq.{get_or-set_same, get_or-set_other}
use Rattle.wire.specs.Memory.{part_of}
use Rattle.mmtp.specs.Flow.{Flow, Silent as OtherFlow, Noted as NotedFlow, Mmtp, flow_of}
use Rattle.mmtp.specs.Packet.{Reading, Silent as Unwatched, Noted as NotedPacket, Good as GoodPacket, reading_of}
use Rattle.watch.specs.Given.{lookup_of}
use Rattle.watch.proofs.GivenLaws.{lookup_at}
use Rattle.mmtp.specs.Notes as packet
use Rattle.mmtp.proofs.NotesLaws.{not_none}
use Rattle.mmtp.proofs.FlowLaws.{mmtp_place}
use Rattle.mmtp.proofs.PacketLaws.{packet-is, packet-place}
use Rattle.mmtp.specs.Payload.{units_fit, pieces_of}
use Rattle.mmtp.proofs.PayloadLaws.{payload_read}
use Rattle.reassembly.specs.declared.config.Rules.{Rules}
use Rattle.reassembly.specs.declared.channel.Channel.{Channel}
use Rattle.reassembly.specs.declared.config.Config.{Config}
use Rattle.reassembly.specs.Joined.{Joined}
use Rattle.reassembly.specs.Channel.{unheard}
use Rattle.reassembly.specs.declared.note.JoinNote.TheVariants.{AboveLimit}
use Rattle.reassembly.specs.Notes.{number_of}
use Rattle.reassembly.specs.Join.{notes_of}
use Rattle.reassembly.specs.Run.{Input, Event, note as account-note, Lane, lane_after, events_of, step, with_lane}
use Rattle.queue.specs.declared.located.Located.{Located}
use Rattle.delivery.specs.Arrived.{Arrived, Good}
use Rattle.queue.specs.Waiting.{Queue}
use Rattle.words.specs.Config.{KeptConfig}
use Rattle.state.specs.State.{State, with_queue, with_channels}
use Rattle.state.proofs.WatchingLaws.{watch-given}
use Rattle.queue.specs.Queue.{empty}
use Rattle.delivery.specs.Packet.{bytes_at, unit_in, base_of, step_of, queue_of, joined_of, comes_to, arrived_at, read_by, flow_by}
use Rattle.delivery.proofs.PacketLaws.{arrived-same}
use Rattle.receiver.specs.Next.{arrived_by, packet_of}
use Rattle.broadcast.specs.Account.{
  After,
  input,
  input_from,
  read_of,
  after_read,
  read_by as accountRead,
  flow_by as accountFlow,
}
use Rattle.broadcast.specs.Drains.{Shown, note, strip, LaneIs}
use Rattle.broadcast.specs.Pending.{queue_pending}
use Rattle.broadcast.specs.PacketClaims.{QueueEmpty, QueueGood, LanesAre, Stands, PacketDoes}
use Rattle.broadcast.proofs.JoinCases.{joins}
use Rattle.broadcast.proofs.JoinStands.{collects, Does, does}
use Rattle.broadcast.proofs.PacketInput.{input_at, input-at}
use Rattle.broadcast.proofs.Parts.{part-from, length_part, regions}

-- the empty queue
pub empty_pending : (q : Queue) (p c : List ℕ) → QueueEmpty q → queue_pending q p c ≡ []
unfolding queue_pending
empty_pending q p c e = rw (e.0, e.1, e.2)

pub empty-good : (q : Queue) (p : List ℕ) → QueueEmpty q → QueueGood q p
empty-good q p e = rw e.2 tt

-- a packet's notes, then its units
module _ {A : Type 0} (id : ℕ) (g : List Shown) (es : List (Event A)) (h : g ≡ map strip es) where
  notes-first : (n : ℕ) (t v : Bool)
      → cond t [] (note n id ∷ []) ++ (cond v (note (number_of AboveLimit) id ∷ []) [] ++ g)
      ≡ map strip (map (λ (k : ℕ). account-note k id) (cond t [] (n ∷ []) ++ cond v (number_of AboveLimit ∷ []) []) ++ es)
  notes-first n true true = rw h
  notes-first n true false = rw h
  notes-first n false true = rw h
  notes-first n false false = rw h

module _ {A : Type 0} (cfg : Config) (st : State) (p c : List ℕ) (f : ℕ → Lane (List A)) (a : List A)
    (L : LanesAre cfg st c f) (E : QueueEmpty st.queue) where
  abbrev Stood : State × List ℕ → After (List A) → Type 0
  Stood r w = Stands cfg st r.0 p c r.1 w

  silent_stands : Stood (st, c) (record { lanes = f; events = [] })
  silent_stands =
      record {
        lanes = L;
        events = empty_pending st.queue p c E;
        good = empty-good st.queue p E;
        size = refl;
        frame = refl;
        owed = refl;
        held = refl;
        cursor = refl;
      }

  noted_stands : (n id : ℕ) → eqb n 0 ≡ false
      → Stood (with_queue st (record { note = n; over = false; packet_id = id; give = empty.give }), c)
      (record { lanes = f; events = account-note n id ∷ [] })
  unfolding queue_pending
  noted_stands n id z =
      record {
        lanes = record {
          config = L.config;
          channels = L.channels;
          starts = L.starts;
          collecting-long = L.collecting-long;
          lanes = L.lanes;
        };
        events = rw z;
        good = tt;
        size = refl;
        frame = refl;
        owed = refl;
        held = refl;
        cursor = refl;
      }

  module _ (l : Located) (fit : units_fit (bytes_at l p) l.packet.payload ≡ true)
      (within : l.packet.place < cfg.watch.n) where
    abbrev k : ℕ
    k = l.packet.place

    abbrev rules : Rules
    rules = cfg.rules

    abbrev ch : Channel
    ch = get_or st.channels k unheard

    abbrev j : Joined
    j = step_of ch l p rules

    abbrev x : Input
    x = input_at l p

    abbrev lane : Lane (List A)
    lane = lane_after (f k) a x j

    steps : step rules (f k) a x ≡ record { lane = lane; events = events_of a x j lane }
    unfolding step
    steps = rw (L.lanes k within).0

    room : k * rules.limit + rules.limit ≤ length c
    room = omega (arith, regions rules.limit k cfg.watch.n within, L.collecting-long)

    did : Does rules l p c a lane.labels (f k).bytes x.piece.indicator j
    did =
        does rules l p c fit room a lane.labels (f k).bytes ch.current x.piece.indicator ch.phase j
        (joins rules ch x.piece) (L.lanes k within).1

    abbrev c' : List ℕ
    c' = collects j l p c rules

    lanes-by : (i : ℕ) → i < cfg.watch.n → (t : Bool) → eqb i k ≡ t
        → LaneIs (get_or (set st.channels k j.channel) i unheard) i rules c' (cond t lane (f i))
    lanes-by i h true e =
        let q = eqb-true i k e in
        let s : get_or (set st.channels k j.channel) k unheard ≡ j.channel =
        get_or-set_same st.channels k j.channel unheard (omega (arith, L.channels, L.starts.few, within)) in
        rw (q, s) (refl, did.collecting)
    lanes-by i h false e =
        let q = eqb-false i k e in
        let o = get_or st.channels i unheard in
        rw (get_or-set_other st.channels k i j.channel unheard q)
        ((L.lanes i h).0, did.others i q o.phase o.current.len (f i).bytes (L.lanes i h).1)

    abbrev st' : State
    st' = with_queue (with_channels st (set st.channels k j.channel)) (queue_of j l (base_of l rules.limit) (unit_in l p))

    good_stands : Stood (st', c') (record { lanes = with_lane rules f k lane; events = events_of a x j lane })
    unfolding queue_pending notes_of
    good_stands =
        record {
          lanes = record {
            config = L.config;
            channels = length-set st.channels k j.channel ∙ L.channels;
            starts = L.starts;
            collecting-long = rw did.size L.collecting-long;
            lanes = λ i h. lanes-by i h (eqb i k) refl;
          };
          events = notes-first l.packet.packet_id _ _ did.give j.note (eqb j.note 0) j.over;
          good = did.good;
          size = did.size;
          frame = refl;
          owed = refl;
          held = refl;
          cursor = refl;
        }

    -- as the account reads it
    joined_stands : Stood (arrived_by (Good l) st p c)
        (after_read cfg (input (input_from l.packet (pieces_of (bytes_at l p) l.packet.payload))) f a)
    unfolding joined_of
    joined_stands =
        subst
        (λ (r : Rules). let j = joined_of ch l p c r in
        Stood (with_queue (with_channels st (set st.channels k j.0.channel)) j.0.queue, j.1)
        (after_read cfg (input (input_from l.packet (pieces_of (bytes_at l p) l.packet.payload))) f a))
        (ap (λ (g : KeptConfig). g.rules) (sym L.config)) (rw (input-at l p fit, steps) good_stands)

  -- an MMTP packet with the bytes m
  read_stands : (m : List ℕ) (start end : ℕ) → part_of p start (end - start) ≡ m
      → (r : Reading) → reading_of m (lookup_of cfg.watch) ≡ r
      → Stood (arrived_by (read_by r start end) st p c) (after_read cfg (accountRead r m) f a)
  read_stands m start end e Unwatched q = silent_stands
  read_stands m start end e (NotedPacket n id) q = noted_stands (packet.number_of n) id (not_none n)
  read_stands m start end e (GoodPacket pk) q =
      let l : Located = record { packet = pk; start = start; end = end } in
      let w = packet-is m (lookup_of cfg.watch) pk q in
      let y = payload_read m _ _ pk.payload w.reads in
      let fit : units_fit (bytes_at l p) pk.payload ≡ true = rw e y.units in
      rw (← e) (joined_stands l fit (lookup_at cfg.watch _ _ (packet-place m (lookup_of cfg.watch) pk q)).1)

  -- a TLV packet from `s` to `e`
  flow_stands : (s e : ℕ) → s ≤ e → e ≤ length p → (fl : Flow) → flow_of (part_of p s (e - s)) cfg.cid ≡ fl
      → let b = part_of p s (e - s) in
      Stood (arrived_by (flow_by fl (lookup_of cfg.watch) b s e) st p c) (after_read cfg (accountFlow fl cfg b) f a)
  flow_stands s e se el OtherFlow q = silent_stands
  flow_stands s e se el (NotedFlow n) q = noted_stands (packet.number_of n) 0 (not_none n)
  flow_stands s e se el (Mmtp n) q =
      let b = part_of p s (e - s) in
      let i = mmtp_place b cfg.cid n q in
      let z = length_part p s (e - s) (omega arith) in
      let m = drop n b in
      read_stands m (s + n) e (part-from p s e n (omega (arith, i.2)) el) (reading_of m (lookup_of cfg.watch)) refl

pub packet-does : PacketDoes
unfolding packet_of read_of comes_to
packet-does A cfg st p c s e f a se el L E =
    let b = part_of p s (e - s) in
    let q : arrived_at st.config p s e ≡ comes_to cfg.cid (lookup_of cfg.watch) p s e =
    ap (λ (g : KeptConfig). arrived_at g p s e) L.config ∙ arrived-same _ _ _ p s e (watch-given cfg L.starts) in
    subst
    (λ (x : Arrived). Stands cfg st (arrived_by x st p c).0 p c (arrived_by x st p c).1 (after_read cfg (read_of cfg b) f a))
    (sym q) (flow_stands cfg st p c f a L E s e se el (flow_of b cfg.cid) refl)

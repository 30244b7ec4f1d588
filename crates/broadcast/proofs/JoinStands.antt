-- A packet joined over collecting memory does what the account's step does, and leaves the other packet_ids' bytes.
use Prim.Native.Nat.{ℕ, ◌+◌, ◌*◌, ◌≤◌, ◌<◌}
use mathlib.Core.Path.{◌≡◌, refl, sym, ◌∙◌, ap}
use mathlib.Core.Bool.{true}
use mathlib.Core.List.{List, [], ◌∷◌, ◌++◌, map}
use native.Mathlib.Nat.{zero-add}
use native.Mathlib.Decide.{dec_lt}
use native.Mathlib.Omega.{arith}
use lib.ListN.{length, take, drop, length-drop}
use Rattle.wire.specs.Memory.{part_of, pasted}
use Rattle.wire.proofs.MemoryLaws.{part-inside, length-pasted}
use Rattle.mmtp.specs.declared.payload.Indicator.{Indicator}
use Rattle.mmtp.specs.declared.payload.Indicator.TheVariants.{Whole, First, Middle, Last}
use Rattle.mmtp.specs.Payload.{units_fit}
use Rattle.mmtp.specs.Unit.{piece_at}
use Rattle.reassembly.specs.declared.config.Rules.{Rules}
use Rattle.reassembly.specs.declared.channel.Phase.{Phase}
use Rattle.reassembly.specs.declared.channel.Phase.TheVariants.{Unheard, Waiting, Idle, Open}
use Rattle.reassembly.specs.declared.channel.OpenUnit.{OpenUnit}
use Rattle.reassembly.specs.Joined.{Joined}
use Rattle.reassembly.specs.Run.{gathered, given}
use Rattle.queue.specs.declared.located.Located.{Located}
use Rattle.delivery.specs.Packet.{bytes_at, unit_in, base_of, collected, give_of}
use Rattle.queue.specs.Located.{unit_len}
use Rattle.receiver.specs.Show.{show_of}
use Rattle.broadcast.specs.Drains.{unit, strip, OpenIs}
use Rattle.broadcast.specs.Pending.{give_pending}
use Rattle.broadcast.specs.PacketClaims.{GiveGood}
use Rattle.broadcast.proofs.JoinCases.{Joins, waits, gives, begins, grows, ends}
use Rattle.broadcast.proofs.PacketInput.{input_at, unit-is, wholes_are, wholes-good}
use Rattle.broadcast.proofs.Parts.{pasted-behind, pasted-before, pasted-after, regions}

-- collecting memory after a packet
abbrev pub collects : Joined → Located → List ℕ → List ℕ → Rules → List ℕ
collects j l p c rules = collected j.action c (base_of l rules.limit) (bytes_at l p) (unit_in l p)

abbrev pub gathered_bytes : Indicator → List ℕ → Located → List ℕ → List ℕ
gathered_bytes f old l p = gathered f old (input_at l p).bytes

-- what the packet gives, and what it leaves; `old` are the bytes of the open unit, `ls` the labels of the lane after it
pub record Does {A : Type 0} (rules : Rules) (l : Located) (p c : List ℕ) (a : A) (ls : List A) (old : List ℕ)
    (f : Indicator) (j : Joined)
    : Type 0 where
  pub collecting : OpenIs j.channel.phase l.packet.place rules j.channel.current.len
      (gathered_bytes f old l p) (collects j l p c rules)
  pub give : give_pending (give_of j.action j l (base_of l rules.limit) (unit_in l p)) p (collects j l p c rules)
      ≡ map strip (given j.action a (input_at l p)
      (record { channel = j.channel; labels = ls; bytes = gathered_bytes f old l p }))
  pub good : GiveGood (give_of j.action j l (base_of l rules.limit) (unit_in l p)) p
  pub size : length (collects j l p c rules) ≡ length c
  pub others : (i : ℕ) → (i ≡ l.packet.place → ⊥) → (ph : Phase) (len : ℕ) (b : List ℕ)
      → OpenIs ph i rules len b c → OpenIs ph i rules len b (collects j l p c rules)

-- bytes of a packet_id, in a memory that has the same bytes at its place
pub open_same : (i : ℕ) (rules : Rules) (c c' : List ℕ)
    → ((len : ℕ) → len ≤ rules.limit → take len (drop (i * rules.limit) c') ≡ take len (drop (i * rules.limit) c))
    → (ph : Phase) (len : ℕ) (b : List ℕ) → OpenIs ph i rules len b c → OpenIs ph i rules len b c'
open_same i rules c c' h Unheard len b o = tt
open_same i rules c c' h Waiting len b o = tt
open_same i rules c c' h Idle len b o = tt
open_same i rules c c' h Open len b o = (o.0, o.1 ∙ sym (h len o.0))

module _ (rules : Rules) (l : Located) (p c : List ℕ) (fit : units_fit (bytes_at l p) l.packet.payload ≡ true)
    (room : l.packet.place * rules.limit + rules.limit ≤ length c) where
  abbrev base : ℕ
  base = base_of l rules.limit

  abbrev n : ℕ
  n = unit_len (unit_in l p)

  abbrev src : List ℕ
  src = drop (unit_in l p).start (bytes_at l p)

  -- with the piece put in
  abbrev after : ℕ → List ℕ
  after at = pasted c (base + at) src n

  long : n ≤ length src
  long =
      let i = unit-is l p fit in
      let d = length-drop (unit_in l p).start (bytes_at l p) in
      omega (arith, i.ordered, i.within)

  module _ (at : ℕ) (h : at + n ≤ rules.limit) where
    behind : (old : List ℕ) → old ≡ take at (drop base c) → old ++ (input_at l p).bytes ≡ take (at + n) (drop base (after at))
    unfolding piece_at
    behind old e =
        ap (λ (x : List ℕ). x ++ take n src) e ∙ sym (pasted-behind c src n long base at (omega arith))

    same_size : length (after at) ≡ length c
    same_size = length-pasted c (base + at) src n (omega arith) long

    apart : (i : ℕ) → (i ≡ l.packet.place → ⊥) → (len : ℕ) → len ≤ rules.limit
        → take len (drop (i * rules.limit) (after at)) ≡ take len (drop (i * rules.limit) c)
    apart i ne len k = go (dec_lt i l.packet.place)
      where
        go : Dec (i < l.packet.place) → take len (drop (i * rules.limit) (after at)) ≡ take len (drop (i * rules.limit) c)
        go (yes q) =
            let r = regions rules.limit i l.packet.place q in
            pasted-before c src n long (base + at) (i * rules.limit) len (omega arith) (omega arith)
        go (no q) =
            let r = regions rules.limit l.packet.place i (omega arith) in
            ap (take len) (pasted-after c src n long (base + at) (i * rules.limit) (omega arith) (omega arith))

    aside : (i : ℕ) → (i ≡ l.packet.place → ⊥) → (ph : Phase) (len : ℕ) (b : List ℕ)
        → OpenIs ph i rules len b c → OpenIs ph i rules len b (after at)
    aside i ne = open_same i rules c (after at) (apart i ne)

    -- the joined bytes, as show returns them
    shows : (old : List ℕ) → old ≡ take at (drop base c) → part_of (after at) base (at + n) ≡ old ++ (input_at l p).bytes
    shows old e = let s = same_size in part-inside (after at) base (at + n) (omega arith) ∙ sym (behind old e)

  module _ {A : Type 0} (a : A) (ls : List A) (old : List ℕ) (o : OpenUnit) where
    pub does : (f : Indicator) (ph : Phase) (j : Joined) → Joins rules o (input_at l p).piece f ph j
        → OpenIs ph l.packet.place rules o.len old c → Does rules l p c a ls old f j
    unfolding collected give_of show_of
    does f ph j (waits x y v) q = record { collecting = tt; give = refl; good = tt; size = refl; others = λ i ne ph len b r. r }
    does Whole ph j (gives x y v) q =
        record {
          collecting = tt;
          give = wholes_are l p fit (a ∷ []) c;
          good = wholes-good l p fit;
          size = refl;
          others = λ i ne ph len b r. r;
        }
    does First ph j (begins x y v h) q =
        let z : 0 + n ≤ rules.limit = omega arith in
        record {
          collecting = (h, rw zero-add at (behind 0 z [] refl));
          give = refl;
          good = tt;
          size = same_size 0 z;
          others = aside 0 z;
        }
    does Middle Open j (grows x y v h) q =
        record {
          collecting = (h, behind o.len h old q.1);
          give = refl;
          good = tt;
          size = same_size o.len h;
          others = aside o.len h;
        }
    does Last Open j (ends x y v h) q =
        record {
          collecting = tt;
          give = ap (λ (b : List ℕ). unit (record { info = o.unit; bytes = b }) ∷ []) (shows o.len h old q.1);
          good = tt;
          size = same_size o.len h;
          others = aside o.len h;
        }

-- Laws of specs/Channel.antt.
use Prim.Native.Nat.{ℕ, zero, suc, ◌+◌}
use Rattle.std.specs.Prelude.{◌≡◌, refl, length, replicate}
use Rattle.std.proofs.Common.{◌∙◌, inr, add-zero, arith, length-append}
use mathlib.Core.List.{List, [], ◌∷◌, ◌++◌}
use Rattle.std.proofs.Math.Nat.{mod-eq_of_lt}
use Rattle.wire.specs.Words.{Holds, Zeros, Same}
use Rattle.wire.proofs.WordsLaws.{same_from, same_first, same-front, same-behind, put_same, put_holds, zeros_hold}
use Rattle.mmtp.specs.declared.header.Psn.{Psn}
use Rattle.mmtp.specs.declared.unit.Fields.{Fields}
use Rattle.reassembly.specs.declared.channel.Phase.{Phase}
use Rattle.reassembly.specs.declared.channel.Phase.TheVariants.{Unheard, Waiting, Idle, Open}
use Rattle.reassembly.specs.declared.channel.Channel.{Channel}
use Rattle.reassembly.specs.declared.unit.Unit.{Unit}
use Rattle.reassembly.specs.Channel.{unheard}
use Rattle.words.specs.Channel.{phase_of, phase_word, read_fields, field_words, read_unit, unit_words, read_channel, channel_words, SizedFields, SizedUnit, SizedChannel, UnitStored, ChannelStored, HeardStored}

-- Laws.
pub phase-back : (p : Phase) → phase_of (phase_word p) ≡ p
unfolding phase_of phase_word
phase-back Unheard = refl
phase-back Waiting = refl
phase-back Idle = refl
phase-back Open = refl

pub length-unit : (u : Unit) → length (unit_words u) ≡ 10
unfolding unit_words field_words
length-unit u = refl

pub length-channel : (ch : Channel) → length (channel_words ch) ≡ 14
unfolding channel_words unit_words field_words
length-channel ch = refl

-- the same words, perhaps elsewhere, are read as the same
module _ (t : List ℕ) (i : ℕ) (u : List ℕ) (k : ℕ) where
  pub fields-same : Same t i u k 6 → read_fields t i ≡ read_fields u k
  unfolding read_fields
  fields-same s =
      rw (
        same_first t i u k 6 (omega arith) s,
        s 1 (omega arith),
        s 2 (omega arith),
        s 3 (omega arith),
        s 4 (omega arith),
        s 5 (omega arith),
      )

module _ (t : List ℕ) (i : ℕ) (u : List ℕ) (k : ℕ) where
  pub unit-same : Same t i u k 10 → read_unit t i ≡ read_unit u k
  unfolding read_unit
  unit-same s =
      rw (
        same_first t i u k 10 (omega arith) s,
        s 1 (omega arith),
        s 2 (omega arith),
        s 3 (omega arith),
        fields-same t (i + 4) u (k + 4) (same_from t i u k 4 6 10 (omega arith) s),
      )

module _ (t : List ℕ) (i : ℕ) (u : List ℕ) (k : ℕ) where
  pub channel-same : Same t i u k 14 → read_channel t i ≡ read_channel u k
  unfolding read_channel
  channel-same s =
      rw (
        same_first t i u k 14 (omega arith) s,
        s 1 (omega arith),
        unit-same t (i + 2) u (k + 2) (same_from t i u k 2 10 14 (omega arith) s),
        s 12 (omega arith),
        s 13 (omega arith),
      )

-- a part's own words are read as the part
fields_back : (f : Fields) → SizedFields f → read_fields (field_words f) 0 ≡ f
unfolding read_fields field_words
fields_back f s =
    rw (
      mod-eq_of_lt s.fragment,
      mod-eq_of_lt s.sample,
      mod-eq_of_lt s.offset,
      mod-eq_of_lt s.priority,
      mod-eq_of_lt s.dependency,
      mod-eq_of_lt s.item,
    )

fields_in : (u : Unit) → SizedUnit u → read_fields (unit_words u) 4 ≡ u.fields
unfolding unit_words
fields_in u s =
    fields-same (unit_words u) 4 (field_words u.fields) 0
    (same-behind (u.packet_id ∷ u.kind ∷ u.psn.0 ∷ u.mpu ∷ []) (field_words u.fields) 4 6 refl)
    ∙ fields_back u.fields s.fields

unit-back : (u : Unit) → SizedUnit u → read_unit (unit_words u) 0 ≡ u
unfolding read_unit unit_words
unit-back u s =
    rw (
      mod-eq_of_lt s.id,
      mod-eq_of_lt s.kind,
      mod-eq_of_lt s.psn,
      mod-eq_of_lt s.mpu,
      fields_in u s,
    )

unit_in_lem : (ch : Channel) → SizedChannel ch → read_unit (channel_words ch) 2 ≡ ch.current.unit
unfolding channel_words
unit_in_lem ch s =
    let u = ch.current.unit in
    let xs : List ℕ = phase_word ch.phase ∷ ch.last.0 ∷ [] in
    let ys : List ℕ = ch.current.counter ∷ ch.current.len ∷ [] in
    let l : length (xs ++ unit_words u) ≡ 12 = rw (length-append, length-unit u) in
    unit-same (channel_words ch) 2 (xs ++ unit_words u) 2
    (same_from (channel_words ch) 0 (xs ++ unit_words u) 0 2 10 12 (omega arith) (same-front (xs ++ unit_words u) ys 12 (omega arith)))
    ∙ unit-same (xs ++ unit_words u) 2 (unit_words u) 0 (same-behind xs (unit_words u) 2 10 refl)
    ∙ unit-back u s.unit

channel-back : (ch : Channel) → SizedChannel ch → read_channel (channel_words ch) 0 ≡ ch
unfolding read_channel channel_words unit_words field_words
channel-back ch s = rw (phase-back ch.phase, mod-eq_of_lt s.last, unit_in_lem ch s, mod-eq_of_lt s.counter)

-- what was stored is read back, and the words stored are those of what is read there
module _ (t u : List ℕ) (i : ℕ) where
  pub unit-put : (x : Unit) → UnitStored t u i x → read_unit u i ≡ x
  unit-put x p = unit-same u i (unit_words x) 0 (put_holds t u i 10 (unit_words x) p.put) ∙ unit-back x p.sized

  pub channel-put : (ch : Channel) → ChannelStored t u i ch → read_channel u i ≡ ch
  channel-put ch p =
      channel-same u i (channel_words ch) 0 (put_holds t u i 14 (channel_words ch) p.put) ∙ channel-back ch p.sized

  pub unit-clean : (x : Unit) → UnitStored t u i x → Holds u i 10 (unit_words (read_unit u i))
  unit-clean x p = rw (unit-put x p) p.put.holds

  pub channel-clean : (ch : Channel) → ChannelStored t u i ch → Holds u i 14 (channel_words (read_channel u i))
  channel-clean ch p = rw (channel-put ch p) p.put.holds

-- the phase and the last psn alone: the current unit stays as it was
module _ (t u : List ℕ) (i : ℕ) (p : Phase) (psn : Psn) where
  pub heard-put : HeardStored t u i p psn
      → read_channel u i ≡ record { phase = p; last = psn; current = (read_channel t i).current }
  unfolding read_channel
  heard-put s =
      rw (
        rw (add-zero i) at (s.put.holds 0 (omega arith)),
        phase-back p,
        s.put.holds 1 (omega arith),
        mod-eq_of_lt s.sized,
        unit-same u (i + 2) t (i + 2) (put_same t u i 2 (phase_word p ∷ psn.0 ∷ []) s.put (i + 2) 10 (inr (omega arith))),
        s.put.above (i + 12) (omega arith),
        s.put.above (i + 13) (omega arith),
      )

  heard_words : HeardStored t u i p psn → Holds t i 14 (channel_words (read_channel t i))
      → Holds u i 14 (channel_words (record { phase = p; last = psn; current = (read_channel t i).current }))
  unfolding channel_words
  heard_words s h zero g = s.put.holds 0 (omega arith)
  heard_words s h (suc zero) g = s.put.holds 1 (omega arith)
  heard_words s h (suc (suc j)) g = s.put.above (i + suc (suc j)) (omega arith) ∙ h (suc (suc j)) g

  pub heard-clean : HeardStored t u i p psn → Holds t i 14 (channel_words (read_channel t i))
      → Holds u i 14 (channel_words (read_channel u i))
  heard-clean s h = rw (heard-put s) (heard_words s h)

unheard_words : channel_words unheard ≡ replicate 14 0
unfolding channel_words unit_words field_words phase_word unheard
unheard_words = refl

-- words that are 0: a packet_id of which nothing was heard
module _ (t : List ℕ) (i : ℕ) where
  pub channel-zero : Zeros t i 14 → read_channel t i ≡ unheard
  unfolding read_channel read_unit read_fields phase_of unheard
  channel-zero z = channel-same t i [] 0 z

  pub channel-zero-clean : Zeros t i 14 → Holds t i 14 (channel_words (read_channel t i))
  channel-zero-clean z = rw (channel-zero z, unheard_words) (zeros_hold t i 14 z)

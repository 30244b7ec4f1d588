-- Joining: steps (a), (b) and (c) for one packet of a watched packet_id.
use Rattle.std.specs.Prelude.{ℕ, ◌+◌, ◌%◌, Bool, true, false, cond, ◌&&◌, List, [], ◌∷◌, ◌++◌, ◌==◌, nat_lt}
use Rattle.mmtp.specs.declared.header.Psn.{Psn}
use Rattle.mmtp.specs.declared.payload.Indicator.{Indicator}
use Rattle.mmtp.specs.declared.payload.Indicator.TheVariants.{Whole, First, Middle, Last}
use Rattle.reassembly.specs.declared.config.Rules.{Rules}
use Rattle.reassembly.specs.declared.channel.Phase.{Phase}
use Rattle.reassembly.specs.declared.channel.Phase.TheVariants.{Unheard, Waiting, Idle, Open}
use Rattle.reassembly.specs.declared.channel.OpenUnit.{OpenUnit}
use Rattle.reassembly.specs.declared.channel.Channel.{Channel}
use Rattle.reassembly.specs.declared.join.Piece.{Piece}
use Rattle.reassembly.specs.declared.join.Action.TheVariants.{Nothing, Whole as GiveWhole, Store, Complete}
use Rattle.reassembly.specs.Joined.{Joined}
use Rattle.reassembly.specs.declared.note.JoinNote.TheVariants.{Gap, Interrupted, Headless, Apart, AboveLimit}
use Rattle.reassembly.specs.Notes.{number_of}
use Rattle.reassembly.specs.Unit.{agrees}
use Rattle.reassembly.specs.Channel.{gap}

abbrev pub in_phase : Channel → Phase → Channel
in_phase ch p = record { phase = p; last = ch.last; current = ch.current }

abbrev pub opened : Channel → Phase → OpenUnit → Channel
opened ch p o = record { phase = p; last = ch.last; current = o }

-- "FI 00 or 01 while open: 61, dropped"
unfoldable pub interrupted : Phase → ℕ
interrupted Unheard = 0
interrupted Waiting = 0
interrupted Idle = 0
interrupted Open = number_of Interrupted

-- nothing is given
abbrev pub kept : Channel → Phase → ℕ → Bool → Joined
kept ch p n over = record { channel = in_phase ch p; note = n; over = over; action = Nothing }

-- "FI 00 gives its units, now idle"
abbrev pub given : Channel → ℕ → Joined
given ch n = record { channel = in_phase ch Idle; note = n; over = false; action = GiveWhole }

-- "FI 01 opens with its bytes"; "Joined bytes above R, also at FI 01: 64, now waiting"
unfoldable pub begun : Channel → Piece → Rules → ℕ → Joined
begun ch p rules n =
    cond (nat_lt rules.limit p.len) (kept ch Waiting n true)
    (record {
      channel = opened ch Open (record { unit = p.unit; counter = p.counter; len = p.len });
      note = n;
      over = false;
      action = Store 0;
    })

-- the counter's part of 63: "one lower modulo 256" (document 02, item 4), so 0 is followed by 255
unfoldable pub counter_follows : ℕ → ℕ → Bool
counter_follows before counter = before == (counter + 1) % 256

abbrev pub longer : Channel → Piece → OpenUnit
longer ch p = record { unit = ch.current.unit; counter = p.counter; len = ch.current.len + p.len }

-- FI 10 goes on, "FI 11 gives the unit, now idle"
unfoldable pub grown : Channel → Piece → Bool → Joined
grown ch p false = record { channel = opened ch Open (longer ch p); note = 0; over = false; action = Store ch.current.len }
grown ch p true = record { channel = opened ch Idle (longer ch p); note = 0; over = false; action = Complete ch.current.len }

-- FI 10 or 11 while open: "must agree .., else 63, now waiting"; above R: 64, now waiting
unfoldable pub extended : Channel → Piece → Rules → Bool → Joined
extended ch p rules last =
    cond (agrees ch.current.unit p.unit && counter_follows ch.current.counter p.counter)
    (cond (nat_lt rules.limit (ch.current.len + p.len)) (kept ch Waiting 0 true) (grown ch p last))
    (kept ch Waiting (number_of Apart) false)

-- FI 10 or 11 by the phase; "while idle: 62, now waiting; otherwise silent, now waiting"
abbrev pub followed_in : Phase → Channel → Piece → Rules → Bool → Joined
followed_in Unheard ch p rules last = kept ch Waiting 0 false
followed_in Waiting ch p rules last = kept ch Waiting 0 false
followed_in Idle ch p rules last = kept ch Waiting (number_of Headless) false
followed_in Open ch p rules last = extended ch p rules last

unfoldable pub followed : Channel → Piece → Rules → Bool → Joined
followed ch p rules last = followed_in ch.phase ch p rules last

-- (c)
abbrev pub acted_by : Indicator → Channel → Piece → Rules → Joined
acted_by Whole ch p rules = given ch (interrupted ch.phase)
acted_by First ch p rules = begun ch p rules (interrupted ch.phase)
acted_by Middle ch p rules = followed ch p rules false
acted_by Last ch p rules = followed ch p rules true

unfoldable pub acted : Channel → Piece → Rules → Joined
acted ch p rules = acted_by p.indicator ch p rules

-- (b)
abbrev pub recorded : Channel → Piece → Channel
recorded ch p = record { phase = ch.phase; last = p.unit.psn; current = ch.current }

-- (a) where there is a gap, and (b)
unfoldable pub heard_at : Channel → Psn → Bool → Channel
heard_at ch psn b = record { phase = cond b Waiting ch.phase; last = psn; current = ch.current }

abbrev pub noted : ℕ → Joined → Joined
noted n j = record { channel = j.channel; note = n; over = j.over; action = j.action }

-- (a), (b), (c)
unfoldable pub join_of : Channel → Piece → Rules → Joined
join_of ch p rules =
    cond (gap ch p.unit.psn) (noted (number_of Gap) (acted (in_phase (recorded ch p) Waiting) p rules)) (acted (recorded ch p) p rules)

-- the notes of a step, in order
unfoldable pub notes_of : Joined → List ℕ
notes_of j = cond (j.note == 0) [] (j.note ∷ []) ++ cond j.over (number_of AboveLimit ∷ []) []

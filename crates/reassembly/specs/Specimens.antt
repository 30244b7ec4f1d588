-- Document 01's starred specimens of Joining, and further examples, computed over the definitions.
use Rattle.std.specs.Prelude.{◌≡◌, ℕ, List, [], ◌∷◌}
use Rattle.mmtp.specs.declared.payload.Indicator.{Indicator}
use Rattle.mmtp.specs.declared.payload.Indicator.TheVariants.{Whole, First, Middle, Last}
use Rattle.reassembly.specs.declared.config.Rules.{Rules}
use Rattle.reassembly.specs.declared.channel.Channel.{Channel}
use Rattle.reassembly.specs.declared.join.Piece.{Piece}
use Rattle.reassembly.specs.declared.join.Action.{Action}
use Rattle.reassembly.specs.declared.join.Action.TheVariants.{Nothing, Whole as GiveWhole, Store, Complete}
use Rattle.reassembly.specs.Channel.{next_psn, unheard}
use Rattle.reassembly.specs.Join.{join_of, notes_of}

-- a signalling piece of ten bytes, with a number where the kind has none
abbrev pub piece_of : ℕ → ℕ → Indicator → ℕ → Piece
piece_of mpu psn fi counter =
    record {
      unit = record {
        packet_id = 0;
        kind = 4;
        psn = record { 0 = psn };
        mpu = mpu;
        fields = record { movie_fragment = 0; sample = 0; offset = 0; priority = 0; dependency = 0; item = 0 };
      };
      indicator = fi;
      counter = counter;
      len = 10;
    }

abbrev pub piece : ℕ → Indicator → ℕ → Piece
piece = piece_of 0

pub record Seen : Type 0 where
  pub notes : List ℕ
  pub action : Action

-- R alone
abbrev pub up_to : ℕ → Rules
up_to n = record { limit = n }

-- what each piece gives
unfoldable pub seen : Rules → Channel → List Piece → List Seen
seen rules ch [] = []
seen rules ch (p ∷ ps) =
    let j = join_of ch p rules in
    record { notes = notes_of j; action = j.action } ∷ seen rules j.channel ps

abbrev pub quiet : Action → Seen
quiet a = record { notes = []; action = a }

abbrev pub noted : ℕ → Seen
noted n = record { notes = n ∷ []; action = Nothing }

abbrev pub Specimens : Type 0
Specimens =
    -- "psn after 4,294,967,295 is 0"
    (next_psn (record { 0 = 4294967295 }) ≡ record { 0 = 0 })
    -- "psn 5, 6, 7, counters 2, 1, 0: a unit"
    × (seen (up_to 100) unheard (piece 5 First 2 ∷ piece 6 Middle 1 ∷ piece 7 Last 0 ∷ [])
    ≡ quiet (Store 0) ∷ quiet (Store 10) ∷ quiet (Complete 20) ∷ [])
    -- "5, 6, 8: 60, none"
    × (seen (up_to 100) unheard (piece 5 First 2 ∷ piece 6 Middle 1 ∷ piece 8 Last 0 ∷ [])
    ≡ quiet (Store 0) ∷ quiet (Store 10) ∷ noted 60 ∷ [])

-- the piece, of this kind, movie fragment, sample and item
abbrev with-fields : ℕ → ℕ → ℕ → ℕ → Piece → Piece
with-fields k movie sample item p =
    record {
      unit = record {
        packet_id = 0;
        kind = k;
        psn = p.unit.psn;
        mpu = p.unit.mpu;
        fields = record { movie_fragment = movie; sample = sample; offset = 0; priority = 0; dependency = 0; item = item };
      };
      indicator = p.indicator;
      counter = p.counter;
      len = p.len;
    }

abbrev timed : ℕ → ℕ → Piece → Piece
timed movie sample p = with-fields 2 movie sample 0 p

abbrev of-item : ℕ → Piece → Piece
of-item item p = with-fields 3 0 0 item p

-- the first piece is stored, the second is noted 63, and the packet_id waits
abbrev Apart : Piece → Piece → Type 0
Apart a b = seen (up_to 100) unheard (a ∷ b ∷ piece 7 Last 0 ∷ []) ≡ quiet (Store 0) ∷ noted 63 ∷ quiet Nothing ∷ []

-- a packet_id with a unit open, whose last psn was 5
abbrev open_unit_lem : Channel
open_unit_lem = (join_of unheard (piece 5 First 2) (up_to 100)).channel

abbrev pub Examples : Type 0
Examples =
    -- the psn wraps inside a unit
    (seen (up_to 100) unheard (piece 4294967295 First 1 ∷ piece 0 Last 0 ∷ []) ≡ quiet (Store 0) ∷ quiet (Complete 10) ∷ [])
    -- "one lower modulo 256": 0 is followed by 255, and a middle piece with counter 0 does not end the unit
    × (seen (up_to 100) unheard (piece 5 First 1 ∷ piece 6 Middle 0 ∷ piece 7 Middle 255 ∷ [])
    ≡ quiet (Store 0) ∷ quiet (Store 10) ∷ quiet (Store 20) ∷ [])
    -- FI 11, whose counter is 0, after another counter than 1: 63, though the psn follows
    × Apart (piece 5 First 255) (piece 6 Last 0) × Apart (piece 5 First 0) (piece 6 Last 0)
    -- "must agree in kind, MPU number, movie fragment and sample (or item)", also at FI 10
    × Apart (piece 5 First 2) (with-fields 1 0 0 0 (piece 6 Middle 1))
    × Apart (piece 5 First 1) (piece_of 9 6 Last 0)
    × Apart (timed 3 4 (piece 5 First 2)) (timed 8 4 (piece 6 Middle 1))
    × Apart (timed 3 4 (piece 5 First 2)) (timed 3 8 (piece 6 Middle 1))
    × Apart (of-item 3 (piece 5 First 1)) (of-item 8 (piece 6 Last 0))
    -- counters that agree across a gap join nothing
    × (seen (up_to 100) unheard (piece 5 First 2 ∷ piece 7 Middle 1 ∷ piece 8 Last 0 ∷ []) ≡ quiet (Store 0) ∷ noted 60 ∷ quiet Nothing ∷ [])
    -- FI 10 while unheard is silent, and the packet_id is heard from then on
    × (seen (up_to 100) unheard (piece 5 Middle 2 ∷ piece 7 Whole 0 ∷ []) ≡ quiet Nothing ∷ record { notes = 60 ∷ []; action = GiveWhole } ∷ [])
    -- FI 10 or 11 while idle: 62, now waiting
    × (seen (up_to 100) unheard (piece 5 Whole 0 ∷ piece 6 Middle 2 ∷ piece 7 Middle 1 ∷ []) ≡ quiet GiveWhole ∷ noted 62 ∷ quiet Nothing ∷ [])
    × (seen (up_to 100) unheard (piece 5 Whole 0 ∷ piece 6 Last 0 ∷ piece 7 Last 0 ∷ []) ≡ quiet GiveWhole ∷ noted 62 ∷ quiet Nothing ∷ [])
    -- FI 00 or 01 while open: 61, dropped
    × (seen (up_to 100) unheard (piece 5 First 2 ∷ piece 6 Whole 0 ∷ piece 7 Middle 1 ∷ [])
    ≡ quiet (Store 0) ∷ record { notes = 61 ∷ []; action = GiveWhole } ∷ noted 62 ∷ [])
    × (seen (up_to 100) unheard (piece 5 First 2 ∷ piece 6 First 2 ∷ []) ≡ quiet (Store 0) ∷ record { notes = 61 ∷ []; action = Store 0 } ∷ [])
    -- "Joined bytes above R, also at FI 01: 64, now waiting"
    × (seen (up_to 15) unheard (piece 5 First 2 ∷ piece 6 Middle 1 ∷ piece 7 Last 0 ∷ []) ≡ quiet (Store 0) ∷ noted 64 ∷ quiet Nothing ∷ [])
    × (seen (up_to 9) unheard (piece 5 First 1 ∷ piece 6 Last 0 ∷ []) ≡ noted 64 ∷ quiet Nothing ∷ [])
    -- a packet with two notes: 60 or 61, then 64
    × (seen (up_to 9) unheard (piece 5 Whole 0 ∷ piece 7 First 1 ∷ []) ≡ quiet GiveWhole ∷ record { notes = 60 ∷ 64 ∷ []; action = Nothing } ∷ [])
    × (notes_of (join_of open_unit_lem (piece 6 First 1) (up_to 9)) ≡ 61 ∷ 64 ∷ [])

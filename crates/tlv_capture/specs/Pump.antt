-- A turn of the capture program: a block is fed to the capture, what waits is poured.
use Rattle.std.specs.Prelude.{ℕ, ◌-◌, ◌≡◌, ◌⊎◌, Bool, true, false, cond, ◌&&◌, ◌||◌, not, List, eqb, ltb}
use Rattle.wire.specs.Memory.{part_of}
use Rattle.feeding.specs.declared.feed.Fed.{Fed}
use Rattle.capture.specs.declared.session.Progress.{Progress}
use Rattle.capture.specs.declared.session.Session.{Session}
use Rattle.capture.specs.Session.{is_ended, session_in}
use Rattle.capture.specs.Words.{PoursOr}
use Rattle.feeding.specs.Fed.{Feeds}
use Rattle.feeding.specs.Feed.{fed_of}
use Rattle.capture.specs.Steps.{poured_of}
use Rattle.tlv_capture.specs.declared.pump.Pumped.{Pumped}

abbrev pub fresh_pump : Session → Pumped
fresh_pump s =
    record { session = s; held = 0; size = 0; read = 0; last = false; moved = true; writes = true; written = 0 }

-- another block is wanted: this one is used up, and standard input has not ended
abbrev pub wants_of : Pumped → Bool
wants_of p = cond (ltb p.read p.size) false (not p.last)

-- a block of `size` bytes came, where there was room for `room`
abbrev pub filled_of : Pumped → ℕ → ℕ → Pumped
filled_of p size room =
    record {
      session = p.session;
      held = p.held;
      size = size;
      read = 0;
      last = ltb size room;
      moved = p.moved;
      writes = p.writes;
      written = p.written;
    }

-- nothing was wanted and the pump is as it was, or one was wanted and a block of some size came
abbrev pub Refilled : Pumped → ℕ → Pumped → Type 0
Refilled p room r =
    ((wants_of p ≡ false) × (r ≡ p)) ⊎ ((wants_of p ≡ true) × (size : ℕ) × (r ≡ filled_of p size room))

-- either number is not 0
abbrev pub any_of : ℕ → ℕ → Bool
any_of a b = cond (eqb a 0) (not (eqb b 0)) true

-- what is left of the block is fed to the capture
abbrev pub fed_by : Pumped → Fed → Pumped
fed_by p r =
    record {
      session = r.session;
      held = r.held;
      size = p.size;
      read = p.size - (p.size - p.read - r.read);
      last = p.last;
      moved = any_of r.read r.written;
      writes = p.writes;
      written = r.written;
    }

pub record FedOn (p : Pumped) (block before command packet c out : List ℕ) (q : Pumped) (after k m d o : List ℕ) : Type 0 where
  pub fed : Fed
  pub feeds : Feeds p.session p.held before command packet c out fed after k m d o
      (fed_of (session_in p.session before) p.held command (part_of block p.read (p.size - p.read)) packet c out)
  pub pumped : q ≡ fed_by p fed

-- the lines of what waits, from the start of `out`
abbrev pub poured_by : Pumped → Progress → Pumped
poured_by p r =
    record {
      session = r.session;
      held = p.held;
      size = p.size;
      read = p.read;
      last = p.last;
      moved = cond p.moved true (not (eqb r.at 0));
      writes = p.writes;
      written = r.at;
    }

pub record PouredOn (p : Pumped) (before packet c out : List ℕ) (q : Pumped) (after d o : List ℕ) : Type 0 where
  pub poured : Progress
  pub pours : PoursOr p.session 0 before c out poured after d o (poured_of (session_in p.session before) packet c out 0)
  pub pumped : q ≡ poured_by p poured

-- whether standard output took what was written
abbrev pub told_of : Pumped → Bool → Pumped
told_of p ok =
    record {
      session = p.session;
      held = p.held;
      size = p.size;
      read = p.read;
      last = p.last;
      moved = p.moved;
      writes = p.writes && ok;
      written = 0;
    }

-- there is more to do: standard output takes what is written, and the capture has not ended and more comes, or something moves
abbrev pub goes_on : Pumped → Bool
goes_on p = p.writes && cond (p.last || is_ended p.session.phase) p.moved true

-- What is claimed of captures: what the text says, that it is the account of what arrived, and what a fade takes from it.
use Rattle.std.specs.Prelude.{ℕ, ◌*◌, ◌%◌, ◌^◌, ◌≤◌, ◌≡◌, List, [], ◌∷◌, ◌++◌, map, length, get_or, take}
use Rattle.tmcc.specs.Layout.{blank_layout}
use Rattle.tlv.specs.Run.{Arrival, searching}
use Rattle.reassembly.specs.declared.config.Config.{Config}
use Rattle.reassembly.specs.Run.{Content, Labelled, fresh}
use Rattle.intake.specs.Slot.{packet_memory}
use Rattle.state.specs.Start.{start_of}
use Rattle.lines.specs.Line.{end_line}
use Rattle.capture.specs.declared.command.Letter.TheVariants.{Start}
use Rattle.capture.specs.Command.{letter_of, config_of}
use Rattle.capture.specs.Capture.{capture_of}
use Rattle.broadcast.specs.Account.{account}
use Rattle.broadcast.specs.Drains.{strip}
use Rattle.broadcast.specs.Carried.{carried_units, intact_units, Few, contents}
use Rattle.broadcast.specs.Frames.{Frame, Whole, Damage, none}
use Rattle.broadcast.specs.Demand3.{NoNote, units_of, slots_of, kept}
use Rattle.capture_account.specs.Events.{Placed, Meaning, meaning_of, lines_of, refused_lines, meaning_text, shown_in, note_count}
use Rattle.capture_account.specs.Calls.{command_calls, arrivals_by, refusals_by, frames_by, short_refusals_by, short_frames_by}
use Rattle.capture_account.specs.Places.{placed_by}
use Rattle.capture_account.specs.Written.{CanWriteFrames, capture_bytes}

-- 1. The text. Any bytes b, and memories of any length with anything in them.

-- what the capture program prints is the text of the capture's meaning
abbrev pub TextClaim : Type 0
TextClaim = (p c b : List ℕ) → capture_of p c b ≡ meaning_text (meaning_of p c b)

-- its totals are those of its events: how many units and how many notes; counts have 64 bits
pub record Counted (m : Meaning) : Type 0 where
  pub units : m.tally.units ≡ length (units_of (shown_in m.events)) % 2 ^ 64
  pub notes : m.tally.notes ≡ note_count (shown_in m.events) % 2 ^ 64

abbrev pub TotalsClaim : Type 0
TotalsClaim = (p c b : List ℕ) → Counted (meaning_of p c b)

-- 2. The account. Any bytes b and any memories, in four cases: an accepted C comes first, and the memories suffice (CapturePrints,
-- CaptureAccounts) or do not (CaptureShort); a C comes first that start refuses (CaptureRefusedC); or none does (CaptureWithoutC).

-- what C says
abbrev pub config_in : List ℕ → Config
config_in b = config_of (take 42 b)

-- a whole C comes first; and start accepts it
pub record HasC (b : List ℕ) : Type 0 where
  pub first : letter_of (get_or b 0 0) ≡ Start
  pub long : 42 ≤ length b

pub record Begins (b : List ℕ) : Type 0 where
  pub has_c : HasC b
  pub accepted : (start_of (config_in b)).refusal ≡ 0

-- packet memory of 21,433 bytes at least, and collecting memory of n × R
pub record Suffice (cfg : Config) (p c : List ℕ) : Type 0 where
  pub packet : packet_memory ≤ length p
  pub collecting : cfg.watch.n * cfg.rules.limit ≤ length c

-- by the commands behind C, up to the first that is refused: the own live slots that arrive; the number of that refusal, so at most
-- one; how many frames have begun; and the account of what arrives, each note and unit with its frame and slot. No slot is due before
-- the first frame, as after slot 120 of one: so 120, and a layout that is not asked
abbrev pub arrivals_in : List ℕ → List (Arrival (ℕ × ℕ))
arrivals_in b = arrivals_by (config_in b).stream blank_layout 120 0 (command_calls b)

abbrev pub refusals_in : List ℕ → List ℕ
refusals_in b = refusals_by (config_in b).stream blank_layout 120 (command_calls b)

abbrev pub frames_in : List ℕ → ℕ
frames_in b = frames_by (config_in b).stream blank_layout 120 0 (command_calls b)

abbrev pub placed_in : List ℕ → List Placed
placed_in b = placed_by (config_in b) (λ k. fresh) searching blank_layout 120 0 (command_calls b)

-- what is printed: a line for each note and unit of that account, in order; the refusal's line; and how many frames, units and notes
-- there were. Counts have 64 bits
abbrev pub end_in : List ℕ → List ℕ
end_in b =
    end_line (frames_in b % 2 ^ 64) (length (units_of (shown_in (placed_in b))) % 2 ^ 64) (note_count (shown_in (placed_in b)) % 2 ^ 64)

abbrev pub CapturePrints : Type 0
CapturePrints =
    (p c b : List ℕ) → Begins b → Suffice (config_in b) p c
    → capture_of p c b ≡ lines_of (placed_in b) ++ (refused_lines (refusals_in b) ++ end_in b)

-- so neither what the memories hold first nor how much longer they are matters
abbrev pub MemoriesAlike : Type 0
MemoriesAlike =
    (p₁ c₁ p₂ c₂ b : List ℕ) → Begins b → Suffice (config_in b) p₁ c₁ → Suffice (config_in b) p₂ c₂ → capture_of p₁ c₁ b ≡ capture_of p₂ c₂ b

-- the same of the capture's meaning: its notes and units are, in order and with all that they carry, the account of what arrives by its
-- commands; each has the frame and slot of its command, and a unit's line the length of its bytes; the capture is refused where the
-- commands say, and its frames are those that have begun
pub record Accounts (p c b : List ℕ) : Type 0 where
  pub accounted : shown_in (meaning_of p c b).events ≡ map strip (account (config_in b) (arrivals_in b))
  pub placed : (meaning_of p c b).events ≡ placed_in b
  pub refusal : (meaning_of p c b).refusal ≡ refusals_in b
  pub frames : (meaning_of p c b).tally.frames ≡ frames_in b % 2 ^ 64

abbrev pub CaptureAccounts : Type 0
CaptureAccounts = (p c b : List ℕ) → Begins b → Suffice (config_in b) p c → Accounts p c b

-- with memories that do not suffice there is neither a note nor a unit, and what needs them is refused with 22
pub record NoneShown (p c b : List ℕ) : Type 0 where
  pub events : (meaning_of p c b).events ≡ []
  pub refusal : (meaning_of p c b).refusal ≡ short_refusals_by (config_in b).stream 120 (command_calls b)
  pub frames : (meaning_of p c b).tally.frames ≡ short_frames_by (config_in b).stream 120 0 (command_calls b) % 2 ^ 64

abbrev pub CaptureShort : Type 0
CaptureShort = (p c b : List ℕ) → Begins b → (Suffice (config_in b) p c → ⊥) → NoneShown p c b

-- without an accepted C first there is neither a note, nor a unit, nor a frame; rs: the refusal that ends it, at most one number
pub record Unstarted (m : Meaning) (rs : List ℕ) : Type 0 where
  pub events : m.events ≡ []
  pub refusal : m.refusal ≡ rs
  pub frames : m.tally.frames ≡ 0

-- no whole C comes first; or one comes that start refuses
abbrev pub CaptureWithoutC : Type 0
CaptureWithoutC = (p c b : List ℕ) → (HasC b → ⊥) → Unstarted (meaning_of p c b) []

abbrev pub CaptureRefusedC : Type 0
CaptureRefusedC =
    (p c b : List ℕ) → HasC b → ((start_of (config_in b)).refusal ≡ 0 → ⊥)
    → Unstarted (meaning_of p c b) ((start_of (config_in b)).refusal ∷ [])

-- 3. Loss. Two captures of the same whole frames behind the same C, one undamaged, the other with any S replaced by L and any F with its
-- 120 slots by X. Captures of whole frames are meant, as demand 3 asks: one that breaks off inside a frame is not.

-- the units that a capture gives, in order; and those that the own live slots of the frames carry, each with its TLV packets
abbrev pub units_given : List ℕ → List ℕ → List ℕ → List Content
units_given p c b = units_of (shown_in (meaning_of p c b).events)

abbrev pub carried_in : List ℕ → List Frame → List (Labelled (List (ℕ × ℕ)))
carried_in start_bytes fs = carried_units (config_in start_bytes) (slots_of (config_in start_bytes) fs)

-- what is assumed of the undamaged one, as demand 3 has it: `start_bytes` is an accepted C; the frames have 120 slots and can be written;
-- no command is refused, there is no note, and no watched packet_id has more than 4,294,967,295 packets
pub record UndamagedCapture (start_bytes : List ℕ) (fs : List Frame) (p c : List ℕ) : Type 0 where
  pub first : letter_of (get_or start_bytes 0 0) ≡ Start
  pub size : length start_bytes ≡ 42
  pub accepted : (start_of (config_in start_bytes)).refusal ≡ 0
  pub whole : Whole fs
  pub written : CanWriteFrames fs
  pub none-refused : (meaning_of p c (capture_bytes start_bytes none fs)).refusal ≡ []
  pub no_note : NoNote (shown_in (meaning_of p c (capture_bytes start_bytes none fs)).events)
  pub few : Few (config_in start_bytes) (slots_of (config_in start_bytes) fs)

-- the units of the undamaged one are those that its slots carry; the damaged one gives them, in order and content, less exactly those
-- with a byte of a TLV packet that carries them, headers included, in a lost slot; and it is not refused
pub record ExactLoss (start_bytes : List ℕ) (fs : List Frame) (d : Damage) (p₁ c₁ p₂ c₂ : List ℕ) : Type 0 where
  pub undamaged : units_given p₁ c₁ (capture_bytes start_bytes none fs) ≡ contents (carried_in start_bytes fs)
  pub damaged : units_given p₂ c₂ (capture_bytes start_bytes d fs) ≡ contents (intact_units (kept d) (carried_in start_bytes fs))
  pub none-refused : (meaning_of p₂ c₂ (capture_bytes start_bytes d fs)).refusal ≡ []

abbrev pub CaptureLoss : Type 0
CaptureLoss =
    (start_bytes : List ℕ) (fs : List Frame) (d : Damage) (p₁ c₁ p₂ c₂ : List ℕ) → UndamagedCapture start_bytes fs p₁ c₁
    → length p₁ ≡ length p₂ → length c₁ ≡ length c₂ → ExactLoss start_bytes fs d p₁ c₁ p₂ c₂

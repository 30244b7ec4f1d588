-- The receiver's state in words that the caller lends: where its parts stand, and what a call answers and leaves there.
-- Reading is total, also of words that no call writes.
use Rattle.std.specs.Prelude.{ℕ, ◌+◌, ◌*◌, ◌%◌, ◌<◌, ◌≤◌, ◌≡◌, Bool, List, [], ◌∷◌, length, get_or}
use Rattle.wire.specs.Tab.{tab}
use Rattle.wire.specs.Words.{Holds, Put, Within, flag_of, flag_word}
use Rattle.tmcc.specs.Layout.{Layout}
use Rattle.tmcc.specs.declared.layout.Pointers.{Pointers}
use Rattle.reassembly.specs.declared.channel.Channel.{Channel}
use Rattle.words.specs.Config.{read_config, config_words}
use Rattle.words.specs.Channel.{read_channel}
use Rattle.words.specs.Cursor.{read_held, held_words, read_cursor, cursor_words}
use Rattle.queue.specs.Event.{Event}
use Rattle.queue.specs.Event.{Refused}
use Rattle.delivery.specs.Found.{Found}
use Rattle.delivery.specs.Cursor.{advanced_of}
use Rattle.queue.specs.Words.{read_queue, CleanQueue}
use Rattle.delivery.specs.Words.{channel_place, CleanChannel}
use Rattle.state.specs.State.{State, Called, Answer}

-- how many words
abbrev pub state_words : ℕ
state_words = 751

-- the frame's slots, four words each: the two pointers, the data length, and whether it is an own live one
unfoldable pub pointers_in : List ℕ → ℕ → Pointers
pointers_in t s = record { 0 = get_or t (271 + 4 * s) 0 % 65536; 1 = get_or t (271 + 4 * s + 1) 0 % 65536 }

unfoldable pub length_in : List ℕ → ℕ → ℕ
length_in t s = get_or t (271 + 4 * s + 2) 0

unfoldable pub own_in : List ℕ → ℕ → Bool
own_in t s = flag_of (get_or t (271 + 4 * s + 3) 0)

unfoldable pub layout_in : List ℕ → Layout
layout_in t = record { pointers = tab (pointers_in t) 120; lengths = tab (length_in t) 120; own = tab (own_in t) 120 }

-- the states of the sixteen packet_ids
unfoldable pub channels_in : List ℕ → List Channel
channels_in t = tab (λ k. read_channel t (channel_place 47 k)) 16

-- the state that the words hold
unfoldable pub state_in : List ℕ → State
state_in t =
    record {
      config = read_config t 0;
      frame = record { layout = layout_in t; at = get_or t 20 0 };
      owed = flag_of (get_or t 21 0);
      held = read_held t 22;
      cursor = read_cursor t 25;
      queue = read_queue t 30;
      channels = channels_in t;
    }

-- the words of a slot
abbrev pub slot_words : Pointers → ℕ → Bool → List ℕ
slot_words p len own = p.0 ∷ p.1 ∷ len ∷ flag_word own ∷ []

abbrev pub CleanSlot : List ℕ → ℕ → Type 0
CleanSlot t s = Holds t (271 + 4 * s) 4 (slot_words (pointers_in t s) (length_in t s) (own_in t s))

-- the words of each part are those of what is read there; the slot that is due is a word itself
pub record Clean (t : List ℕ) : Type 0 where
  pub config : Holds t 0 20 (config_words (read_config t 0))
  pub owed : get_or t 21 0 ≡ flag_word (flag_of (get_or t 21 0))
  pub held : Holds t 22 3 (held_words (read_held t 22))
  pub cursor : Holds t 25 5 (cursor_words (read_cursor t 25))
  pub queue : CleanQueue t 30
  pub channels : (k : ℕ) → k < 16 → CleanChannel t (channel_place 47 k)
  pub slots : (s : ℕ) → s < 120 → CleanSlot t s

-- what a call leaves beside the state that is read: clean words clean, and words behind the receiver's as they were. So after an accepted
-- start no word is left free: it leaves clean words (`Starts`), and clean words that hold the same state are the same (`clean-one`,
-- specs/Clean.antt).
pub record Exact (before after : List ℕ) : Type 0 where
  pub size : length after ≡ length before
  pub rest : (m : ℕ) → state_words ≤ m → get_or after m 0 ≡ get_or before m 0
  pub clean : Clean before → Clean after

-- a call's answer r, its state and the memory m that it may change, by a definition's answer x. Words that are too few are refused
-- with 90, before all else. A refused call leaves every word as it was.
pub record Leaves (before m : List ℕ) (r : ℕ) (after n : List ℕ) (x : Called × List ℕ) : Type 0 where
  pub short : length before < state_words → (r ≡ 90) × (n ≡ m)
  pub long : state_words ≤ length before → (record { refusal = r; state = state_in after }, n) ≡ x
  pub kept : (r ≡ 0 → ⊥) → after ≡ before
  pub exact : Exact before after

-- the same of start, whose words are clean where it is accepted, whatever stood there
pub record Starts (before : List ℕ) (r : ℕ) (after : List ℕ) (x : Called) : Type 0 where
  pub leaves : Leaves before [] r after [] (x, [])
  pub clean : r ≡ 0 → Clean after

-- the same of next, which answers an event
pub record Answers (before c : List ℕ) (r : Event) (after d : List ℕ) (x : Answer × List ℕ) : Type 0 where
  pub short : length before < state_words → (r ≡ Refused 90) × (d ≡ c)
  pub long : state_words ≤ length before → (record { event = r; state = state_in after }, d) ≡ x
  pub kept : (n : ℕ) → r ≡ Refused n → after ≡ before
  pub exact : Exact before after

-- the same where the words suffice
pub record Sets (before after : List ℕ) (st : State) : Type 0 where
  pub state : state_in after ≡ st
  pub exact : Exact before after

-- a fresh receiver, whatever stood there
pub record Fresh (before after : List ℕ) (st : State) : Type 0 where
  pub sets : Sets before after st
  pub clean : Clean after

pub record Reads (before : List ℕ) (r : Event) (after d : List ℕ) (x : Answer × List ℕ) : Type 0 where
  pub answer : (record { event = r; state = state_in after }, d) ≡ x
  pub exact : Exact before after

-- 0 in each of the receiver's words
pub record Cleared (before after : List ℕ) : Type 0 where
  pub size : length after ≡ length before
  pub rest : (m : ℕ) → state_words ≤ m → get_or after m 0 ≡ get_or before m 0
  pub zero : (m : ℕ) → m < state_words → get_or after m 0 ≡ 0

-- the four words of slot s, and nothing else
pub record SlotPut (before after : List ℕ) (s : ℕ) (p : Pointers) (len : ℕ) (own : Bool) : Type 0 where
  pub put : Put before after (271 + 4 * s) 4 (p.0 ∷ p.1 ∷ len ∷ flag_word own ∷ [])
  pub top : p.0 < 65536
  pub last : p.1 < 65536

-- the words of the 120 slots, and nothing else
pub record LayoutPut (before after : List ℕ) (l : Layout) : Type 0 where
  pub layout : layout_in after ≡ l
  pub within : Within before after 271 480
  pub clean : (s : ℕ) → s < 120 → CleanSlot after s

-- what the cursor comes to, and the cursor past it
pub record Moves (before p : List ℕ) (r : Found) (after : List ℕ) : Type 0 where
  pub moved : record { found = r; cursor = read_cursor after 25 } ≡ advanced_of (read_cursor before 25) p
  pub within : Within before after 25 5
  pub exact : Exact before after

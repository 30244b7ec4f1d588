-- What is claimed of the packer's, the cutter's and the text's functions of C linkage. What the receiver's calls are claimed to do is in
-- `receiver/specs/Claims.antt` and `calls/specs/Claims.antt`.
use Rattle.std.specs.Prelude.{ℕ, ◌≤◌, ◌≡◌, true, ◌⊎◌, List}
use Rattle.words.specs.Channel.{read_unit, SizedUnit}
use Rattle.queue.specs.declared.event.Given.{Given}
use Rattle.packer.specs.Packed.{Written}
use Rattle.packer.specs.Packer.{pack_of}
use Rattle.cutter.specs.Cut.{Cut}
use Rattle.cutter.specs.Slot.{slot_cut}
use Rattle.calls.specs.Settings.{most64}
use Rattle.calls.specs.Record.{is_unit_record, unit_record}
use Rattle.capture.specs.Capture.{capture_of}
use Rattle.ixohuemil.specs.Answers.{pack_call, pack_record, cut_call}
use Rattle.ixohuemil.specs.Text.{text_call, TextBegins}

-- demand 1: a refused call returns its number, and each number and byte that it was lent is as it was
abbrev pub PackRecordRefused : Type 0
PackRecordRefused = (t : List ℕ) (cid sn m : ℕ) (s out : List ℕ) (len : ℕ) (n len' : ℕ) (out' : List ℕ)
    → pack_record t cid sn m s out len ≡ (n, len', out') → (n ≡ 0 → ⊥)
    → ((n ≡ 92) ⊎ ((70 ≤ n) × (n ≤ 74))) × (len' ≡ len) × (out' ≡ out)

abbrev pub CutCallRefused : Type 0
CutCallRefused = (run : List ℕ) (l s : ℕ) (output : List ℕ) (top last : ℕ) (n top' last' : ℕ) (output' : List ℕ)
    → cut_call run l s output top last ≡ (n, top', last', output') → (n ≡ 0 → ⊥)
    → (75 ≤ n) × (n ≤ 78) × (top' ≡ top) × (last' ≡ last) × (output' ≡ output)

-- a call that returns 0 was not refused
abbrev pub PackRecordTaken : Type 0
PackRecordTaken = (t : List ℕ) (cid sn m : ℕ) (s out : List ℕ) (len : ℕ) (len' : ℕ) (out' : List ℕ)
    → pack_record t cid sn m s out len ≡ (0, len', out')
    → (is_unit_record t ≡ true) × (pack_of (read_unit t 5) cid sn m s out ≡ (Written len', out'))

abbrev pub CutCallTaken : Type 0
CutCallTaken = (run : List ℕ) (l s : ℕ) (output : List ℕ) (top last : ℕ) (top' last' : ℕ) (output' : List ℕ)
    → cut_call run l s output top last ≡ (0, top', last', output')
    → slot_cut run l s output ≡ (Cut (record { 0 = top'; 1 = last' }), output')

-- the record of a unit whose fields have their widths, as `put_event` writes it, is one that the packer takes, for that unit
abbrev pub PackGiven : Type 0
PackGiven = (g : Given) (cid sn m : ℕ) (s out : List ℕ) (len : ℕ) → SizedUnit g.unit
    → g.place.start ≤ most64 → g.place.len ≤ most64
    → pack_record (unit_record g) cid sn m s out len ≡ pack_call g.unit cid sn m s out len

-- the text of a capture in memory, as far as it has room: what `tlv_capture` prints with memories of these lengths
abbrev pub TextCallClaim : Type 0
TextCallClaim = (b p c out : List ℕ) → let r = text_call b p c out in TextBegins (capture_of p c b) out r.0 r.3

-- Why `begin` meets its contract: the words are too few, or hold a fresh receiver.
use Rattle.std.proofs.Common.{◌≡◌, refl, arith}
use Rattle.capture.specs.declared.session.Tally.{Tally}
use Rattle.capture.specs.Session.{fresh_values, fresh_session}
use Rattle.state.proofs.Clean.{exact_none}
use Rattle.capture.proofs.finish.begin.Goals as goal

-- all counts are 0
fresh : (t : Tally) → (t.frames ≡ 0) × ((t.slot ≡ 0) × ((t.units ≡ 0) × (t.notes ≡ 0))) → t ≡ fresh_values.tally
fresh t e =
    let f = e.0 in
    let s = e.1.0 in
    let u = e.1.1.0 in
    let n = e.1.1.1 in
    let c : ◌≡◌ {A = Tally} (record { frames = t.frames; slot = t.slot; units = t.units; notes = t.notes })
    (record { frames = 0; slot = 0; units = 0; notes = 0 }) = cc in
    c

pub returns-then-words-ge-STATE_WORDS : goal.returns-then-words-ge-STATE_WORDS
unfolding fresh_session
returns-then-words-ge-STATE_WORDS c =
    let l = c.if-words-ge-STATE_WORDS.true in
    record {
      values = rw (fresh _ c.default.ensures);
      short = λ h. absurd (omega arith);
      long = λ h. (rw (c.put_fresh.ensures.sets.state, fresh _ c.default.ensures), c.put_fresh.ensures.clean);
      exact = c.put_fresh.ensures.sets.exact;
    }

pub returns-else-words-ge-STATE_WORDS : goal.returns-else-words-ge-STATE_WORDS
returns-else-words-ge-STATE_WORDS c =
    let l = c.if-words-ge-STATE_WORDS.false in
    record { values = rw (fresh _ c.default.ensures); short = λ h. refl; long = λ h. absurd (omega arith); exact = exact_none _ }

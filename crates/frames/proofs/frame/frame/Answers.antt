-- Why frame meets its contract: each return is one case of the definition.
use mathlib.Core.List.{[]}
use mathlib.Core.Path.{◌≡◌, refl, sym, ◌∙◌, ap}
use native.Mathlib.Omega.{arith}
use Rattle.std.proofs.lemmas.Grind.{common_steps}
use Rattle.refusal.specs.Refusal.{number_of, answer}
use Rattle.tmcc.specs.Block.{decode_of}
use Rattle.tmcc.specs.Decoded.{as_decoded}
use Rattle.state.specs.Words.{state_in}
use Rattle.state.proofs.LentLaws.{stream_in}
use Rattle.state.proofs.Leaves.{leaves-short, leaves-refused, leaves-accepted}
use Rattle.frames.proofs.FrameLaws.{frame-short, frame-busy, decoded-refusal, decoded-layout}
use Rattle.state.specs.State.{Called}
use Rattle.frames.proofs.frame.frame.Goals as goal
use Rattle.frames.proofs.frame.frame.Goals.{After-decode}

pub returns-then-words-lt-STATE_WORDS : goal.returns-then-words-lt-STATE_WORDS
returns-then-words-lt-STATE_WORDS c = leaves-short _ _ _ c.if-words-lt-STATE_WORDS.true

pub returns-then-block-ne-BLOCK_BYTES : goal.returns-then-block-ne-BLOCK_BYTES
returns-then-block-ne-BLOCK_BYTES c = leaves-refused _ _ _ _ c.if-words-lt-STATE_WORDS.false (ap (λ (x : Called). (x, [])) (frame-short _ _ c.if-block-ne-BLOCK_BYTES.true))

pub returns-then-is_busy : goal.returns-then-is_busy
returns-then-is_busy c =
    leaves-refused _ _ _ _ c.if-words-lt-STATE_WORDS.false
    (ap (λ (x : Called). (x, [])) (frame-busy _ _ c.if-block-ne-BLOCK_BYTES.false (sym c.is_busy.ensures ∙ c.if-is_busy.true)))

-- what decoding the block comes to
comes-to : (d : After-decode) → as_decoded d.decode.result ≡ decode_of d.args.block.now (state_in d.args.words.now).config.stream
comes-to d = d.decode.ensures ∙ ap (decode_of _) (sym (stream_in _))

pub returns-in_err-layout : goal.returns-in_err-layout
returns-in_err-layout c =
    let e = rw c.in_err-layout.was at (comes-to (goal.at.returns-in_err-layout c).After-decode) in
    let r : answer c.from_residual.result ≡ number_of c.in_err-layout.field-0.0 = grind (arith, common_steps) in
    let free = sym c.is_busy.ensures ∙ c.if-is_busy.false in
    leaves-refused _ _ _ _ c.if-words-lt-STATE_WORDS.false
    (rw r (ap (λ (x : Called). (x, [])) (decoded-refusal _ _ c.if-block-ne-BLOCK_BYTES.false free _ e)))

pub returns : goal.returns
returns c =
    let e = rw c.in_ok-layout.was at (comes-to (goal.at.returns c).After-decode) in
    let free = sym c.is_busy.ensures ∙ c.if-is_busy.false in
    leaves-accepted _ _ _ _ _ _ _ c.if-words-lt-STATE_WORDS.false refl c.put_frame.ensures
    (ap (λ (x : Called). (x, [])) (decoded-layout _ _ c.if-block-ne-BLOCK_BYTES.false free _ e))

-- Why lost_frame meets its contract: each return is one case of the definition.
use mathlib.Core.List.{[]}
use mathlib.Core.Path.{refl, sym, ◌∙◌, ap}
use Rattle.state.proofs.Leaves.{leaves-short, leaves-refused, leaves-accepted}
use Rattle.frames.proofs.FrameLaws.{lost-frame-busy, lost-frame-accepted}
use Rattle.state.specs.State.{Called}
use Rattle.frames.proofs.frame.lost_frame.Goals as goal

pub returns-then-words-lt-STATE_WORDS : goal.returns-then-words-lt-STATE_WORDS
returns-then-words-lt-STATE_WORDS c = leaves-short _ _ _ c.if-words-lt-STATE_WORDS.true

pub returns-then-is_busy : goal.returns-then-is_busy
returns-then-is_busy c =
    leaves-refused _ _ _ _ c.if-words-lt-STATE_WORDS.false
    (ap (λ (x : Called). (x, [])) (lost-frame-busy _ (sym c.is_busy.ensures ∙ c.if-is_busy.true)))

pub returns : goal.returns
returns c =
    leaves-accepted _ _ _ _ _ _ _ c.if-words-lt-STATE_WORDS.false refl c.lose.ensures
    (ap (λ (x : Called). (x, [])) (lost-frame-accepted _ (sym c.is_busy.ensures ∙ c.if-is_busy.false)))

-- What a capture prints, by the commands behind its C alone.
use mathlib.Core.Path.{sym, ◌∙◌}
use Rattle.capture_account.specs.Events.{meaning_text}
use Rattle.capture_account.specs.Claims.{CapturePrints, MemoriesAlike}
use Rattle.capture_account.proofs.Texts.{capture_text}
use Rattle.capture_account.proofs.Totals.{capture_totals}
use Rattle.capture_account.proofs.Accounts.{capture_accounts}

pub capture_prints : CapturePrints
unfolding meaning_text
capture_prints p c b s h =
    let a = capture_accounts p c b s h in
    let t = capture_totals p c b in
    capture_text p c b ∙ rw (t.units, t.notes, a.frames, a.refusal, a.placed)

pub memories_alike : MemoriesAlike
memories_alike p₁ c₁ p₂ c₂ b s h₁ h₂ = capture_prints p₁ c₁ b s h₁ ∙ sym (capture_prints p₂ c₂ b s h₂)

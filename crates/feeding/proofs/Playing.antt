-- Why a capture that is played gives its lines: each call writes the first of the lines that are still to come.
use Prim.Native.Nat.{ℕ, ◌<◌, ◌≤◌}
use mathlib.Core.Path.{◌≡◌, refl, sym, ◌∙◌, ap}
use mathlib.Core.Bool.{Bool, true, false}
use mathlib.Core.List.{List, [], ◌++◌, append_assoc, append-nil}
use native.Mathlib.Omega.{arith}
use borrow.Author.Tests.{eqb-true, eqb-false}
use lib.ListN.{length, take, drop}
use lib.Seq.{take-paste, take-length, length-take-le}
use lib.Dec.{eqb}
use Rattle.wire.specs.Memory.{pasted}
use Rattle.lines.specs.Text.{wrote}
use Rattle.capture.specs.Session.{busy}
use Rattle.capture.specs.Command.{longest_command, size_of, whole}
use Rattle.capture.proofs.CommandLaws.{size_none}
use Rattle.capture.specs.Capture.{last_line, text_of, capture_of}
use Rattle.feeding.specs.Feed.{World, held_of, kept_of, left_by, entered, fed_from}
use Rattle.feeding.proofs.FeedLaws.{fed-long, kept-all, kept-none}
use Rattle.feeding.specs.Claims.{Right}
use Rattle.feeding.specs.Plays.{Player, fed, after_feed, poured, after_pour, Plays, stops, feeds, pours, first, PlayClaim}
use Rattle.capture.proofs.Drains.{drain-idle}
use Rattle.capture.proofs.Pours.{pour_claim}
use Rattle.capture.proofs.Texts.{text-step, text-behind, whole-size}
use Rattle.feeding.proofs.Feeds.{feed_claim, ended-text}

-- what was written from the front on
front : (out o t : List ℕ) (r : ℕ) → (r, o) ≡ wrote out 0 t → take r o ≡ t
unfolding wrote pasted
front out o t r e =
    ap (λ (x : ℕ × List ℕ). take x.0 x.1) e ∙ take-paste out 0 t (length t) (omega arith) (omega arith) ∙ take-length t

pub record Good (x : Player) : Type 0 where
  pub part : (x.held ≡ 0 → ⊥) → x.held < size_of (held_of x.command x.held)
  pub held : x.held ≤ length x.command
  pub long : longest_command ≤ length x.command

-- the lines to come
abbrev pub to_come : Player → List ℕ → List ℕ
to_come x b = text_of x.session x.packet x.collecting (held_of x.command x.held ++ b)

pub good-kept : (x : Player) → Good x → x.held ≡ kept_of x.command x.held
good-kept x g = go (eqb x.held 0) refl
  where
    go : (t : Bool) → eqb x.held 0 ≡ t → x.held ≡ kept_of x.command x.held
    go true e =
        let z = eqb-true x.held 0 e in
        let h = length-take-le x.held x.command g.held in
        let s = size_none (held_of x.command x.held) (h ∙ z) in
        z ∙ sym (kept-none x.command x.held g.held (omega arith))
    go false e = sym (kept-all x.command x.held g.held (g.part (eqb-false x.held 0 e)))

module _ (x : Player) (g : Good x) (block later out : List ℕ) where
  abbrev pub w : World
  w = entered x.session x.held x.command x.packet x.collecting out

  pub right : Right block w
  right = record { part = g.part; held = g.held; long = g.long; read = omega arith; written = omega arith }

  fed_world : fed x block out ≡ left_by (fed_from block w)
  fed_world =
      fed-long x.session x.held x.command block x.packet x.collecting out g.long x.held (good-kept x g) refl

  pub feed_good : Good (after_feed (fed x block out))
  feed_good = let r = (feed_claim block w right).0 in rw fed_world (record { part = r.part; held = r.held; long = r.long })

  feed_text : to_come x (block ++ later)
      ≡ take (fed x block out).0.written (fed x block out).4
      ++ to_come (after_feed (fed x block out)) (drop (fed x block out).0.read block ++ later)
  feed_text =
      let f = (feed_claim block w right).1 in
      rw (fed_world, front out (fed_from block w).out f.text (fed_from block w).written f.written) (f.rest later)

module _ (x : Player) (g : Good x) (b out : List ℕ) where
  pour_good : Good (after_pour x (poured x out))
  pour_good = record { part = g.part; held = g.held; long = g.long }

  pour_text : to_come x b ≡ take (poured x out).0.at (poured x out).2 ++ to_come (after_pour x (poured x out)) b
  pour_text =
      let y = pour_claim x.session x.packet x.collecting out 0 (omega arith) in
      rw (front out (poured x out).2 y.text (poured x out).0.at y.written)
      (text-behind x.session x.packet x.collecting _ y.text _ _ y.owed)

-- one text, and then the rest
then-more : (x w m t z : List ℕ) → x ≡ w ++ m → m ≡ t ++ z → x ≡ w ++ t ++ z
then-more x w m t z e f = e ∙ ap (λ (q : List ℕ). w ++ q) f ∙ sym (append_assoc w t z)

plays_text : {x y : Player} {b t l : List ℕ} → Plays x b t y l → Good x → Good y × (to_come x b ≡ t ++ to_come y l)
plays_text stops g = (g, refl)
plays_text (feeds {x = x} {y = y} {t = t} {l = l} block later out p) g =
    let r = fed x block out in
    let i = plays_text p (feed_good x g block later out) in (
      i.0,
      then-more (to_come x (block ++ later)) (take r.0.written r.4)
          (to_come (after_feed r) (drop r.0.read block ++ later)) t (to_come y l) (feed_text x g block later out) i.1,
    )
plays_text (pours {x = x} {y = y} {b = b} {t = t} {l = l} out p) g =
    let r = poured x out in
    let i = plays_text p (pour_good x g b out) in (
      i.0,
      then-more (to_come x b) (take r.0.at r.2) (to_come (after_pour x r) b) t (to_come y l) (pour_text x g b out) i.1,
    )

-- what is held is not whole, so that no command is read from it
part-read : (y : Player) → Good y → whole (held_of y.command y.held) ≡ false
part-read y g = go (whole (held_of y.command y.held)) refl
  where
    go : (t : Bool) → whole (held_of y.command y.held) ≡ t → t ≡ false
    go true e =
        let z = whole-size (held_of y.command y.held) e in
        let h = length-take-le y.held y.command g.held in
        let p = g.part (λ q. omega arith) in
        absurd (omega arith)
    go false e = refl

-- nothing is to come any more but the last line
pub idle-text : (y : Player) → Good y → busy y.session ≡ false → to_come y [] ≡ last_line y.session.tally
idle-text y g i =
    ap (text_of y.session y.packet y.collecting) (append-nil (held_of y.command y.held))
    ∙ text-step y.session y.packet y.collecting (held_of y.command y.held)
    ∙ rw (drain-idle y.session y.packet y.collecting i, part-read y g)

pub first_good : (command p c : List ℕ) → longest_command ≤ length command → Good (first command p c)
first_good command p c h = record { part = λ z. absurd (z refl); held = omega arith; long = h }

pub play_claim : PlayClaim
unfolding capture_of
play_claim command p c b t y l h d =
    let i = plays_text d (first_good command p c h) in (
      λ q e. i.1 ∙ ap (λ (z : List ℕ). t ++ z) (ap (to_come y) e ∙ idle-text y i.0 q),
      λ q. i.1 ∙ ap (λ (z : List ℕ). t ++ z) (ended-text y.session y.packet y.collecting _ q),
    )

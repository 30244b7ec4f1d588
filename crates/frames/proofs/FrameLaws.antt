-- Laws of specs/Frame.antt.
use Rattle.std.specs.Prelude.{ℕ, ◌<◌, ◌≤◌, true, false, List, ◌≡◌, refl, length, ltb, Ok, Err}
use Rattle.std.proofs.Math.Bool.{or-true}
use borrow.Author.Tests.{lt-ltb, le-ltb, eq-eqb, ne_eqb, ltb-false}
use Rattle.refusal.specs.declared.Refusal.{Refusal}
use Rattle.refusal.specs.Refusal.{number_of}
use Rattle.refusal.proofs.Numbers.{number-some}
use Rattle.tmcc.specs.declared.layout.Layout.{Layout as ALayout}
use Rattle.tmcc.specs.Layout.{as_layout}
use Rattle.tmcc.specs.Decoded.{as_decoded}
use Rattle.tmcc.specs.Block.{decode_of}
use Rattle.state.specs.State.{State, with_frame, refused, accepted}
use Rattle.wire.proofs.Choice.{neither}
use Rattle.frames.specs.Frame.{frame_busy, frame_of, loss_of, lost_frame_of}

-- a loss by itself condemns no unit
pub loss_channels : (st : State) → (loss_of st).channels ≡ st.channels
unfolding loss_of
loss_channels st = refl

-- busy, and not
module _ (st : State) where
  pub slots-due : st.frame.at < 120 → frame_busy st ≡ true
  unfolding frame_busy
  slots-due h = rw (lt-ltb _ _ h)

  pub next-owed : st.owed ≡ true → frame_busy st ≡ true
  unfolding frame_busy
  next-owed e = rw e (or-true (ltb st.frame.at 120))

  pub none-due : 120 ≤ st.frame.at → frame_busy st ≡ st.owed
  unfolding frame_busy
  none-due h = rw (le-ltb _ _ h)

  -- what a state that is not busy has
  pub free : frame_busy st ≡ false → (120 ≤ st.frame.at) × (st.owed ≡ false)
  unfolding frame_busy
  free e = let p = neither (ltb st.frame.at 120) st.owed e in (ltb-false _ _ p.0, p.1)

-- the cases of frame and of lost frame
module _ (st : State) (b : List ℕ) where
  pub frame-short : (length b ≡ 1178 → ⊥) → frame_of st b ≡ refused 10 st
  unfolding frame_of
  frame-short l = rw (ne_eqb _ _ l)

  module _ (l : length b ≡ 1178) where
    pub frame-busy : frame_busy st ≡ true → frame_of st b ≡ refused 11 st
    unfolding frame_of
    frame-busy e = rw (eq-eqb _ _ l, e)

    module _ (free : frame_busy st ≡ false) where
      pub frame_refused : ((decode_of b st.config.stream).refusal ≡ 0 → ⊥)
          → frame_of st b ≡ refused (decode_of b st.config.stream).refusal st
      unfolding frame_of
      frame_refused n = rw (eq-eqb _ _ l, free, ne_eqb _ _ n)

      pub frame-accepted : (decode_of b st.config.stream).refusal ≡ 0
          → frame_of st b ≡ accepted (with_frame st (record { layout = (decode_of b st.config.stream).layout; at = 0 }))
      unfolding frame_of
      frame-accepted z = rw (eq-eqb _ _ l, free, eq-eqb _ _ z)

      -- the same, by what the block's code answers
      pub decoded-refusal : (r : Refusal) → as_decoded (Err r) ≡ decode_of b st.config.stream → frame_of st b ≡ refused (number_of r) st
      unfolding frame_of
      decoded-refusal r e = rw (eq-eqb _ _ l, free, ← e, ne_eqb _ _ (number-some r))

      pub decoded-layout : (y : ALayout) → as_decoded (Ok y) ≡ decode_of b st.config.stream
          → frame_of st b ≡ accepted (with_frame st (record { layout = as_layout y; at = 0 }))
      unfolding frame_of
      decoded-layout y e = rw (eq-eqb _ _ l, free, ← e)

module _ (st : State) where
  pub lost-frame-busy : frame_busy st ≡ true → lost_frame_of st ≡ refused 11 st
  unfolding lost_frame_of
  lost-frame-busy e = rw e

  pub lost-frame-accepted : frame_busy st ≡ false → lost_frame_of st ≡ accepted (loss_of st)
  unfolding lost_frame_of
  lost-frame-accepted e = rw e

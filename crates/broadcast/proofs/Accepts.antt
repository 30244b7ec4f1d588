-- Good input is accepted: a slot that has its length passes the test of slot, since no slot is longer than 5,049 bytes.
use Prim.Native.Nat.{ℕ, suc, ◌+◌, ◌<◌}
use mathlib.Core.Path.{◌≡◌, sym, ◌∙◌, ap}
use mathlib.Core.List.{List, [], ◌∷◌, map}
use native.Mathlib.Omega.{arith}
use lib.ListN.{length, get_or, drop, length-map}
use lib.Seq.{drop-cons}
use Rattle.tmcc.specs.Layout.{Layout}
use Rattle.tmcc.specs.Layout.{blank_layout, layout_of}
use Rattle.tmcc.specs.Block.{own_stream}
use Rattle.tmcc.proofs.Laws.{accepted-layout, layout-sizes, layout-most}
use Rattle.tlv.specs.Run.{searching}
use Rattle.reassembly.specs.Run.{fresh}
use Rattle.state.specs.Start.{start_of}
use Rattle.state.proofs.StartLaws.{started as fresh_start, accepts as start-accepts}
use Rattle.frames.proofs.SlotLaws.{length-right}
use Rattle.broadcast.specs.Frames.{Frame, layout_in}
use Rattle.broadcast.specs.Demand3.{started}
use Rattle.broadcast.specs.Accepts.{GoodFrame, AllGood, Accepts}
use Rattle.broadcast.proofs.SlotCalls.{SlotsFit}
use Rattle.broadcast.proofs.Reading.{FramesFit, frames_hand}
use Rattle.broadcast.proofs.Nexts.{Few, few_hand}
use Rattle.broadcast.proofs.Demand3.{start-at, shows-account, made}

-- the slots from number s on
module _ (b : List ℕ) (own : ℕ) where
  slots-fit : (s : ℕ) (ds : List (List ℕ)) → s + length ds ≡ 120 → map length ds ≡ drop s (layout_of b own).lengths
      → SlotsFit (layout_of b own) s ds
  slots-fit s [] n e = tt
  slots-fit s (d ∷ ds) n e =
      let ls = (layout_of b own).lengths in
      let h : s < 120 = omega arith in
      let k : s < length ls = rw (layout-sizes b own).1 h in
      let q = e ∙ drop-cons ls s 0 k in
      let here : length d ≡ get_or ls s 0 = cc in
      let rest : map length ds ≡ drop (suc s) ls = cc in
      (length-right _ _ (omega (arith, layout-most b own s h)) here, slots-fit (suc s) ds (omega arith) rest)

module _ (stream : ℕ) where
  frame-lengths : (f : Frame) → GoodFrame stream f
      → map length f.slots ≡ (layout_of f.block (own_stream f.block stream)).lengths
  frame-lengths f g = g.lengths ∙ ap (λ (l : Layout). l.lengths) (accepted-layout f.block stream g.block)

  frame-whole : (f : Frame) → GoodFrame stream f → length f.slots ≡ 120
  frame-whole f g =
      sym (length-map f.slots length) ∙ ap length (frame-lengths f g) ∙ (layout-sizes f.block (own_stream f.block stream)).1

  frame-fits : (f : Frame) → GoodFrame stream f → SlotsFit (layout_in stream f) 0 f.slots
  frame-fits f g =
      rw (accepted-layout f.block stream g.block)
      (slots-fit f.block (own_stream f.block stream) 0 f.slots (omega (arith, frame-whole f g)) (frame-lengths f g))

  frames-fit : (fs : List Frame) → AllGood stream fs → FramesFit stream fs
  frames-fit [] h = tt
  frames-fit (f ∷ fs) h = (h.0.block, frame-whole f h.0, frame-fits f h.0, frames-fit fs h.1)

pub accepts : Accepts
accepts cfg s fs g d p c hp hc =
    let e : (start_of cfg).refusal ≡ 0 = rw (fresh_start cfg (start-accepts cfg s)) in
    let w = frames-fit cfg.stream fs g in
    let at = start-at cfg p c e (omega arith) hc in
    record {
      readable = made cfg e fs w d p c at;
      none-refused = λ xs h. (shows-account cfg e fs w d p c at xs h).1;
      shows-account = λ xs h. (shows-account cfg e fs w d p c at xs h).0;
      next-ends = λ xs h.
          frames_hand cfg d Few (few_hand cfg) 0 fs blank_layout (started cfg p c) searching (λ k. fresh) at w xs h 0;
    }

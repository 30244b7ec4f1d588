-- Why store_channel meets its contract: the phase and the psn, the unit behind them, and two stores behind that.
use Prim.Native.Nat.{◌+◌, ◌≤◌}
use mathlib.Core.Path.{◌≡◌, refl}
use mathlib.Core.List.{[], ◌∷◌, ◌++◌}
use native.Mathlib.Nat.{add-zero}
use native.Mathlib.Omega.{arith}
use lib.ListN.{length, length-append}
use Rattle.wire.specs.Words.{put_from}
use Rattle.wire.proofs.WordsLaws.{stores, put_on}
use Rattle.words.specs.Channel.{channel_words, phase_word, unit_words}
use Rattle.words.proofs.ChannelLaws.{length-unit}
use Rattle.words.proofs.channel.store_channel.Goals as goal

pub returns : goal.returns
unfolding channel_words put_from
returns c =
    let t = c.args.t.now in
    let i = c.args.i in
    let ch = c.args.ch in
    let u = ch.current.unit in
    let h = c.store_heard in
    let w = c.store_unit in
    let xs = phase_word ch.phase ∷ ch.last.0 ∷ [] in
    let ys = ch.current.counter ∷ ch.current.len ∷ [] in
    let v = w.new.t in
    let e : i + 12 + 1 ≡ i + 13 = omega arith in
    let l : i + 12 + 2 ≤ length v = omega (arith, c.requires, h.ensures.put.size, w.ensures.put.size) in
    record {
      put =
          put_on t _ _ i 12 2 14 (xs ++ unit_words u) ys (rw (length-append, length-unit u)) refl
          (put_on t _ _ i 2 10 12 xs (unit_words u) refl refl h.ensures.put w.ensures.put)
          (rw (add-zero (i + 12), e) at (stores v (i + 12) 2 ys refl l));
      sized =
          record {
            last = h.ensures.sized;
            unit = w.ensures.sized;
            counter = omega (arith, c.well_formed);
          };
    }

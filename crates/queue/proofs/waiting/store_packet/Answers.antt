-- Why store_packet meets its contract: ten stores.
use mathlib.Core.Path.{refl}
use native.Mathlib.Nat.{add-zero}
use native.Mathlib.Omega.{arith}
use Rattle.wire.specs.Words.{put_from}
use Rattle.wire.proofs.WordsLaws.{stores}
use Rattle.queue.specs.Words.{packet_words}
use Rattle.queue.proofs.WordsLaws.{indicator-number}
use Rattle.queue.proofs.waiting.store_packet.Goals as goal

pub returns : goal.returns
unfolding packet_words put_from
returns c =
    let t = c.args.t.now in
    let i = c.args.i in
    record {
      put =
          rw (c.from-2.ensures, c.from.ensures, indicator-number c.args.packet.payload.indicator)
          (rw (add-zero i) at (stores t i 10 (packet_words c.args.packet) refl (omega (arith, c.requires))));
      sized =
          record {
            id = omega (arith, c.well_formed);
            psn = omega (arith, c.well_formed);
            kind = omega (arith, c.well_formed);
            counter = omega (arith, c.well_formed);
            mpu = omega (arith, c.well_formed);
          };
    }

-- Why store_unit meets its contract: four stores, and the fields behind them.
use mathlib.Core.Path.{refl}
use mathlib.Core.List.{[], ◌∷◌}
use native.Mathlib.Nat.{add-zero}
use native.Mathlib.Omega.{arith}
use Rattle.wire.specs.Words.{put_from}
use Rattle.wire.proofs.WordsLaws.{stores, put_on}
use Rattle.words.specs.Channel.{unit_words, field_words}
use Rattle.words.proofs.channel.store_unit.Goals as goal

pub returns : goal.returns
unfolding unit_words put_from
returns c =
    let t = c.args.t.now in
    let i = c.args.i in
    let u = c.args.unit in
    let xs = u.packet_id ∷ u.kind ∷ u.psn.0 ∷ u.mpu ∷ [] in
    let f = c.store_fields in
    record {
      put =
          put_on t _ _ i 4 6 10 xs (field_words u.fields) refl refl
          (rw (add-zero i) at (stores t i 4 xs refl (omega (arith, c.requires)))) f.ensures.put;
      sized =
          record {
            id = omega (arith, c.well_formed);
            kind = omega (arith, c.well_formed);
            psn = omega (arith, c.well_formed);
            mpu = omega (arith, c.well_formed);
            fields = f.ensures.sized;
          };
    }

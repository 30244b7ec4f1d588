-- Why store_fields meets its contract: six stores, one behind the other; the types bound the fields.
use mathlib.Core.Path.{refl}
use native.Mathlib.Nat.{add-zero}
use native.Mathlib.Omega.{arith}
use Rattle.wire.specs.Words.{put_from}
use Rattle.wire.proofs.WordsLaws.{stores}
use Rattle.words.specs.Channel.{field_words}
use Rattle.words.proofs.channel.store_fields.Goals as goal

pub returns : goal.returns
unfolding field_words put_from
returns c =
    let a = c.args in
    record {
      put = rw (add-zero a.i) at (stores a.t.now a.i 6 (field_words a.fields) refl (omega arith));
      sized =
          record {
            fragment = omega arith;
            sample = omega arith;
            offset = omega arith;
            priority = omega arith;
            dependency = omega arith;
            item = omega arith;
          };
    }

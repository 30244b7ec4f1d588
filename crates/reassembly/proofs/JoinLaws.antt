-- Laws of specs/Join.antt.
use Rattle.std.specs.Prelude.{◌≡◌, ◌+◌, ◌<◌, ◌≤◌, Bool, true, false}
use borrow.Author.Tests.{lt-ltb, le-ltb}
use Rattle.reassembly.specs.declared.config.Rules.{Rules}
use Rattle.reassembly.specs.declared.channel.Phase.TheVariants.{Waiting}
use Rattle.reassembly.specs.declared.channel.Channel.{Channel}
use Rattle.reassembly.specs.declared.join.Piece.{Piece}
use Rattle.reassembly.specs.declared.note.JoinNote.TheVariants.{Apart}
use Rattle.reassembly.specs.Notes.{number_of}
use Rattle.reassembly.specs.Unit.{agrees}
use Rattle.reassembly.specs.Join.{kept, counter_follows, grown, extended}

module _ (ch : Channel) (p : Piece) (rules : Rules) (last : Bool) where
  pub extended-apart : agrees ch.current.unit p.unit ≡ false → extended ch p rules last ≡ kept ch Waiting (number_of Apart) false
  unfolding extended
  extended-apart a = rw a

  pub extended_uncounted : agrees ch.current.unit p.unit ≡ true → counter_follows ch.current.counter p.counter ≡ false
      → extended ch p rules last ≡ kept ch Waiting (number_of Apart) false
  unfolding extended
  extended_uncounted a c = rw (a, c)

  pub extended-over : agrees ch.current.unit p.unit ≡ true → counter_follows ch.current.counter p.counter ≡ true
      → rules.limit < ch.current.len + p.len → extended ch p rules last ≡ kept ch Waiting 0 true
  unfolding extended
  extended-over a c h = rw (a, c, lt-ltb _ _ h)

  pub extended-on : agrees ch.current.unit p.unit ≡ true → counter_follows ch.current.counter p.counter ≡ true
      → ch.current.len + p.len ≤ rules.limit → extended ch p rules last ≡ grown ch p last
  unfolding extended
  extended-on a c h = rw (a, c, le-ltb _ _ h)

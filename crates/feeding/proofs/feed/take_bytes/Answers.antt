-- Why `take_bytes` meets its contract: the command is whole in the block, or bytes are held, or it is not whole.
use Rattle.std.proofs.Common.{◌≡◌, ap, drop, sym, ◌∙◌, arith}
use Rattle.wire.proofs.MemoryLaws.{slice-rest}
use Rattle.feeding.specs.Turn.{kept_turn}
use Rattle.feeding.specs.Feed.{whole_size, gathered_of, bytes_taken}
use Rattle.feeding.proofs.FeedLaws.{taken-whole, taken-held, taken-part, of-some, of-none}
use Rattle.feeding.proofs.feed.take_bytes.Goals as goal
use Rattle.feeding.proofs.feed.take_bytes.Goals.{in_default-via-in-Some+else-held-eq0 as held, in_default-via-in_default as part}

pub returns-in-Some : goal.returns-in-Some
returns-in-Some c =
    let e = rw (slice-rest, c.in-Some.is) at c.whole_size.ensures.0 in
    let k = of-some _ (whole_size (drop c.args.read c.args.block.now)) e in
    rw (taken-whole c.args.command.now c.args.held c.args.block.now c.args.read c.if-held-eq0.true (λ z. omega arith), k.0)

pub returns-in_default : goal.returns-in_default
returns-in_default c =
    let e = rw slice-rest at c.whole_size.ensures.0 in
    let t : bytes_taken c.args.command.now c.args.held c.args.block.now c.args.read
    ≡ gathered_of c.args.command.now c.args.held c.args.block.now c.args.read =
    elim c.in_default.branch [
      | held w ↦ taken-held _ _ _ _ w.if-held-eq0.false
      | part w ↦ taken-part _ _ _ _ (of-none _ (sym w.in_default.is ∙ e))
    ] in
    c.gather.ensures ∙ ap kept_turn (sym t)

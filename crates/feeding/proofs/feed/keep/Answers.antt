-- Why `keep` meets its contract: by the length of the command that they begin.
use Rattle.std.proofs.Common.{◌≡◌, ◌-◌, ◌<◌, ◌⊎◌, inl, inr, ℕ, sym, arith}
use Rattle.feeding.proofs.FeedLaws.{kept-past, kept-all, kept-none, keeps-all, keeps-none}
use Rattle.feeding.proofs.feed.keep.Goals as goal

pub returns-in-Some : goal.returns-in-Some
returns-in-Some c =
    let h = c.in-Some.ensures.lookup.0 in
    let s : c.args.held - 0 ≡ c.args.held = omega arith in
    let z = rw (h.2, s) at c.size.ensures in
    let k = rw z.0 at c.if-held-size.true in
    (sym (kept-all _ _ h.1 k), keeps-all _ _ h.1 k (rw z.0 at z.1))

pub returns-in_default : goal.returns-in_default
returns-in_default c =
    let h = c.in-Some.ensures.lookup.0 in
    let s : c.args.held - 0 ≡ c.args.held = omega arith in
    let z = rw (h.2, s) at c.size.ensures in
    (sym (kept-none _ _ h.1 (rw z.0 at c.if-held-size.false)), keeps-none _)

past : (held size : ℕ) → (held < 0) ⊎ (size < held) → size < held
past held size (inl e) = omega arith
past held size (inr e) = e

pub returns-in_default-2 : goal.returns-in_default-2
returns-in_default-2 c =
    let h = rw c.in_default.is at c.get.ensures.lookup in
    (sym (kept-past _ _ (past _ _ h.0)), keeps-none _)

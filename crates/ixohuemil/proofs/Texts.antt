-- Why the text of a capture in memory is what the program prints, as far as it has room.
use Prim.Native.Nat.{ℕ, ◌+◌}
use mathlib.Core.Path.{◌≡◌, refl, ◌∙◌, ap}
use mathlib.Core.Bool.{Bool, true, false}
use mathlib.Core.List.{List, [], ◌++◌, append-nil}
use native.Mathlib.Omega.{arith}
use borrow.Author.Tests.{leb-true, leb-false}
use lib.ListN.{length, replicate, length-append, length-replicate}
use Rattle.lines.specs.Text.{wrote}
use Rattle.lines.proofs.TextLaws.{wrote-end, written-end, written-length, written-more}
use Rattle.lines.specs.Line.{longest_line}
use Rattle.lines.proofs.LineLaws.{end-67}
use Rattle.capture.specs.Command.{longest_command}
use Rattle.capture.specs.Capture.{last_line, capture_of}
use Rattle.capture.specs.Steps.{roomy}
use Rattle.capture.proofs.StepsLaws.{finish_full, finish_line}
use Rattle.feeding.specs.Feed.{FeedLeaves}
use Rattle.feeding.specs.Plays.{fed, first, AtOnce}
use Rattle.feeding.proofs.Whole.{whole_claim}
use Rattle.ixohuemil.specs.Text.{text_call, TextBegins, finished_by}
use Rattle.ixohuemil.specs.Claims.{TextCallClaim}

module _ (lines out : List ℕ) (f : FeedLeaves) (a : AtOnce lines out f) where
  abbrev last : List ℕ
  last = last_line f.0.session.tally

  begins : TextBegins lines out (finished_by f).0 (finished_by f).3
  begins = go (roomy (length f.4) f.0.written) refl
    where
      e : f.0.written ≡ 0 + length a.text
      e = written-end out f.4 0 f.0.written a.text a.written

      l : length f.4 ≡ length out
      l = written-length out f.4 0 f.0.written a.text a.written (omega (arith, a.within))

      go : (t : Bool) → roomy (length f.4) f.0.written ≡ t → TextBegins lines out (finished_by f).0 (finished_by f).3
      go true r =
          let room = leb-true (f.0.written + longest_line) (length f.4) r in
          let m = end-67 f.0.session.tally.frames f.0.session.tally.units f.0.session.tally.notes in
          let w = wrote f.4 f.0.written last in
          let k = finish_line f.0.session.tally f.4 f.0.written r in
          record {
            text = a.text ++ last;
            rest = [];
            whole = a.whole ∙ rw (a.last r, append-nil (a.text ++ last));
            put =
                rw k (written-more out f.4 0 f.0.written a.text a.written w.1 w.0 last refl (omega (arith, e, l)));
            within = rw (k, wrote-end f.4 f.0.written last) (omega (arith, l));
            all = λ h. refl;
          }
      go false r =
          let room = leb-false (f.0.written + longest_line) (length f.4) r in
          let k = finish_full f.0.session.tally f.4 f.0.written r in
          let n : length lines ≡ length a.text + length a.rest = ap length a.whole ∙ length-append a.text a.rest in
          record {
            text = a.text;
            rest = a.rest;
            whole = a.whole;
            put = rw k a.written;
            within = rw k (omega (arith, e, a.within));
            all = λ h. absurd (omega (arith, l, rw k at h));
          }

pub text-call_claim : TextCallClaim
unfolding text_call
text-call_claim b p c out =
    let command : List ℕ = replicate longest_command 0 in
    begins (capture_of p c b) out (fed (first command p c) b out) (whole_claim command p c b out (rw length-replicate (omega arith)))

-- Runs by their lists: of a list in two parts, and of a list of one packet_id.
use Rattle.std.proofs.Common.{◌≡◌, Bool, true, false, ◌&&◌, eqb, List, [], ◌∷◌, ◌++◌, sym, refl, ap, ◌∙◌, append_assoc, eqb-true}
use mathlib.Core.Bool.{false≢true}
use Rattle.wire.specs.Lists.{all}
use Rattle.reassembly.specs.Run.{Event, Lane, step, with_lane, run, run_lane, lanes_after}
use Rattle.reassembly.specs.Claims.{RunAppend, RunAlone}

pub run-append : RunAppend
unfolding run lanes_after
run-append A rules f [] ys = (refl, refl)
run-append A rules f (x ∷ xs) ys =
    let s = step rules (f x.1.place) x.0 x.1 in
    let g = with_lane rules f x.1.place s.lane in
    let t = run-append A rules g xs ys in (
      ap (λ (es : List (Event A)). s.events ++ es) t.0
          ∙ sym (append_assoc s.events (run rules g xs) (run rules (lanes_after rules g xs) ys)),
      t.1,
    )

and_both : (a b : Bool) → a && b ≡ true → (a ≡ true) × (b ≡ true)
and_both true b h = (refl, h)
and_both false b h = absurd (false≢true h)

pub run_alone : RunAlone
unfolding run run_lane
run_alone A rules f k [] h = refl
run_alone A rules f k (x ∷ xs) h =
    let t = and_both (eqb k x.1.place) (all (λ x. eqb k x.1.place) xs) h in
    let i = x.1.place in
    let s = step rules (f i) x.0 x.1 in
    let g = with_lane rules f i s.lane in
    let own : g k ≡ s.lane = rw t.0 in
    ap (λ (es : List (Event A)). s.events ++ es) (run_alone A rules g k xs t.1 ∙ ap (λ (l : Lane A). run_lane rules l xs) own)
    ∙ ap (λ (l : Lane A). (step rules l x.0 x.1).events ++ run_lane rules (step rules l x.0 x.1).lane xs)
    (ap f (sym (eqb-true k i t.0)))

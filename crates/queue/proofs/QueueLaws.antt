-- Laws of specs/Queue.antt.
use Rattle.std.specs.Prelude.{ℕ, ◌≡◌, true, false, List, eqb}
use Rattle.std.proofs.Common.{◌∙◌, ap, eq-eqb, ne_eqb}
use Rattle.wire.proofs.Choice.{chosen, chosen-not}
use Rattle.mmtp.specs.declared.unit.Step.{Step}
use Rattle.reassembly.specs.declared.note.JoinNote.TheVariants.{AboveLimit}
use Rattle.reassembly.specs.Notes.{number_of}
use Rattle.queue.specs.Event.{Nothing, Note, Unit}
use Rattle.queue.specs.declared.event.Given.{Given}
use Rattle.queue.specs.Waiting.{Give, Nothing as NoUnit, One, Many, Aggregate, Queue}
use Rattle.queue.specs.Queue.{giving, many_by, next_unit, give_by, event_taken}

-- Laws.
module _ (q : Queue) (p : List ℕ) where
  pub taken-note : (q.note ≡ 0 → ⊥)
      → event_taken q p
      ≡ record {
        event = Note q.note q.packet_id;
        queue = record { note = 0; over = q.over; packet_id = q.packet_id; give = q.give };
      }
  unfolding event_taken
  taken-note h = chosen-not (eqb q.note 0) _ _ (ne_eqb q.note 0 h)

  pub taken-over : q.note ≡ 0 → q.over ≡ true
      → event_taken q p
      ≡ record {
        event = Note (number_of AboveLimit) q.packet_id;
        queue = record { note = 0; over = false; packet_id = q.packet_id; give = q.give };
      }
  unfolding event_taken
  taken-over h o = chosen (eqb q.note 0) _ _ (eq-eqb q.note 0 h) ∙ chosen q.over _ _ o

  pub taken-give : q.note ≡ 0 → q.over ≡ false → event_taken q p ≡ give_by q.give q p
  unfolding event_taken
  taken-give h o = chosen (eqb q.note 0) _ _ (eq-eqb q.note 0 h) ∙ chosen-not q.over _ _ o

  -- its units, one at a time
  module _ (h : q.note ≡ 0) (o : q.over ≡ false) where
    taken-by : (g : Give) → q.give ≡ g → event_taken q p ≡ give_by g q p
    taken-by g e = taken-give h o ∙ ap (λ (x : Give). give_by x q p) e

    pub taken-nothing : q.give ≡ NoUnit → event_taken q p ≡ record { event = Nothing; queue = q }
    taken-nothing e = taken-by NoUnit e

    pub taken-one : (g : Given) → q.give ≡ One g → event_taken q p ≡ record { event = Unit g; queue = giving q NoUnit }
    taken-one g e = taken-by (One g) e

    pub taken_many : (a : Aggregate) → q.give ≡ Many a → (s : Step) → next_unit a p ≡ s → event_taken q p ≡ many_by s a q
    taken_many a e s n = taken-by (Many a) e ∙ ap (λ (x : Step). many_by x a q) n

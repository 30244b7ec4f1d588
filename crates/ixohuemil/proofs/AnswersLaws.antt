-- Laws of specs/Answers.antt.
use Rattle.std.specs.Prelude.{ℕ, ◌≡◌, true, false, List, Result, Ok, Err}
use Rattle.refusal.specs.declared.Refusal.{Refusal}
use Rattle.refusal.specs.Refusal.{number_of, answer}
use Rattle.tmcc.specs.declared.layout.Pointers.{Pointers}
use Rattle.reassembly.specs.declared.unit.Unit.{Unit}
use Rattle.words.specs.Channel.{read_unit}
use Rattle.calls.specs.Record.{is_unit_record}
use Rattle.packer.specs.Packed.{as_packed}
use Rattle.packer.specs.Packed.{Written, Refused as NotPacked}
use Rattle.calls.specs.Words.{given_or}
use Rattle.packer.specs.Packer.{pack_of}
use Rattle.cutter.specs.Cut.{Cut, Refused as NotCut}
use Rattle.cutter.specs.Slot.{slot_cut}
use Rattle.ixohuemil.specs.Answers.{pack_call, pack_record, cut_call}

-- by what the packer and the cutter answer
module _ (u : Unit) (cid sn m : ℕ) (s out : List ℕ) (len : ℕ) where
  pub pack_taken : (n : ℕ) (after : List ℕ) → (Written n, after) ≡ pack_of u cid sn m s out → pack_call u cid sn m s out len ≡ (0, n, after)
  unfolding pack_call
  pack_taken n after e = rw (← e)

  pub pack_left : (n : ℕ) (after : List ℕ) → (NotPacked n, after) ≡ pack_of u cid sn m s out → pack_call u cid sn m s out len ≡ (n, len, after)
  unfolding pack_call
  pack_left n after e = rw (← e)

  -- the same, by the call's own result
  pub pack_answered : (after : List ℕ) (r : Result ℕ Refusal) → (as_packed r, after) ≡ pack_of u cid sn m s out
      → pack_call u cid sn m s out len ≡ (answer r, given_or r len, after)
  pack_answered after (Ok n) e = pack_taken n after e
  pack_answered after (Err f) e = pack_left (number_of f) after e

module _ (t : List ℕ) (cid sn m : ℕ) (s out : List ℕ) (len : ℕ) where
  pub pack_unit : is_unit_record t ≡ true → pack_record t cid sn m s out len ≡ pack_call (read_unit t 5) cid sn m s out len
  unfolding pack_record
  pack_unit e = rw e

  pub pack_other : is_unit_record t ≡ false → pack_record t cid sn m s out len ≡ (92, len, out)
  unfolding pack_record
  pack_other e = rw e

module _ (run : List ℕ) (l s : ℕ) (output : List ℕ) (top last : ℕ) (after : List ℕ) where
  pub cut-taken : (p : Pointers) → (Cut p, after) ≡ slot_cut run l s output
      → cut_call run l s output top last ≡ (0, p.0, p.1, after)
  unfolding cut_call
  cut-taken p e = rw (← e)

  pub cut_left : (n : ℕ) → (NotCut n, after) ≡ slot_cut run l s output
      → cut_call run l s output top last ≡ (n, top, last, after)
  unfolding cut_call
  cut_left n e = rw (← e)

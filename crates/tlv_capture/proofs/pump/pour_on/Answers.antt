-- Why `pour_on` meets its contract: what waits, poured.
use Rattle.tlv_capture.proofs.pump.pour_on.Goals as goal

pub returns-then-p : goal.returns-then-p
returns-then-p c =
    record { poured = c.pour-poured.result; pours = c.pour-poured.ensures; pumped = rw c.if-p.true }

pub returns-else-p : goal.returns-else-p
returns-else-p c =
    record { poured = c.pour-poured.result; pours = c.pour-poured.ensures; pumped = rw c.if-p.false }

use Rattle.std.proofs.Common.{◌≡◌, drop, ◌-◌, length}
use Rattle.mmtp.specs.Unit.{aggregate}
use Rattle.mmtp.proofs.reader.walks.Given as goal

-- the reader reads the packet, and what is left of it tells whether the units fill the packet
abbrev pub invariant-loop-behind : goal.invariant-loop-behind
invariant-loop-behind l =
    record {
      same : l.reader.packet.now ≡ l.packet;
      fits : (aggregate (drop l.reader.at l.packet) l.kind l.wide).fits ≡ (aggregate (drop l.start l.packet) l.kind l.wide).fits;
    }

-- the bytes in front of the reader
abbrev pub decreases-loop-behind : goal.decreases-loop-behind
decreases-loop-behind l = length l.packet - l.reader.at

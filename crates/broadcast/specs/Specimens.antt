-- Document 01's starred specimens as one table: each layer's rows, over the definitions that its code is proved to meet.
use Rattle.tmcc.specs.Specimens.{Specimens as Tmcc}
use Rattle.tlv.specs.Specimens.{Specimens as Tlv}
use Rattle.mmtp.specs.Specimens.{HeaderSpecimens as MmtpHeader}
use Rattle.mmtp.specs.PayloadSpecimens.{PayloadSpecimens as MmtpPayload}
use Rattle.reassembly.specs.Specimens.{Specimens as Reassembly}

abbrev pub Specimens : Type 0
Specimens =
    -- QPSK 1/2 over slots 1 to 10; a total of 115 slots
    Tmcc
    -- the four slots with L 1870; held totals of 16,384 and 16,385
    × Tlv
    -- MMTP 0x22 with an extension; 0x40
    × MmtpHeader
    -- MPU bytes 0x2A and 0x2B
    × MmtpPayload
    -- psn after 4,294,967,295; psn 5, 6, 7 and 5, 6, 8
    × Reassembly

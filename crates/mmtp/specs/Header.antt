-- The MMTP header. First byte: version 2 bits, C 1, FEC 2, reserved 1, X 1, RAP 1.
use Rattle.std.specs.Prelude.{ℕ, ◌+◌, Bool, cond, ◌&&◌, List, length, get_or, eqb, Option, Some, None}
use Rattle.std.proofs.Math.Dec.{leb}
use Rattle.wire.specs.Bits.{bits_at}
use Rattle.wire.specs.Field.{be}
use Rattle.mmtp.specs.declared.header.Header.{Header}

abbrev pub first : List ℕ → ℕ
first m = get_or m 0 0

-- version and FEC are 0
unfoldable pub plain : ℕ → Bool
plain x = eqb (bits_at 6 2 x) 0 && eqb (bits_at 3 2 x) 0

-- type 1, packet_id 2, timestamp 4, psn 4 behind the first byte; with C a 32-bit counter
unfoldable pub fixed_bytes : ℕ → ℕ
fixed_bytes x = cond (eqb (bits_at 5 1 x) 1) 16 12

-- with X a 16-bit type, a 16-bit length, that many bytes
unfoldable pub extension_length : List ℕ → ℕ
extension_length m = be 2 m (fixed_bytes (first m) + 2)

unfoldable pub extension_bytes : List ℕ → ℕ
extension_bytes m = cond (eqb (bits_at 1 1 (first m)) 1) (4 + extension_length m) 0

unfoldable pub payload_start : List ℕ → ℕ
payload_start m = fixed_bytes (first m) + extension_bytes m

-- a header that is cut short starts its payload past the end
unfoldable pub start_of : List ℕ → Option ℕ
start_of m = cond (leb (payload_start m) (length m)) (Some (payload_start m)) None

abbrev pub fields : List ℕ → Header
fields m =
    record {
      payload_type = bits_at 0 6 (get_or m 1 0);
      packet_id = be 2 m 2;
      psn = record { 0 = be 4 m 8 };
      start = payload_start m;
    }

-- "Version or FEC not 0, or too short: 51"
unfoldable pub header_of : List ℕ → Option Header
header_of m = cond (leb (payload_start m) (length m) && plain (first m)) (Some (fields m)) None

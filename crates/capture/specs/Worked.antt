-- The worked capture: "One BPSK 1/3 frame, slot 1 holding a 23-byte packet (id 0, signalling, psn 7, 2 bytes) and a null packet,
-- then 119 L".
use Rattle.std.specs.Prelude.{◌≡◌, ℕ, zero, suc, List, [], ◌∷◌, ◌++◌, replicate}
use Rattle.capture.specs.Capture.{capture_of}

abbrev repeated : ℕ → List ℕ → List ℕ
repeated zero xs = []
repeated (suc n) xs = xs ++ repeated n xs

-- C: stream 0x0102, CID 2, packet_id 0, R = 16
abbrev start : List ℕ
start = 67 ∷ 1 ∷ 2 ∷ 0 ∷ 2 ∷ 1 ∷ (replicate 32 0 ++ (0 ∷ 0 ∷ 0 ∷ 16 ∷ []))

-- BPSK 1/3 over 120 slots; slot 1 has top 0 and last 1,870; all slots are of relative stream 0, which is TLV and has the id
abbrev frame : List ℕ
frame =
    (70 ∷ 0 ∷ 0x11 ∷ 120 ∷ 0 ∷ repeated 7 (0xff ∷ 0 ∷ 0 ∷ [])) ++ (2 ∷ replicate 127 0)
    ++ (0 ∷ 0 ∷ 0x07 ∷ 0x4e ∷ replicate 536 0) ++ (1 ∷ 2 ∷ replicate 483 0)

-- the packet: CID 2, header type 0x61; MMTP of packet_id 0, psn 7; FI 00, two bytes
abbrev packet : List ℕ
packet =
    (0x7f ∷ 3 ∷ 0 ∷ 19 ∷ 0x00 ∷ 0x20 ∷ 0x61 ∷ [])
    ++ (0 ∷ 2 ∷ 0 ∷ 0 ∷ 0 ∷ 0 ∷ 0 ∷ 0 ∷ 0 ∷ 0 ∷ 0 ∷ 7 ∷ []) ++ (0 ∷ 0 ∷ 0xaa ∷ 0xbb ∷ [])

abbrev slot : List ℕ
slot = (83 ∷ 0x07 ∷ 0x4e ∷ []) ++ packet ++ (0x7f ∷ 0xff ∷ 0x07 ∷ 0x33 ∷ replicate 1843 0xff)

-- "1 1 unit 0 4 7 0 2", "1 6 note 40 -", "end 1 1 1"
abbrev printed : List ℕ
printed =
    (49 ∷ 32 ∷ 49 ∷ 32 ∷ 117 ∷ 110 ∷ 105 ∷ 116 ∷ 32 ∷ 48 ∷ 32 ∷ 52 ∷ 32 ∷ 55 ∷ 32 ∷ 48 ∷ 32 ∷ 50 ∷ 10 ∷ [])
    ++ (49 ∷ 32 ∷ 54 ∷ 32 ∷ 110 ∷ 111 ∷ 116 ∷ 101 ∷ 32 ∷ 52 ∷ 48 ∷ 32 ∷ 45 ∷ 10 ∷ [])
    ++ (101 ∷ 110 ∷ 100 ∷ 32 ∷ 49 ∷ 32 ∷ 49 ∷ 32 ∷ 49 ∷ 10 ∷ [])

abbrev pub Worked : ℕ → Type 0
Worked n = capture_of (replicate 21433 0) (replicate 16 0) (start ++ frame ++ slot ++ replicate n 76) ≡ printed

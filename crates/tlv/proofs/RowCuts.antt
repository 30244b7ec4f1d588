-- Laws of the row: bytes with their slot's label, and the packets that are complete in a row of them.
use Prim.Native.Nat.{ℕ, zero, suc}
use mathlib.Core.Path.{◌≡◌, refl, sym, ap, ◌∙◌}
use mathlib.Core.Bool.{Bool, true, false, cond}
use mathlib.Core.List.{List, [], ◌∷◌, ◌++◌, map, map-append, append_assoc}
use native.Mathlib.Omega.{arith}
use lib.ListN.{length, take, drop, length-append, length-map}
use lib.Seq.{take_at, drop_at, length-take-le}
use Rattle.tlv.specs.Packet.{total, complete, uncut, in_front, cut_by, cut}
use Rattle.tlv.specs.Cuts.{Sized, AllSized}
use Rattle.tlv.proofs.CutsLaws.{complete-fits, complete_if, total-append, row}
use Rattle.tlv.proofs.CutsLaws.{cut-end, cut-more, cut-sized, cut-whole}
use Rattle.tlv.specs.Row.{tagged, bytes_of, packets_by, row_packets}
use Rattle.tlv.specs.Row as slots
use Rattle.tlv.specs.Claims.{RowCut}

-- a packet in front of bytes
cut-front : (p r : List ℕ) → Sized p → (cut (p ++ r)).packets ≡ p ∷ (cut r).packets
cut-front p r z =
    let t : total (p ++ r) ≡ length p = total-append p r z.long ∙ sym z.exact in
    let l = length-append p r in
    let c : complete (p ++ r) ≡ true = complete_if (p ++ r) (omega (arith, z.long)) (omega arith) in
    rw (cut-more (p ++ r) c, t, take_at p r (length p) refl, drop_at p r (length p) refl)

module _ {A : Type 0} where
  -- bytes of one slot
  pub bytes-tagged : (a : A) (b : List ℕ) → bytes_of (tagged a b) ≡ b
  bytes-tagged a [] = refl
  bytes-tagged a (x ∷ b) = ap (λ (l : List ℕ). x ∷ l) (bytes-tagged a b)

  pub tagged-append : (a : A) (b c : List ℕ) → tagged a (b ++ c) ≡ tagged a b ++ tagged a c
  tagged-append a [] c = refl
  tagged-append a (x ∷ b) c = ap (λ (l : List (A × ℕ)). (a, x) ∷ l) (tagged-append a b c)

  pub tagged-drop : (a : A) (n : ℕ) (b : List ℕ) → drop n (tagged a b) ≡ tagged a (drop n b)
  tagged-drop a zero b = refl
  tagged-drop a (suc n) [] = refl
  tagged-drop a (suc n) (x ∷ b) = tagged-drop a n b

  pub tagged-length : (a : A) (b : List ℕ) → length (tagged a b) ≡ length b
  tagged-length a [] = refl
  tagged-length a (x ∷ b) = ap suc (tagged-length a b)

  pub bytes-append : (s t : List (A × ℕ)) → bytes_of (s ++ t) ≡ bytes_of s ++ bytes_of t
  bytes-append s t = map-append _ s t

  pub bytes-length : (t : List (A × ℕ)) → length (bytes_of t) ≡ length t
  bytes-length t = length-map t _

  pub bytes_take : (n : ℕ) (t : List (A × ℕ)) → bytes_of (take n t) ≡ take n (bytes_of t)
  bytes_take zero t = refl
  bytes_take (suc n) [] = refl
  bytes_take (suc n) (x ∷ t) = ap (λ (l : List ℕ). x.1 ∷ l) (bytes_take n t)

  pub bytes_drop : (n : ℕ) (t : List (A × ℕ)) → bytes_of (drop n t) ≡ drop n (bytes_of t)
  bytes_drop zero t = refl
  bytes_drop (suc n) [] = refl
  bytes_drop (suc n) (x ∷ t) = bytes_drop n t

  -- the row in parts, as long as given lists
  abbrev parts : List (List ℕ) → List (A × ℕ) → List (List (A × ℕ))
  parts [] b = []
  parts (p ∷ ps) b = take (length p) b ∷ parts ps (drop (length p) b)

  -- its packets are its parts, as long as the packets that its bytes are cut into
  by_parts : (n : ℕ) (b : List (A × ℕ)) → packets_by n b ≡ parts (cut_by n (bytes_of b)).packets b
  unfolding packets_by cut_by
  by_parts zero b = refl
  by_parts (suc n) b = go (complete (bytes_of b)) refl (by_parts n (drop (total (bytes_of b)) b))
    where
      t : ℕ
      t = total (bytes_of b)

      go : (c : Bool) → complete (bytes_of b) ≡ c
          → packets_by n (drop t b) ≡ parts (cut_by n (bytes_of (drop t b))).packets (drop t b)
          → cond c (take t b ∷ packets_by n (drop t b)) []
          ≡ parts (cond c (in_front (bytes_of b) (cut_by n (drop t (bytes_of b)))) (uncut (bytes_of b))).packets b
      go false e ih = refl
      go true e ih =
          let f = complete-fits (bytes_of b) e in
          rw (length-take-le t (bytes_of b) f.1, ← bytes_drop t b, ih)

  abbrev pub packets_in : List (A × ℕ) → List (List (A × ℕ))
  packets_in b = packets_by (length b) b

  in_parts : (b : List (A × ℕ)) → packets_in b ≡ parts (cut (bytes_of b)).packets b
  in_parts b = by_parts (length b) b ∙ unfold cut in rw (bytes-length b)

  -- no packet is complete in it
  pub packets_open : (b : List (A × ℕ)) → complete (bytes_of b) ≡ false → packets_in b ≡ []
  packets_open b e = in_parts b ∙ rw (cut-end (bytes_of b) e)

  -- a packet in front
  pub packets-front : (p r : List (A × ℕ)) → Sized (bytes_of p) → packets_in (p ++ r) ≡ p ∷ packets_in r
  packets-front p r z =
      in_parts (p ++ r)
      ∙ rw (
        bytes-append p r,
        cut-front (bytes_of p) (bytes_of r) z,
        take_at p r (length (bytes_of p)) (sym (bytes-length p)),
        drop_at p r (length (bytes_of p)) (sym (bytes-length p)),
        in_parts r,
      )

  -- packets of one slot in front
  packets-row : (a : A) (ps : List (List ℕ)) (r : List (A × ℕ)) → AllSized ps
      → packets_in (tagged a (row ps) ++ r) ≡ map (tagged a) ps ++ packets_in r
  packets-row a [] r z = refl
  packets-row a (p ∷ ps) r z =
      rw (
        tagged-append a p (row ps),
        append_assoc (tagged a p) (tagged a (row ps)) r,
        packets-front (tagged a p) (tagged a (row ps) ++ r) (rw bytes-tagged z.0),
        packets-row a ps r z.1,
      )

  -- bytes of one slot in front, cut
  pub packets-cut : (a : A) (b : List ℕ) (r : List (A × ℕ))
      → packets_in (tagged a b ++ r) ≡ map (tagged a) (cut b).packets ++ packets_in (tagged a (cut b).tail ++ r)
  packets-cut a b r =
      let ps : List (List ℕ) = (cut b).packets in
      ap (λ (l : List ℕ). packets_in (tagged a l ++ r)) (sym (cut-whole b))
      ∙ rw (tagged-append a (row ps) (cut b).tail, append_assoc (tagged a (row ps)) (tagged a (cut b).tail) r)
      (packets-row a ps (tagged a (cut b).tail ++ r) (cut-sized b))

  parts-bytes : (ps : List (List ℕ)) (t : List ℕ) (b : List (A × ℕ)) → bytes_of b ≡ row ps ++ t → map bytes_of (parts ps b) ≡ ps
  parts-bytes [] t b e = refl
  parts-bytes (p ∷ ps) t b e =
      let f : bytes_of b ≡ p ++ (row ps ++ t) = e ∙ append_assoc p (row ps) t in
      let d : bytes_of (drop (length p) b) ≡ row ps ++ t =
      bytes_drop (length p) b ∙ rw f (drop_at p (row ps ++ t) (length p) refl) in
      rw (bytes_take (length p) b, f, take_at p (row ps ++ t) (length p) refl, parts-bytes ps t (drop (length p) b) d)

pub row_cut : RowCut
unfolding row_packets
row_cut A xs =
    let b : List (A × ℕ) = slots.row xs in
    rw (in_parts b) (parts-bytes (cut (bytes_of b)).packets (cut (bytes_of b)).tail b (sym (cut-whole (bytes_of b))))

-- The slots of a layout, one record each.
use Rattle.std.specs.Prelude.{ℕ, zero, suc, ◌+◌, ◌<◌, ◌≤◌, ◌≡◌, refl, Bool, true, false, not, cond, ◌||◌, List, [], ◌∷◌, map, length, get_or, eqb}
use Rattle.std.proofs.Common.{sym, ◌∙◌, ap, arith, ne_eqb}
use Rattle.std.proofs.lemmas.List.{map-append}
use Rattle.std.specs.Bool.{MatchBool}
use Rattle.std.specs.List.{list_any, HoldsAt, AllWithin}
use Rattle.std.proofs.lemmas.List.Folds.{list_any-append, list_any_at, list_any_none}
use denote.Param.Members.{Mut}
use Rattle.std.specs.Fn.{Called}
use Rattle.std.specs.Array.{IsFromFnResult, IsFromFnResultFrom}
use Rattle.wire.specs.Tab.{tab}
use Rattle.wire.proofs.TabLaws.{below_one, tab-list, tab-same}
use Rattle.tmcc.specs.Stream.{own_slot}
use Rattle.tmcc.specs.Count.{count_below}
use Rattle.tmcc.specs.Layout.{Layout, as_layout, layout_of, slot_at}
use Rattle.tmcc.specs.declared.layout.Layout.{Layout as ALayout}

map-tab : {A B : Type 0} (g : A → B) (f : ℕ → A) (n : ℕ) → map g (tab f n) ≡ tab (λ k. g (f k)) n
unfolding tab
map-tab g f zero = refl
map-tab g f (suc n) = rw (map-append, map-tab g f n)

pub slots_layout : (l : ALayout) (b : List ℕ) (own : ℕ) → l.slots ≡ tab (slot_at b own) 120 → as_layout l ≡ layout_of b own
unfolding layout_of
slots_layout l b own e = rw (e, map-tab, map-tab, map-tab)

-- what `any` says of a list
pub any-of : {A : Type 0} (p : A → Bool) (xs : List A) (r : Bool)
    → MatchBool r ((k : ℕ) × (k < length xs) × HoldsAt (λ x. p x ≡ true) xs k) (AllWithin (λ x. p x ≡ false) xs 0 (length xs))
    → r ≡ list_any p xs
any-of p [] true h = absurd (omega (arith, h.1))
any-of p (x ∷ xs) true h = sym (list_any_at p (x ∷ xs) h.0 x h.1 (h.2 x))
any-of p xs false h = sym (list_any_none p xs (λ k d l. h k d (omega arith) l))

any-map : {A B : Type 0} (p : B → Bool) (f : A → B) (xs : List A) → list_any (λ x. p (f x)) xs ≡ list_any p (map f xs)
any-map p f [] = refl
any-map p f (x ∷ xs) = rw (any-map p f xs)

-- and of the values of a test below n
one-more : (a t : Bool) (n : ℕ) → not a ≡ eqb n 0 → not (a || (t || false)) ≡ eqb (cond t (n + 1) n) 0
one-more true true n e = sym (ne_eqb (n + 1) 0 (omega arith))
one-more true false n e = e
one-more false true n e = sym (ne_eqb (n + 1) 0 (omega arith))
one-more false false n e = e

any-tab : (p : ℕ → Bool) (n : ℕ) → not (list_any (λ t. t) (tab p n)) ≡ eqb (count_below p n) 0
unfolding tab count_below
any-tab p zero = refl
any-tab p (suc n) = rw list_any-append (one-more (list_any (λ t. t) (tab p n)) (p n) (count_below p n) (any-tab p n))

pub own-any : (l : ALayout) (b : List ℕ) (own : ℕ) → as_layout l ≡ layout_of b own
    → not (list_any (λ s. s.own) l.slots) ≡ eqb (count_below (own_slot b own) 120) 0
unfolding layout_of
own-any l b own e =
    let m : map (λ s. s.own) l.slots ≡ tab (own_slot b own) 120 = ap (λ (x : Layout). x.own) e in
    ap not (any-map (λ t. t) (λ s. s.own) l.slots) ∙ rw m (any-tab (own_slot b own) 120)

-- what calls at each number from i on gave
module _ {A F : Type 0} (g : Mut F (ℕ × Unit {0}) A) (h : ℕ → A) (f : F) (ys : List A)
    (gives : (q : F) (k : ℕ) (y : A) → Called g f (k, tt) y q → (q ≡ f) × (y ≡ h k)) where
  each-from : (n i : ℕ) (r : IsFromFnResultFrom g f ys i n) (k : ℕ) (d : A) → i ≤ k → k < i + n → get_or ys k d ≡ h k
  each-from zero i r k d l u = absurd (omega arith)
  each-from (suc n) i r k d l u =
      let v = gives r.0 i r.1 r.3 in
      below_one i k (omega arith)
      (λ e. rw (← e) (r.2.1 d ∙ v.1))
      (λ b. each-from n (i + 1) (rw v.0 at r.4) k d (omega arith) (omega arith))

  pub made : (n : ℕ) (d : A) → IsFromFnResult g f ys n → ys ≡ tab h n
  made n d r =
      sym (tab-list ys n d r.long) ∙ tab-same (λ k. get_or ys k d) h n (λ k l. each-from n 0 r.each k d (omega arith) (omega arith))

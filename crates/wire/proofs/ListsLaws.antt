-- Laws of specs/Lists.antt.
use Rattle.std.specs.Prelude.{◌≡◌, refl, Bool, true, false, ◌&&◌, List, [], ◌∷◌, ◌++◌, map}
use Rattle.std.proofs.Common.{sym}
use Rattle.std.proofs.Math.Bool.{and_assoc}
use Rattle.wire.specs.Lists.{put, sift, all}

module _ {A : Type 0} where
  put-append : (b : Bool) (x : A) (l m : List A) → put b x l ++ m ≡ put b x (l ++ m)
  put-append true x l m = refl
  put-append false x l m = refl

  pub sift-append : (p : A → Bool) (l m : List A) → sift p (l ++ m) ≡ sift p l ++ sift p m
  sift-append p [] m = refl
  sift-append p (x ∷ xs) m = rw (sift-append p xs m) (sym (put-append (p x) x (sift p xs) (sift p m)))

  pub all_append : (p : A → Bool) (l m : List A) → all p (l ++ m) ≡ all p l && all p m
  all_append p [] m = refl
  all_append p (x ∷ xs) m = rw (all_append p xs m) (sym (and_assoc (p x) (all p xs) (all p m)))

module _ {A B : Type 0} where
  map-put : (f : A → B) (b : Bool) (x : A) (l : List A) → put b (f x) (map f l) ≡ map f (put b x l)
  map-put f true x l = refl
  map-put f false x l = refl

  pub sift-map : (f : A → B) (p : B → Bool) (l : List A) → sift p (map f l) ≡ map f (sift (λ (x : A). p (f x)) l)
  sift-map f p [] = refl
  sift-map f p (x ∷ xs) = rw (sift-map f p xs) (map-put f (p (f x)) x (sift (λ (x : A). p (f x)) xs))

-- an element behind a list
module _ {A : Type 0} (p : A → Bool) (l : List A) (x : A) where
  pub all-last : all p l ≡ true → p x ≡ true → all p (l ++ (x ∷ [])) ≡ true
  all-last h k = rw (all_append p l (x ∷ []), h, k)

  -- ... that fails the test, or a list of which one fails it
  pub not-all-last : p x ≡ false → all p (l ++ (x ∷ [])) ≡ false
  not-all-last k = rw (all_append p l (x ∷ []), k) (go (all p l))
    where
      go : (b : Bool) → b && false ≡ false
      go true = refl
      go false = refl

  pub not-all-before : all p l ≡ false → all p (l ++ (x ∷ [])) ≡ false
  not-all-before h = rw (all_append p l (x ∷ []), h)

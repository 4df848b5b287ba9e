-- Laws of the length of a filtered list: more pass, and it is longer. Assumes nothing.
use Prim.Native.Nat.{ℕ, suc, ◌≤◌, ◌<◌, zero-le, suc-le-suc}
use Rattle.std.specs.Prelude.{◌≡◌, Bool, length}
use Rattle.std.proofs.Math.Path.{refl}
use Rattle.std.proofs.Common.{sym, ap, ◌∙◌}
use Rattle.std.proofs.Math.Logic.{⊎_elim}
use Rattle.std.proofs.Math.Bool.{true, false}
use mathlib.Core.List.{List, [], ◌∷◌}
use native.Mathlib.Omega.{arith}
use Rattle.lists.specs.Lists.{lists, keep, select, member}
use Rattle.lists.specs.Laws.Booleans.{contradiction, true-or-false}
use Rattle.lists.specs.Laws.Members.{member-empty, member-head, member-tail, member-cases}

pub select-length : {A : Type 0} (f : A → Bool) (l : List A) → length (select f l) ≤ length l
unfolding lists
select-length f [] = zero-le
select-length {A} f (x ∷ l) = go (f x) (select-length f l)
  where
    go : (b : Bool) → length (select f l) ≤ length l → length (keep b x (select f l)) ≤ suc (length l)
    go true h = suc-le-suc h
    go false h = omega arith

-- every member of l that passes f passes g
abbrev pub Implies : List ℕ → (ℕ → Bool) → (ℕ → Bool) → Type 0
Implies l f g = (x : ℕ) → member x l ≡ true → f x ≡ true → g x ≡ true

pub implies-tail : (x : ℕ) (l : List ℕ) (f g : ℕ → Bool) → Implies (x ∷ l) f g → Implies l f g
implies-tail x l f g h y m = h y (member-tail y x l m)

module _ (f g : ℕ → Bool) where
  keep-longer : (b c : Bool) (x : ℕ) (l m : List ℕ) → (b ≡ true → c ≡ true) → length l ≤ length m
      → length (keep b x l) ≤ length (keep c x m)
  unfolding keep
  keep-longer true true x l m h le = suc-le-suc le
  keep-longer true false x l m h le = contradiction (h refl) refl
  keep-longer false true x l m h le = omega arith
  keep-longer false false x l m h le = le

  pub select-longer : (l : List ℕ) → Implies l f g → length (select f l) ≤ length (select g l)
  unfolding select
  select-longer [] h = zero-le
  select-longer (x ∷ l) h =
      keep-longer (f x) (g x) x (select f l) (select g l) (h x (member-head x l)) (select-longer l (implies-tail x l f g h))

  keep-strict : (b c : Bool) (x : ℕ) (l m : List ℕ) → (b ≡ true → c ≡ true) → length l < length m
      → length (keep b x l) < length (keep c x m)
  unfolding keep
  keep-strict true true x l m h le = suc-le-suc le
  keep-strict true false x l m h le = contradiction (h refl) refl
  keep-strict false true x l m h le = omega arith
  keep-strict false false x l m h le = le

  keep-new : (b c : Bool) (x : ℕ) (l m : List ℕ) → b ≡ false → c ≡ true → length l ≤ length m
      → length (keep b x l) < length (keep c x m)
  unfolding keep
  keep-new true c x l m p q le = contradiction refl p
  keep-new false true x l m p q le = suc-le-suc le
  keep-new false false x l m p q le = contradiction q refl

  -- a member that only g lets pass
  pub select-strict : (l : List ℕ) (y : ℕ) → Implies l f g → member y l ≡ true → f y ≡ false → g y ≡ true
      → length (select f l) < length (select g l)
  unfolding select
  select-strict [] y h m p q = member-empty y m
  select-strict (x ∷ l) y h m p q =
      ⊎_elim
      (λ e.
      keep-new (f x) (g x) x (select f l) (select g l) (ap f (sym e) ∙ p) (ap g (sym e) ∙ q)
      (select-longer l (implies-tail x l f g h)))
      (λ k.
      keep-strict (f x) (g x) x (select f l) (select g l) (h x (member-head x l))
      (select-strict l y (implies-tail x l f g h) k p q))
      (member-cases y x l m)

  -- no longer, so no member is new
  pub select-same : (l : List ℕ) → Implies l f g → length (select g l) ≤ length (select f l) → Implies l g f
  select-same l h le y m q =
      ⊎_elim (λ p. p) (λ p. absurd (omega (arith, select-strict l y h m p q))) (true-or-false (f y))

pub select_short : (f : ℕ → Bool) (l : List ℕ) (y : ℕ) → member y l ≡ true → f y ≡ false → length (select f l) < length l
select_short f l y m p =
    omega (arith, select-strict f (λ _. true) l y (λ x k t. refl) m p refl, select-length (λ (_ : ℕ). true) l)

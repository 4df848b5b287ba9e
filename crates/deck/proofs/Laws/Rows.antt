-- Laws of a table that is filled from its front, a row of `width` numbers for each thing read. Assumes nothing.
use Rattle.std.specs.Prelude.{ℕ, ◌+◌, ◌*◌, ◌-◌, ◌≤◌, ◌≡◌, length, take, drop}
use Rattle.std.proofs.Common.{sym, ap, ap₂, ◌∙◌, subst, arith, mul-zero, length-append, length-drop, drop_of_length-le, take_at, take_all, drop_at, drop-drop}
use mathlib.Core.List.{List, [], ◌∷◌, ◌++◌, append_assoc, append-nil, flat_map}
use Rattle.lists.specs.Lists.{lists}

-- one thing more, at the end
pub flat_map-add : {A B : Type 0} (f : A → List B) (l : List A) (x : A) → flat_map f (l ++ (x ∷ [])) ≡ flat_map f l ++ f x
unfolding lists
flat_map-add f [] x = append-nil (f x)
flat_map-add f (y ∷ l) x = ap (λ m. f y ++ m) (flat_map-add f l x) ∙ sym (append_assoc (f y) (flat_map f l) (f x))

-- the rows of the i things read so far, and behind them what stood there before
pub record Filled {A : Type 0} (row : A → List ℕ) (width i : ℕ) (before after : List ℕ) (read : List A) : Type 0 where
  pub size : length (flat_map row read) ≡ width * i
  pub table : after ≡ flat_map row read ++ drop (width * i) before

pub filled_none : {A : Type 0} (row : A → List ℕ) (width : ℕ) (before : List ℕ) → Filled row width 0 before before []
unfolding lists
filled_none row width before = record { size = sym (mul-zero width); table = sym (ap (λ n. drop n before) (mul-zero width)) }

module _ {A : Type 0} (row : A → List ℕ) (width i : ℕ) (before after : List ℕ) (read : List A) (x : A) (w : length (row x) ≡ width)
    (f : Filled row width i before after read) where
  one_more_lem : Filled row width (i + 1) before (take (width * i) after ++ (row x ++ drop width (drop (width * i) after))) (read ++ (x ∷ []))
  one_more_lem =
      let k : width * (i + 1) ≡ width * i + width = omega arith in
      let front = flat_map row read in
      let here : take (width * i) after ≡ front
      = ap (take (width * i)) f.table ∙ take_at front (drop (width * i) before) (width * i) f.size in
      let there : drop (width * i) after ≡ drop (width * i) before
      = ap (drop (width * i)) f.table ∙ drop_at front (drop (width * i) before) (width * i) f.size in
      record {
        size = ap length (flat_map-add row read x) ∙ length-append front (row x) ∙ ap₂ ◌+◌ f.size w ∙ sym k;
        table = ap₂ (λ a b. a ++ (row x ++ drop width b)) here there
            ∙ ap (λ l. front ++ (row x ++ l)) (drop-drop width (width * i) before ∙ ap (λ n. drop n before) (sym k))
            ∙ sym (append_assoc front (row x) (drop (width * (i + 1)) before))
            ∙ ap (λ l. l ++ drop (width * (i + 1)) before) (sym (flat_map-add row read x));
      }

  -- a row r was written to the front of the tail, which was lent and is back
  pub filled_next : (r tail : List ℕ) → r ≡ row x
      → tail ≡ r ++ drop (length r) (take (length after - width * i) (drop (width * i) after))
      → Filled row width (i + 1) before
      (take (width * i) after ++ (tail ++ drop (length after - width * i) (drop (width * i) after)))
      (read ++ (x ∷ []))
  filled_next r tail e g =
      let left = length after - width * i in
      let rest = drop (width * i) after in
      let fits : length rest ≤ left = omega (arith, length-drop (width * i) after) in
      let same : tail ≡ row x ++ drop width rest
      = g ∙ ap₂ (λ a l. a ++ drop (length a) l) e (take_all left rest fits) ∙ ap (λ n. row x ++ drop n rest) w in
      let whole : tail ++ drop left rest ≡ row x ++ drop width rest
      = ap (λ l. tail ++ l) (drop_of_length-le rest fits) ∙ append-nil tail ∙ same in
      subst (λ l. Filled row width (i + 1) before (take (width * i) after ++ l) (read ++ (x ∷ []))) (sym whole) one_more_lem

-- all are read
pub filled-all : {A : Type 0} (row : A → List ℕ) (width i count : ℕ) (before after : List ℕ) (read : List A) → i ≡ count
    → Filled row width i before after read → after ≡ flat_map row read ++ drop (width * count) before
filled-all row width i count before after read e f = f.table ∙ ap (λ n. flat_map row read ++ drop (width * n) before) e

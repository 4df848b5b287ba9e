-- Laws of bytes written into a buffer. Assumes nothing.
use Rattle.std.specs.Prelude.{ℕ, suc, ◌+◌, ◌≤◌, ◌<◌, ◌≡◌, length, take, drop, set, get_or}
use Rattle.std.proofs.Common.{sym, ap₂, ◌∙◌, subst, arith, add-one, length-append, length-drop, take-append-drop, take_at, drop_at, drop-drop, length-take-le, take-suc, take_all, take-take}
use Rattle.std.proofs.Math.Path.{ap}
use mathlib.Core.List.{List, [], ◌∷◌, ◌++◌, append_assoc, append-nil, flat_map}
use Rattle.std.proofs.Math.Nat.{sub-zero}
use Rattle.std.proofs.lemmas.List.{take-append-le, set_split}
use Rattle.conversion.proofs.Laws.Renumbering.{flat_map-append}
use Rattle.conversion_bytes.specs.Written.{Written}
use Rattle.conversion_bytes.specs.Stands.{stretch}

module _ {before after bytes : List ℕ} {at end : ℕ} (w : Written before at bytes after end) where
  front_long : length (take at before ++ bytes) ≡ at + length bytes
  front_long =
      length-append (take at before) bytes ∙ ap (λ n. n + length bytes) (length-take-le at before (omega (arith, w.fits)))

  -- the buffer is as long as it was
  pub written-length : length after ≡ length before
  written-length =
      ap length w.has
      ∙ length-append (take at before ++ bytes) (drop (at + length bytes) before)
      ∙ omega (arith, front_long, length-drop (at + length bytes) before, w.fits)

  written-take : take end after ≡ take at before ++ bytes
  written-take =
      ap₂ take w.ends w.has ∙ take_at (take at before ++ bytes) (drop (at + length bytes) before) (at + length bytes) front_long

  written-drop : drop end after ≡ drop end before
  written-drop =
      ap₂ drop w.ends w.has
      ∙ drop_at (take at before ++ bytes) (drop (at + length bytes) before) (at + length bytes) front_long
      ∙ ap (λ n. drop n before) (sym w.ends)

-- the same bytes
pub written_is : {before after x y : List ℕ} {at end : ℕ} → x ≡ y → Written before at x after end → Written before at y after end
written_is {before} {after} {x} {y} {at} {end} e w = subst (λ l. Written before at l after end) e w

-- some bytes after others
pub written-more : {before middle after first second : List ℕ} {at next end : ℕ} → Written before at first middle next
    → Written middle next second after end → Written before at (first ++ second) after end
written-more {before} {middle} {after} {first} {second} {at} {next} {end} p q =
    let long : length (first ++ second) ≡ length first + length second = length-append first second in
    let place : next + length second ≡ at + length (first ++ second) = omega (arith, p.ends, long) in
    record {
      fits = omega (arith, long, q.fits, p.ends, written-length p);
      has =
          q.has
          ∙ ap₂ (λ front rest. front ++ second ++ rest) (written-take p)
          (sym (drop-drop (length second) next middle)
          ∙ ap (drop (length second)) (written-drop p)
          ∙ drop-drop (length second) next before
          ∙ ap (λ n. drop n before) place)
          ∙ ap (λ l. l ++ drop (at + length (first ++ second)) before) (append_assoc (take at before) first second);
      ends = q.ends ∙ place;
    }

-- nothing written
pub written_none : (before : List ℕ) (at : ℕ) → at ≤ length before → Written before at [] before at
written_none before at h =
    let e : at + 0 ≡ at = omega arith in
    record {
      fits = omega arith;
      has = sym (ap₂ (λ l n. l ++ drop n before) (append-nil (take at before)) e ∙ take-append-drop at before);
      ends = sym e;
    }

-- the whole buffer, of what was written at its front
pub written-front : {before bytes after : List ℕ} {end : ℕ} → Written before 0 bytes after end → after ≡ bytes ++ drop (length bytes) before
written-front {before} {bytes} w =
    let e : 0 + length bytes ≡ length bytes = omega arith in
    w.has ∙ ap (λ n. bytes ++ drop n before) e

-- and its stretch that was written
pub written-stretch : {before bytes after : List ℕ} {end : ℕ} → Written before 0 bytes after end → stretch after 0 end ≡ bytes
written-stretch {before} {bytes} {after} {end} w = ap (λ n. take n after) (sub-zero end) ∙ written-take w

-- one byte in front of others, set after them
pub written_count : {before after bytes : List ℕ} {end : ℕ} (at value : ℕ) → Written before (at + 1) bytes after end
    → Written before at (value ∷ bytes) (set after at value) end
written_count {before} {after} {bytes} {end} at value w =
    let place : at + 1 + length bytes ≡ at + length (value ∷ bytes) = omega arith in
    let rest : List ℕ = drop (at + 1 + length bytes) before in
    let front : length (take (at + 1) before) ≡ at + 1 = length-take-le (at + 1) before (omega (arith, w.fits)) in
    let cut : after ≡ take (at + 1) before ++ (bytes ++ rest) = w.has ∙ append_assoc (take (at + 1) before) bytes rest in
    let one : suc at ≡ at + 1 = omega arith in
    record {
      fits = omega (arith, w.fits);
      has =
          set_split after at value (omega (arith, written-length w, w.fits))
          ∙ ap₂ (λ x y. x ++ value ∷ y)
          (ap (take at) cut
          ∙ take-append-le at (take (at + 1) before) (bytes ++ rest) (omega (arith, front))
          ∙ take-take at (at + 1) before (omega arith))
          (ap₂ drop one cut ∙ drop_at (take (at + 1) before) (bytes ++ rest) (at + 1) front)
          ∙ ap (λ n. take at before ++ value ∷ (bytes ++ drop n before)) place
          ∙ sym (append_assoc (take at before) (value ∷ bytes) (drop (at + length (value ∷ bytes)) before));
      ends = w.ends ∙ place;
    }

pub written-set : (before : List ℕ) (at value : ℕ) → at < length before → Written before at (value ∷ []) (set before at value) (at + 1)
written-set before at value h = written_count at value (written_none before (at + 1) (omega arith))

-- ---- room

-- for the first of two, and for the second behind it
pub room-first : (n at : ℕ) (x y : List ℕ) → at + length (x ++ y) ≤ n → at + length x ≤ n
room-first n at x y h = omega (arith, length-append x y)

pub room-behind : {before after : List ℕ} {at end : ℕ} (x y : List ℕ) → Written before at x after end → at + length (x ++ y) ≤ length before
    → end + length y ≤ length after
room-behind x y w h = omega (arith, length-append x y, w.ends, written-length w)

-- ---- one thing of a list after the other

module _ {A : Type 0} (f : A → List ℕ) (l : List A) (i : ℕ) (z : A) (less : i < length l) where
  one_more_lem : flat_map f (take (i + 1) l) ≡ flat_map f (take i l) ++ f (get_or l i z)
  unfolding flat_map
  one_more_lem =
      ap (λ n. flat_map f (take n l)) (add-one i)
      ∙ ap (flat_map f) (take-suc l i z less)
      ∙ flat_map-append f (take i l) (get_or l i z ∷ [])
      ∙ ap (λ x. flat_map f (take i l) ++ x) (append-nil (f (get_or l i z)))

  pub written_next : {before middle after : List ℕ} {at to end : ℕ} → Written before at (flat_map f (take i l)) middle to
      → Written middle to (f (get_or l i z)) after end → Written before at (flat_map f (take (i + 1) l)) after end
  written_next p q = written_is (sym one_more_lem) (written-more p q)

  pub room_next : {before middle : List ℕ} {at to : ℕ} → Written before at (flat_map f (take i l)) middle to
      → at + length (flat_map f l) ≤ length before → to + length (f (get_or l i z)) ≤ length middle
  room_next {before} {middle} {at} {to} p h =
      let all : flat_map f l ≡ flat_map f (take (i + 1) l) ++ flat_map f (drop (i + 1) l)
      = ap (flat_map f) (sym (take-append-drop (i + 1) l)) ∙ flat_map-append f (take (i + 1) l) (drop (i + 1) l) in
      let whole = subst (λ x. at + length x ≤ length before) all h in
      let front = room-first (length before) at (flat_map f (take (i + 1) l)) (flat_map f (drop (i + 1) l)) whole in
      room-behind (flat_map f (take i l)) (f (get_or l i z)) p (subst (λ x. at + length x ≤ length before) one_more_lem front)

pub written_all : {A : Type 0} (f : A → List ℕ) (l : List A) (i : ℕ) {before after : List ℕ} {at end : ℕ} → length l ≤ i
    → Written before at (flat_map f (take i l)) after end → Written before at (flat_map f l) after end
written_all f l i h w = written_is (ap (flat_map f) (take_all i l h)) w

pub written-first : {A : Type 0} (f : A → List ℕ) (l : List A) (before : List ℕ) (at : ℕ) → at ≤ length before
    → Written before at (flat_map f (take 0 l)) before at
unfolding flat_map
written-first f l before at h = written_none before at h

-- A table of zeros that is filled with the opening values part by part, and a row of them alone. Assumes nothing.
use Prim.Native.Nat.{ℕ, zero, suc, ◌+◌, ◌*◌, ◌-◌, ◌≤◌, ◌<◌}
use Rattle.std.specs.Prelude.{◌≡◌, get_or, ℤ, pos}
use Rattle.std.proofs.Math.Path.{refl, sym, ap}
use Rattle.std.proofs.Common.{ap₂, ◌∙◌, add-one, length-drop, drop_of_length-le, take-suc, take_all}
use mathlib.Core.List.{List, [], ◌∷◌, ◌++◌, append_assoc, append-nil, flat_map}
use native.Mathlib.Omega.{arith}
use Rattle.std.proofs.Math.Dec.{eqb}
use Rattle.std.proofs.Math.ListN.{length, take, drop, replicate, length-append, length-replicate}
use Rattle.std.proofs.lemmas.List.{replicate-append-replicate}
use Rattle.std.proofs.Math.Seq.{take_at, take-length, drop_at, split_at}
use borrow.Author.Tests.{eqb-true}
use Rattle.lists.specs.Lists.{lists}
use Rattle.lists.specs.Laws.Alls.{all_of-at}
use Rattle.deck.specs.Deck.{Deck, Part, R, N, part_at}
use Rattle.deck.specs.Facts.{Formed}
use Rattle.deck.proofs.Laws.Rows.{flat_map-add}
use Rattle.pool.specs.Places.{zeros}
use Rattle.deck.specs.declared.Deck as Counted
use Rattle.passing.specs.Check.{opening_values}
use Rattle.passing.specs.Stands.{stretch, values_from}
use Rattle.passing.specs.Tabled.{deck_of, PartsKnown}
use Rattle.passing.proofs.Laws.Stands.{values_length, values-stand}

-- the rows of two lists, one behind the other
flat_map-append : {A B : Type 0} (f : A → List B) (l m : List A) → flat_map f (l ++ m) ≡ flat_map f l ++ flat_map f m
unfolding lists
flat_map-append f [] m = refl
flat_map-append f (x ∷ l) m = ap (λ n. f x ++ n) (flat_map-append f l m) ∙ sym (append_assoc (f x) (flat_map f l) (flat_map f m))

pub zeros-length : (n : ℕ) → length (zeros n) ≡ n
unfolding zeros
zeros-length n = length-replicate n (pos 0)

module _ (d : Deck) (f : Formed d) where
  abbrev row : Part → List ℤ
  row p = p.opening ++ zeros (32 - R d)

  -- the first p parts have their opening values
  abbrev pub open_to : ℕ → List ℤ
  open_to p = flat_map row (take p d.parts) ++ zeros (512 - 32 * p)

  pub opening-length : (p : ℕ) → p < N d → length (part_at d p).opening ≡ R d
  unfolding part_at N
  opening-length p h =
      eqb-true (length (part_at d p).opening) (R d) (all_of-at (λ p. eqb (length p.opening) (R d)) d.parts p _ f.openings h)

  row-length : (p : ℕ) → p < N d → length (row (part_at d p)) ≡ 32
  unfolding zeros
  row-length p h =
      omega (
        arith,
        f.channels,
        opening-length p h,
        length-append (part_at d p).opening (replicate (32 - R d) (pos 0)),
        length-replicate (32 - R d) (pos 0),
      )

  -- one part more
  front-next : (p : ℕ) → p < N d → flat_map row (take (suc p) d.parts) ≡ flat_map row (take p d.parts) ++ row (part_at d p)
  unfolding part_at N
  front-next p h = ap (flat_map row) (take-suc d.parts p _ h) ∙ flat_map-add row (take p d.parts) (part_at d p)

  front_length : (p : ℕ) → p ≤ N d → length (flat_map row (take p d.parts)) ≡ 32 * p
  unfolding lists
  front_length zero h = refl
  front_length (suc p) h =
      omega (
        arith,
        ap length (front-next p (omega arith)),
        length-append (flat_map row (take p d.parts)) (row (part_at d p)),
        front_length p (omega arith),
        row-length p (omega arith),
      )

  pub open_none : zeros 512 ≡ open_to 0
  unfolding lists
  open_none = refl

  pub open-length : (p : ℕ) → p ≤ N d → length (open_to p) ≡ 512
  unfolding zeros
  open-length p h =
      omega (
        arith,
        f.parts,
        front_length p h,
        length-append (flat_map row (take p d.parts)) (replicate (512 - 32 * p) (pos 0)),
        length-replicate (512 - 32 * p) (pos 0),
      )

  -- zeros in two pieces
  zeros-split : (n m k : ℕ) → n ≡ m + k → zeros n ≡ zeros m ++ zeros k
  unfolding zeros
  zeros-split n m k e = ap (λ n. replicate n (pos 0)) e ∙ sym (replicate-append-replicate m k (pos 0))

  zeros-drop : (n m k : ℕ) → n ≡ m + k → drop m (zeros n) ≡ zeros k
  unfolding zeros
  zeros-drop n m k e = ap (drop m) (zeros-split n m k e) ∙ drop_at (zeros m) (zeros k) m (length-replicate m (pos 0))

  -- part p's values were written to the front of the tail, which was lent and is back
  module _ (p : ℕ) (h : p < N d) (values : List ℤ) (e : values ≡ open_to p) where
    abbrev front : List ℤ
    front = flat_map row (take p d.parts)

    abbrev rest : List ℤ
    rest = drop (32 * p) values

    rest-zeros : rest ≡ zeros (512 - 32 * p)
    rest-zeros = ap (drop (32 * p)) e ∙ drop_at front (zeros (512 - 32 * p)) (32 * p) (front_length p (omega arith))

    rest-fits : length rest ≤ length values - 32 * p
    rest-fits = omega (arith, length-drop (32 * p) values)

    written : (tail : List ℤ) → tail ≡ (part_at d p).opening ++ drop (R d) (take (length values - 32 * p) rest)
        → take (32 * p) values ++ (tail ++ drop (length values - 32 * p) rest) ≡ open_to (suc p)
    written tail t =
        let opening = (part_at d p).opening in
        let few : p < 16 = omega (arith, f.parts) in
        let narrow = f.channels in
        let here : take (32 * p) values ≡ front
        = ap (take (32 * p)) e ∙ take_at front (zeros (512 - 32 * p)) (32 * p) (front_length p (omega arith)) in
        let zeros-left : drop (R d) rest ≡ zeros (512 - 32 * p - R d)
        = ap (drop (R d)) rest-zeros ∙ zeros-drop (512 - 32 * p) (R d) (512 - 32 * p - R d) (omega arith) in
        let parted : zeros (512 - 32 * p - R d) ≡ zeros (32 - R d) ++ zeros (512 - 32 * suc p)
        = zeros-split (512 - 32 * p - R d) (32 - R d) (512 - 32 * suc p) (omega arith) in
        let back : tail ++ drop (length values - 32 * p) rest ≡ opening ++ (zeros (32 - R d) ++ zeros (512 - 32 * suc p))
        = ap (λ l. tail ++ l) (drop_of_length-le rest rest-fits)
        ∙ append-nil tail
        ∙ t
        ∙ ap (λ l. opening ++ drop (R d) l) (take_all (length values - 32 * p) rest rest-fits)
        ∙ ap (λ l. opening ++ l) (zeros-left ∙ parted) in
        ap₂ (λ a b. a ++ b) here back
        ∙ ap (λ l. front ++ l) (sym (append_assoc opening (zeros (32 - R d)) (zeros (512 - 32 * suc p))))
        ∙ sym (append_assoc front (row (part_at d p)) (zeros (512 - 32 * suc p)))
        ∙ ap (λ l. l ++ zeros (512 - 32 * suc p)) (sym (front-next p h))

    pub open_next : (tail : List ℤ) → tail ≡ (part_at d p).opening ++ drop (R d) (take (length values - 32 * p) rest)
        → take (32 * p) values ++ (tail ++ drop (length values - 32 * p) rest) ≡ open_to (p + 1)
    open_next tail t = written tail t ∙ ap open_to (sym (add-one p))

  pub open-all : open_to (N d) ≡ opening_values d
  unfolding opening_values N
  open-all = ap (λ l. flat_map row l ++ zeros (512 - 32 * N d)) (take-length d.parts)

  pub opening-long : length (opening_values d) ≡ 512
  opening-long = ap length (sym open-all) ∙ open-length (N d) (omega arith)

  -- a part's stretch of the table holds its opening values
  pub opened-part : (p : ℕ) → p < N d → take (R d) (drop (32 * p) (opening_values d)) ≡ (part_at d p).opening
  unfolding opening_values part_at N lists
  opened-part p h =
      let part = part_at d p in
      let front = flat_map row (take p d.parts) in
      let more = flat_map row (drop (suc p) d.parts) in
      let blank = zeros (512 - 32 * N d) in
      let behind = zeros (32 - R d) ++ (more ++ blank) in
      let parted : flat_map row d.parts ++ blank ≡ front ++ (part.opening ++ behind)
      = ap (λ l. flat_map row l ++ blank) (split_at d.parts p _ h)
      ∙ ap (λ l. l ++ blank) (flat_map-append row (take p d.parts) (part ∷ drop (suc p) d.parts))
      ∙ append_assoc front (row part ++ more) blank
      ∙ ap (λ l. front ++ l) (append_assoc (row part) more blank ∙ append_assoc part.opening (zeros (32 - R d)) (more ++ blank)) in
      ap (λ l. take (R d) (drop (32 * p) l)) parted
      ∙ ap (take (R d)) (drop_at front (part.opening ++ behind) (32 * p) (front_length p (omega arith)))
      ∙ take_at part.opening behind (R d) (opening-length p h)

-- part p's opening values are there, one for each channel
module _ (s : List ℕ) (k : Counted.Deck) (parts : List ℕ) (w : PartsKnown s k parts) (p : ℕ) (h : p < k.parts) where
  pub known-part : p < N (deck_of s)
  known-part = omega (arith, w.counts.parts)

  pub opening-stands : ((part_at (deck_of s) p).opening ≡ values_from s (get_or parts (4 * p + 1) 0) k.channels)
      × (get_or parts (4 * p + 1) 0 + 4 * k.channels ≤ length s)
  opening-stands =
      rw w.counts.channels
      (values-stand s (R (deck_of s)) (get_or parts (4 * p + 1) 0) (part_at (deck_of s) p).opening w.counts.some
      (w.table.opening p known-part))

  -- a row of their own, of 32 numbers, with these values at its front
  module _ (old alone : List ℤ) (long : length old ≡ 32)
      (e : alone ≡ values_from s (get_or parts (4 * p + 1) 0) k.channels ++ drop k.channels old) where
    pub alone-length : length alone ≡ 32
    alone-length =
        let values = values_from s (get_or parts (4 * p + 1) 0) k.channels in
        omega (
          arith,
          ap length e,
          length-append values (drop k.channels old),
          values_length s (get_or parts (4 * p + 1) 0) k.channels,
          length-drop k.channels old,
          w.counts.channels,
          w.counts.formed.channels,
        )

    pub alone-opening : stretch alone 0 k.channels ≡ (part_at (deck_of s) p).opening
    alone-opening =
        let values = values_from s (get_or parts (4 * p + 1) 0) k.channels in
        let n : 0 + k.channels - 0 ≡ k.channels = omega arith in
        ap (λ j. take j alone) n
        ∙ ap (take k.channels) e
        ∙ take_at values (drop k.channels old) k.channels (values_length s (get_or parts (4 * p + 1) 0) k.channels)
        ∙ sym opening-stands.0

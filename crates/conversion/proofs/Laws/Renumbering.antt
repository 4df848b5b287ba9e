-- The rules of a converted deck by number: which they are, and which parts carry them. Assumes nothing.
use Prim.Native.Nat.{ℕ, zero, suc, ◌+◌, ◌≤◌, ◌<◌}
use Rattle.std.specs.Prelude.{◌≡◌, Bool, false, ◌&&◌, length, get_or, take}
use Rattle.std.proofs.Math.Path.{refl, sym, ap, ap₂, subst, fun_ext}
use Rattle.std.proofs.Common.{◌∙◌, ⊎_elim, length-append, take-suc, take_all, get_or-append-add}
use Rattle.std.proofs.Math.Bool.{true, cond}
use mathlib.Core.List.{List, [], ◌∷◌, ◌++◌, map, append_assoc, append-nil, nil≢cons, head-eq_of_cons-eq, tail-eq_of_cons-eq, flat_map}
use native.Mathlib.Omega.{arith}
use Rattle.std.proofs.Math.Decide.{dec_lt}
use Rattle.std.proofs.Math.Dec.{eqb}
use Rattle.std.proofs.Math.ListN.{get_or-map}
use borrow.Author.Tests.{eq-eqb, eqb-true}
use Rattle.lists.specs.Lists.{lists, any_of, keep, select, sum_of, from, below, member}
use Rattle.lists.specs.Laws.Statements.{same_test}
use Rattle.lists.specs.Laws.Members.{member-cases, member-empty, member-head, member-tail}
use Rattle.lists.specs.Laws.Anys.{any_of-flat_map}
use Rattle.lists.specs.Laws.Sums.{sum_of-append}
use Rattle.lists.specs.Laws.FlatMaps.{select-flat_map, map-flat_map}
use Rattle.lists.specs.Laws.Below.{from-within, below-member, select-below}
use Rattle.deck.specs.Deck.{Action, Rule, Deck, M, rule_at, part_at, carries, active, decks}
use Rattle.conversion.specs.Converted.{split_by, split, new_number, new_numbers, renumbered, converted}

-- ---- numbers in a row

pub from-append : (a m n : ℕ) → from a (m + n) ≡ from a m ++ from (a + m) n
unfolding from
from-append a zero n =
    let e : 0 + n ≡ n = omega arith in
    let f : a ≡ a + 0 = omega arith in
    ap₂ from f e
from-append a (suc m) n =
    let e : suc m + n ≡ suc (m + n) = omega arith in
    let f : suc a + m ≡ a + suc m = omega arith in
    ap (from a) e ∙ ap (λ l. a ∷ l) (from-append (suc a) m n ∙ ap (λ k. from (suc a) m ++ from k n) f)

from-map : (a b n : ℕ) → from (a + b) n ≡ map (λ k. a + k) (from b n)
unfolding from
from-map a b zero = refl
from-map a b (suc n) =
    let e : suc (a + b) ≡ a + suc b = omega arith in
    ap (λ l. (a + b) ∷ l) (ap (λ k. from k n) e ∙ from-map a (suc b) n)

pub flat_map-append : {A B : Type 0} (f : A → List B) (l m : List A) → flat_map f (l ++ m) ≡ flat_map f l ++ flat_map f m
unfolding flat_map
flat_map-append f [] m = refl
flat_map-append f (x ∷ l) m = ap (λ n. f x ++ n) (flat_map-append f l m) ∙ sym (append_assoc (f x) (flat_map f l) (flat_map f m))

pub flat_map-flat_map : {A B C : Type 0} (f : B → List C) (g : A → List B) (l : List A)
    → flat_map f (flat_map g l) ≡ flat_map (λ x. flat_map f (g x)) l
unfolding flat_map
flat_map-flat_map f g [] = refl
flat_map-flat_map f g (x ∷ l) = flat_map-append f (g x) (flat_map g l) ∙ ap (λ n. flat_map f (g x) ++ n) (flat_map-flat_map f g l)

pub flat_map-map : {A B C : Type 0} (f : B → List C) (g : A → B) (l : List A) → flat_map f (map g l) ≡ flat_map (λ x. f (g x)) l
unfolding flat_map
flat_map-map f g [] = refl
flat_map-map f g (x ∷ l) = ap (λ n. f (g x) ++ n) (flat_map-map f g l)

pub flat_map-cong : {A : Type 0} (f g : ℕ → List A) (l : List ℕ) → ((x : ℕ) → member x l ≡ true → f x ≡ g x) → flat_map f l ≡ flat_map g l
unfolding flat_map
flat_map-cong f g [] h = refl
flat_map-cong f g (x ∷ l) h = ap₂ ◌++◌ (h x (member-head x l)) (flat_map-cong f g l (λ y m. h y (member-tail y x l m)))

flat_map-filter : {A : Type 0} (f : ℕ → List A) (t : ℕ → Bool) (l : List ℕ) → flat_map (λ x. cond (t x) (f x) []) l ≡ flat_map f (select t l)
unfolding lists
flat_map-filter f t [] = refl
flat_map-filter f t (x ∷ l) = go (t x) (flat_map-filter f t l)
  where
    go : (b : Bool) → flat_map (λ x. cond (t x) (f x) []) l ≡ flat_map f (select t l)
        → cond b (f x) [] ++ flat_map (λ x. cond (t x) (f x) []) l ≡ flat_map f (keep b x (select t l))
    go true e = ap (λ n. f x ++ n) e
    go false e = e

-- a test that is the same for all of a list
select-same : (t : ℕ → Bool) (b : Bool) (l : List ℕ) → ((x : ℕ) → member x l ≡ true → t x ≡ b) → select t l ≡ cond b l []
unfolding lists
select-same t true [] h = refl
select-same t false [] h = refl
select-same t true (x ∷ l) h = ap₂ (λ c n. keep c x n) (h x (member-head x l)) (select-same t true l (λ y m. h y (member-tail y x l m)))
select-same t false (x ∷ l) h = ap₂ (λ c n. keep c x n) (h x (member-head x l)) (select-same t false l (λ y m. h y (member-tail y x l m)))

any_of-same : (f g : ℕ → Bool) (l : List ℕ) → ((x : ℕ) → f x ≡ g x) → any_of f l ≡ any_of g l
any_of-same f g l h = ap (λ t. any_of t l) (fun_ext h)

-- ---- one rule after the other

abbrev size : Rule → ℕ
size r = length (split r)

sums-grow : (rs : List Rule) (a b : ℕ) → a ≤ b → sum_of size (take a rs) ≤ sum_of size (take b rs)
unfolding sum_of
sums-grow rs zero b h = omega arith
sums-grow [] (suc a) zero h = absurd (omega arith)
sums-grow [] (suc a) (suc b) h = omega arith
sums-grow (x ∷ rs) (suc a) zero h = absurd (omega arith)
sums-grow (x ∷ rs) (suc a) (suc b) h = omega (arith, sums-grow rs a b (omega arith))

length-split : (rs : List Rule) → length (flat_map split rs) ≡ sum_of size rs
unfolding flat_map sum_of
length-split [] = refl
length-split (r ∷ rs) = length-append (split r) (flat_map split rs) ∙ ap (λ n. size r + n) (length-split rs)

-- the front of a list by its numbers
map-front : {A : Type 0} (l m : List A) (z : A) → map (λ n. get_or (l ++ m) n z) (from 0 (length l)) ≡ l
unfolding from
map-front [] m z = refl
map-front (x ∷ l) m z =
    ap (λ n. x ∷ n) (ap (map (λ n. get_or (x ∷ (l ++ m)) n z)) (from-map 1 0 (length l)) ∙ shift (from 0 (length l)) ∙ map-front l m z)
  where
    shift : (ns : List ℕ) → map (λ n. get_or (x ∷ (l ++ m)) n z) (map (λ k. 1 + k) ns) ≡ map (λ n. get_or (l ++ m) n z) ns
    shift [] = refl
    shift (n ∷ ns) = ap₂ (λ a b. a ∷ b) (ap (λ k. get_or (x ∷ (l ++ m)) k z) (one n)) (shift ns)
      where
        one : (n : ℕ) → 1 + n ≡ suc n
        one n = omega arith

abbrev pub no_rule : Rule
no_rule = record { events = []; default = []; everywhere = false; condition = Rattle.expression.specs.Syntax.constant false; action = [] }

-- the new rules of rule r, by their numbers
map-rule : (rs : List Rule) (r : ℕ) → r < length rs
    → map (λ n. get_or (flat_map split rs) n no_rule) (from (sum_of size (take r rs)) (size (get_or rs r no_rule))) ≡ split (get_or rs r no_rule)
unfolding flat_map sum_of
map-rule [] r h = absurd (omega arith)
map-rule (x ∷ rs) zero h = map-front (split x) (flat_map split rs) no_rule
map-rule (x ∷ rs) (suc r) h =
    ap (map (λ n. get_or (split x ++ flat_map split rs) n no_rule)) (from-map (size x) (sum_of size (take r rs)) (size (get_or rs r no_rule)))
    ∙ shift (from (sum_of size (take r rs)) (size (get_or rs r no_rule)))
    ∙ map-rule rs r (omega arith)
  where
    shift : (ns : List ℕ)
        → map (λ n. get_or (split x ++ flat_map split rs) n no_rule) (map (λ k. size x + k) ns)
        ≡ map (λ n. get_or (flat_map split rs) n no_rule) ns
    shift [] = refl
    shift (n ∷ ns) = ap₂ (λ a b. a ∷ b) (get_or-append-add (split x) (flat_map split rs) n no_rule) (shift ns)

-- both new rules listen to what the old one did
split-events : (r : Rule) → map (λ x. x.events) (split r) ≡ map (λ _. r.events) (split r)
unfolding split split_by
split-events r = go r.default
  where
    go : (a : Action) → map (λ x. x.events) (split_by a r) ≡ map (λ _. r.events) (split_by a r)
    go [] = refl
    go (s ∷ a) = refl

of-all : (ns : List ℕ) (rs : List Rule) (f : ℕ → Rule) (es : List ℕ) → map f ns ≡ rs → map (λ x. x.events) rs ≡ map (λ _. es) rs
    → (n : ℕ) → member n ns ≡ true → (f n).events ≡ es
of-all [] rs f es e h n m = member-empty n m
of-all (k ∷ ns) [] f es e h n m = absurd (nil≢cons (sym e))
of-all (k ∷ ns) (r ∷ rs) f es e h n m =
    ⊎_elim
    (λ q. ap (λ j. (f j).events) q ∙ ap (λ x. x.events) (head-eq_of_cons-eq e) ∙ head-eq_of_cons-eq h)
    (λ q. of-all ns rs f es (tail-eq_of_cons-eq e) (tail-eq_of_cons-eq h) n q)
    (member-cases n k ns m)

module _ (d : Deck) where
  abbrev d' : Deck
  d' = converted d

  pub rules-of : (r : ℕ) → r < M d → map (rule_at d') (new_numbers d r) ≡ split (rule_at d r)
  unfolding decks converted new_numbers new_number
  rules-of r h = map-rule d.rules r h

  -- ---- the numbers

  pub next-number : (r : ℕ) → r < M d → new_number d (suc r) ≡ new_number d r + size (rule_at d r)
  unfolding decks new_number lists
  next-number r h =
      ap (sum_of size) (take-suc d.rules r no_rule h)
      ∙ sum_of-append size (take r d.rules) (get_or d.rules r no_rule ∷ [])
      ∙ omega arith

  first-number : from 0 (new_number d 0) ≡ flat_map (new_numbers d) (below 0)
  unfolding new_number lists
  first-number = refl

  last-numbers : (k : ℕ) → from (0 + new_number d k) (size (rule_at d k)) ≡ flat_map (new_numbers d) (k ∷ [])
  unfolding new_numbers flat_map
  last-numbers k = let e : 0 + new_number d k ≡ new_number d k = omega arith in ap (λ n. from n (size (rule_at d k))) e ∙ sym (append-nil _)

  below_next : (k : ℕ) → below (suc k) ≡ below k ++ k ∷ []
  unfolding below from
  below_next k =
      let e : suc k ≡ k + 1 = omega arith in
      let f : 0 + k ≡ k = omega arith in
      ap (from 0) e ∙ from-append 0 k 1 ∙ ap (λ n. from 0 k ++ n ∷ []) f

  all-numbers : (k : ℕ) → k ≤ M d → from 0 (new_number d k) ≡ flat_map (new_numbers d) (below k)
  all-numbers zero h = first-number
  all-numbers (suc k) h =
      let e : new_number d (suc k) ≡ new_number d k + size (rule_at d k) = next-number k (omega arith) in
      ap (from 0) e
      ∙ from-append 0 (new_number d k) (size (rule_at d k))
      ∙ ap₂ ◌++◌ (all-numbers k (omega arith)) (last-numbers k)
      ∙ sym (flat_map-append (new_numbers d) (below k) (k ∷ []))
      ∙ ap (flat_map (new_numbers d)) (sym (below_next k))

  pub number-of-rules : M d' ≡ new_number d (M d)
  unfolding decks converted new_number
  number-of-rules = length-split d.rules ∙ ap (sum_of size) (sym (take_all (length d.rules) d.rules (omega arith)))

  below-from : (n : ℕ) → below n ≡ from 0 n
  unfolding below
  below-from n = refl

  pub numbers-below : below (M d') ≡ flat_map (new_numbers d) (below (M d))
  numbers-below = ap below number-of-rules ∙ below-from (new_number d (M d)) ∙ all-numbers (M d) (omega arith)

  -- ---- who carries them

  -- later rules get later numbers
  pub grows : (a b : ℕ) → a ≤ b → new_number d a ≤ new_number d b
  unfolding new_number
  grows a b h = sums-grow d.rules a b h

  -- a number of rule r is none of another rule
  its_own : (r s n : ℕ) → r < M d → member n (new_numbers d r) ≡ true → member n (new_numbers d s) ≡ eqb r s
  unfolding new_numbers
  its_own r s n h m =
      let here = from-within (new_number d r) (size (rule_at d r)) n m in
      same_test (member n (from (new_number d s) (size (rule_at d s)))) (eqb r s)
      (λ t.
      let there = from-within (new_number d s) (size (rule_at d s)) n t in
      go (dec_lt r s) (dec_lt s r) here there)
      (λ e. subst (λ k. member n (from (new_number d k) (size (rule_at d k))) ≡ true) (eqb-true r s e) m)
    where
      go : Dec (r < s) → Dec (s < r) → (new_number d r ≤ n) × (n < new_number d r + size (rule_at d r))
          → (new_number d s ≤ n) × (n < new_number d s + size (rule_at d s)) → eqb r s ≡ true
      go (yes a) b here there = absurd (omega (arith, next-number r h, grows (suc r) s a, here.1, there.0))
      go (no a) (yes b) here there =
          absurd (omega (arith, next-number s (omega arith), grows (suc s) r b, here.0, there.1))
      go (no a) (no b) here there = eq-eqb r s (omega arith)

  renumbered-carried : (p : ℕ) → (part_at d' p).carried ≡ flat_map (new_numbers d) (part_at d p).carried
  unfolding decks converted renumbered lists
  renumbered-carried p = ap (λ x. x.carried) (get_or-map (renumbered d) d.parts p _)

  pub carries-new : (p r n : ℕ) → r < M d → member n (new_numbers d r) ≡ true → carries d' p n ≡ carries d p r
  unfolding carries member
  carries-new p r n h m =
      ap (any_of (eqb n)) (renumbered-carried p)
      ∙ any_of-flat_map (eqb n) (new_numbers d) (part_at d p).carried
      ∙ any_of-same (λ s. any_of (eqb n) (new_numbers d s)) (eqb r) (part_at d p).carried (λ s. its_own r s n h m)

  -- ---- the rules that are active

  -- each new rule has the events of the old one
  pub events-new : (r n : ℕ) → r < M d → member n (new_numbers d r) ≡ true → (rule_at d' n).events ≡ (rule_at d r).events
  events-new r n h m =
      of-all (new_numbers d r) (split (rule_at d r)) (rule_at d') (rule_at d r).events (rules-of r h) (split-events (rule_at d r)) n m

  pub hears : Deck → ℕ → List ℕ → ℕ → Bool
  hears e p cs r = carries e p r && any_of (λ c. member c (rule_at e r).events) cs

  pub hears-new : (p : ℕ) (cs : List ℕ) (r n : ℕ) → r < M d → member n (new_numbers d r) ≡ true → hears d' p cs n ≡ hears d p cs r
  unfolding hears
  hears-new p cs r n h m =
      ap₂ (λ b es. b && any_of (λ c. member c es) cs) (carries-new p r n h m) (events-new r n h m)

  pub active-new : (p : ℕ) (cs : List ℕ) → active d' p cs ≡ flat_map (new_numbers d) (active d p cs)
  unfolding active hears
  active-new p cs =
      ap (select (hears d' p cs)) numbers-below
      ∙ select-flat_map (hears d' p cs) (new_numbers d) (below (M d))
      ∙ flat_map-cong (λ r. select (hears d' p cs) (new_numbers d r)) (λ r. cond (hears d p cs r) (new_numbers d r) []) (below (M d))
      (λ r m. select-same (hears d' p cs) (hears d p cs r) (new_numbers d r) (λ n k. hears-new p cs r n ((below-member (M d) r).1 m) k))
      ∙ flat_map-filter (new_numbers d) (hears d p cs) (below (M d))

  pub active-below : (p : ℕ) (cs : List ℕ) (r : ℕ) → member r (active d p cs) ≡ true → r < M d
  unfolding active hears
  active-below p cs r m = ((select-below (hears d p cs) (M d) r).0 m).0

  pub active-rules : (p : ℕ) (cs : List ℕ) → map (rule_at d') (active d' p cs) ≡ flat_map split (map (rule_at d) (active d p cs))
  active-rules p cs =
      ap (map (rule_at d')) (active-new p cs)
      ∙ map-flat_map (rule_at d') (new_numbers d) (active d p cs)
      ∙ flat_map-cong (λ r. map (rule_at d') (new_numbers d r)) (λ r. split (rule_at d r)) (active d p cs)
      (λ r m. rules-of r (active-below p cs r m))
      ∙ sym (flat_map-map split (rule_at d) (active d p cs))

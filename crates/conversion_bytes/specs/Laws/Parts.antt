-- Laws of parts that stand in a deck, and of what becomes of a part. Assumes nothing.
use Prim.Native.Nat.{ℕ, suc, ◌+◌, ◌*◌, ◌-◌, ◌≤◌, ◌<◌}
use Rattle.std.specs.Prelude.{◌≡◌, refl, true, ltb, ℤ}
use Rattle.std.proofs.Math.Path.{sym, ap, ap₂}
use Rattle.std.proofs.Common.{◌∙◌, subst, arith, add-one, length-append, leb-true, ltb-true, lt-ltb, eqb-true}
use mathlib.Core.List.{List, [], ◌∷◌, ◌++◌, flat_map}
use Rattle.std.proofs.Math.ListN.{length, get_or}
use Rattle.lists.specs.Lists.{all_of, from}
use Rattle.lists.specs.Laws.Alls.{all_of-none, all_of-cons, all_of-at}
use Rattle.lists.specs.Laws.Members.{all_of-member}
use Rattle.lists.specs.Laws.Below.{from-length}
use Rattle.expression.specs.Syntax.{constant}
use Rattle.expression.specs.Encoding.{encode_value, encode_truth}
use Rattle.deck.specs.Deck.{Part, Deck, R, M, N, rule_at}
use Rattle.deck.specs.Encoding.{encode_expression, encode_part, is_rising, good_part, well_formed}
use Rattle.deck.proofs.Laws.Rules.{encode-part}
use Rattle.deck.proofs.Laws.Formed.{rising-head, part-tests, deck-tests}
use Rattle.conversion.specs.Converted.{split, new_number, new_numbers, renumbered}
use Rattle.conversion.proofs.Laws.Renumbering.{from-append, flat_map-cong, next-number}
use Rattle.conversion_bytes.specs.Stands.{stretch, Stands}
use Rattle.conversion_bytes.specs.Pieces.{opening_bytes, limit_bytes, PartStands, PartEndings}
use Rattle.conversion_bytes.specs.Pieces.{renewed, Known, part_bytes, new_part_bytes, PutsPart}
use Rattle.conversion_bytes.specs.Decks.{Numbered}
use Rattle.conversion_bytes.specs.Laws.Rules.{split-size, becomes-few}
use Rattle.conversion_bytes.specs.Laws.Stands.{stands-long, stands-first, stands-second, stands-head, stretch-is}
use Rattle.conversion_bytes.specs.declared.PartEnds.{PartEnds}

-- ---- numbers in a row

pub from-none : (a : ℕ) → from a (a - a) ≡ []
unfolding from
from-none a = let e : a - a ≡ 0 = omega arith in ap (from a) e

pub from_next : (a n : ℕ) → a ≤ n → from a (n + 1 - a) ≡ from a (n - a) ++ (n ∷ [])
unfolding from
from_next a n h =
    let e : n + 1 - a ≡ n - a + 1 = omega arith in
    let f : a + (n - a) ≡ n = omega arith in
    ap (from a) e ∙ from-append a (n - a) 1 ∙ ap (λ k. from a (n - a) ++ (k ∷ [])) f

-- ---- the stretches of a part

pub record PartInside (s : List ℕ) (at opening : ℕ) (p : Part) : Type 0 where
  pub carried : at + opening < length s
  pub limit : at + length (opening_bytes p) + length (length p.carried ∷ p.carried) < length s
  pub end : at + length (encode_part p) ≤ length s

module _ (s : List ℕ) (at opening : ℕ) (p : Part) (w : PartStands s at opening p) where
  abbrev first : List ℕ
  first = opening_bytes p

  abbrev second : List ℕ
  second = length p.carried ∷ p.carried

  three : Stands s at (first ++ (second ++ limit_bytes p))
  three = subst (Stands s at) (encode-part p) w.stands

  behind : Stands s (at + length first) (second ++ limit_bytes p)
  behind = stands-second s at first (second ++ limit_bytes p) three

  limit-stands : Stands s (at + length first + length second) (limit_bytes p)
  limit-stands = stands-second s (at + length first) second (limit_bytes p) behind

  opening-stands : Stands s at first
  opening-stands = stands-first s at first (second ++ limit_bytes p) three

  carried-stand : Stands s (at + length first + 1) p.carried
  carried-stand =
      stands-first s (at + length first + 1) p.carried (limit_bytes p)
      (stands-second s (at + length first) (length p.carried ∷ []) (p.carried ++ limit_bytes p) behind)

  part-long : length (encode_part p) ≡ length first + (length second + length (limit_bytes p))
  part-long =
      ap length (encode-part p)
      ∙ length-append first (second ++ limit_bytes p)
      ∙ ap (λ n. length first + n) (length-append second (limit_bytes p))

  pub part-inside : PartInside s at opening p
  unfolding encode_expression
  part-inside =
      let long = stands-long s at (encode_part p) w.stands in
      record {
        carried = omega (arith, long, part-long, w.size);
        limit = omega (arith, long, part-long);
        end = omega (arith, long, part-long);
      }

  -- the count of the carried rules, and the length of the limit
  pub limit_is : (n : ℕ) → n ≡ get_or s (at + opening) 0 → at + opening + 1 + n ≡ at + length first + length second
  limit_is n e =
      let count = stands-head s (at + length first) (length p.carried) (p.carried ++ limit_bytes p) behind in
      let place : get_or s (at + opening) 0 ≡ get_or s (at + length first) 0 = ap (λ k. get_or s (at + k) 0) w.size in
      omega (arith, count, place, e, w.size)

  pub end_is : (limit n : ℕ) → limit ≡ at + length first + length second → n ≡ get_or s limit 0 → limit + 1 + n ≡ at + length (encode_part p)
  unfolding encode_expression
  end_is limit n e f =
      let truth : List ℕ = encode_truth p.limit in
      let count = stands-head s (at + length first + length second) (length truth) truth limit-stands in
      omega (arith, count, ap (λ k. get_or s k 0) e, e, f, part-long)

-- the stretches of a part, by where they end
pub record PartStretches (s : List ℕ) (at : ℕ) (e : PartEnds) (p : Part) : Type 0 where
  pub opening : stretch s at e.carried ≡ opening_bytes p
  pub carried : stretch s (e.carried + 1) e.limit ≡ p.carried
  pub limit : stretch s e.limit e.end ≡ limit_bytes p
  pub order : (at ≤ e.carried) × (e.carried < e.limit) × (e.limit ≤ e.end) × (e.end ≤ length s)

pub part-stretches : (s : List ℕ) (at opening : ℕ) (p : Part) (e : PartEnds) → PartStands s at opening p → PartEndings at p e
    → PartStretches s at e p
part-stretches s at opening p e w ends =
    let first : List ℕ = opening_bytes p in
    let second : List ℕ = length p.carried ∷ p.carried in
    let long = part-long s at opening p w in
    let inside = part-inside s at opening p w in
    let begin : e.carried + 1 ≡ at + length first + 1 = omega (arith, ends.carried) in
    let carried : e.limit ≡ at + length first + 1 + length p.carried = omega (arith, ends.limit) in
    let end : e.end ≡ at + length first + length second + length (limit_bytes p) = omega (arith, ends.end, long) in
    record {
      opening = stretch-is s at at e.carried first refl ends.carried (opening-stands s at opening p w);
      carried =
          stretch-is s (at + length first + 1) (e.carried + 1) e.limit p.carried begin carried (carried-stand s at opening p w);
      limit =
          stretch-is s (at + length first + length second) e.limit e.end (limit_bytes p) ends.limit end
          (limit-stands s at opening p w);
      order = (
        omega (arith, ends.carried),
        omega (arith, ends.carried, ends.limit),
        omega (arith, ends.limit, end),
        omega (arith, ends.end, inside.end),
      );
    }

-- ---- what becomes of a part

pub opening-size : (l : List ℤ) → length (flat_map encode_value l) ≡ 4 * length l
unfolding flat_map encode_value
opening-size [] = refl
opening-size (x ∷ l) = omega (arith, length-append (encode_value x) (flat_map encode_value l), opening-size l)

rising-below : (lo hi : ℕ) (cs : List ℕ) → is_rising lo hi cs ≡ true → all_of (λ c. ltb c hi) cs ≡ true
rising-below lo hi [] h = all_of-none (λ c. ltb c hi)
rising-below lo hi (c ∷ cs) h =
    let head = rising-head lo hi c cs h in
    all_of-cons (λ c. ltb c hi) c cs (lt-ltb c hi head.1) (rising-below (suc c) hi cs head.2)

-- a part of a well-formed deck
pub record GoodPart (d : Deck) (p : Part) : Type 0 where
  pub opening : length p.opening ≡ R d
  pub few : length p.carried ≤ M d
  pub known : all_of (λ c. ltb c (M d)) p.carried ≡ true

good : (d : Deck) (p : Part) → good_part (R d) (M d) p ≡ true → GoodPart d p
good d p h =
    let tests = part-tests (R d) (M d) p h in
    record {
      opening = eqb-true (length p.opening) (R d) tests.0;
      few = leb-true (length p.carried) (M d) tests.2;
      known = rising-below 0 (M d) p.carried tests.3;
    }

abbrev pub no_part : Part
no_part = record { opening = []; carried = []; limit = constant true }

pub good-part : (d : Deck) → well_formed d ≡ true → (i : ℕ) → i < N d → GoodPart d (get_or d.parts i no_part)
unfolding N
good-part d h i less =
    good d (get_or d.parts i no_part) (all_of-at (good_part (R d) (M d)) d.parts i no_part (deck-tests d h).4 less)

-- a rule becomes at most two
few-numbers : (d : Deck) (r : ℕ) → length (new_numbers d r) ≤ 2
unfolding new_numbers
few-numbers d r =
    let x = rule_at d r in
    omega (arith, from-length (new_number d r) (length (split x)), split-size x, becomes-few (length x.default))

all-few : (d : Deck) (rs : List ℕ) → length (flat_map (new_numbers d) rs) ≤ 2 * length rs
unfolding flat_map
all-few d [] = omega arith
all-few d (r ∷ rs) = omega (arith, length-append (new_numbers d r) (flat_map (new_numbers d) rs), few-numbers d r, all-few d rs)

module _ (d : Deck) (numbers : List ℕ) (n : Numbered d numbers) where
  -- the new numbers of a rule, by those that the rules begin at
  renewed-is : (r : ℕ) → r < M d → renewed numbers r ≡ new_numbers d r
  unfolding renewed new_numbers
  renewed-is r h =
      let here = n.at r (omega arith) in
      let next : get_or numbers (r + 1) 0 ≡ new_number d r + length (split (rule_at d r))
      = n.at (r + 1) (omega arith) ∙ ap (new_number d) (add-one r) ∙ next-number d r h in
      let long : get_or numbers (r + 1) 0 - get_or numbers r 0 ≡ length (split (rule_at d r)) = omega (arith, here, next) in
      ap₂ from here long

  module _ (p : Part) (g : GoodPart d p) where
    all-renewed : flat_map (renewed numbers) p.carried ≡ flat_map (new_numbers d) p.carried
    all-renewed =
        flat_map-cong (renewed numbers) (new_numbers d) p.carried
        (λ r m. renewed-is r (ltb-true r (M d) ((all_of-member (λ c. ltb c (M d)) p.carried).0 g.known r m)))

    part_bytes_lem : part_bytes numbers (opening_bytes p) p.carried (limit_bytes p) ≡ new_part_bytes d p
    unfolding part_bytes renumbered
    part_bytes_lem =
        ap (λ l. opening_bytes p ++ ((length l ∷ l) ++ limit_bytes p)) all-renewed ∙ sym (encode-part (renumbered d p))

    carried-known : M d ≤ 64 → Known numbers p.carried
    carried-known h i less =
        let below = ltb-true (get_or p.carried i 0) (M d) (all_of-at (λ c. ltb c (M d)) p.carried i 0 g.known less) in
        omega (arith, below, n.size)

    carried-few : M d ≤ 64 → length (flat_map (renewed numbers) p.carried) < 256
    carried-few h = omega (arith, ap length all-renewed, all-few d p.carried, g.few)

    -- by the stretches of a part that stands in a deck
    module _ (s : List ℕ) (at : ℕ) (e : PartEnds) (w : PartStretches s at e p) where
      pub stretches-part : let first = e.carried + 1 in
          part_bytes numbers (stretch s at e.carried) (stretch s first e.limit) (stretch s e.limit e.end) ≡ new_part_bytes d p
      stretches-part =
          ap (λ x. part_bytes numbers x (stretch s (e.carried + 1) e.limit) (stretch s e.limit e.end)) w.opening
          ∙ ap₂ (part_bytes numbers (opening_bytes p)) w.carried w.limit
          ∙ part_bytes_lem

      pub puts-part : M d ≤ 64 → (out : List ℕ) (to : ℕ) → to + length (new_part_bytes d p) ≤ length out
          → PutsPart (stretch s at e.carried) (stretch s (e.carried + 1) e.limit) (stretch s e.limit e.end) numbers out to
      puts-part h out to room =
          record {
            known = subst (Known numbers) (sym w.carried) (carried-known h);
            few = subst (λ l. length (flat_map (renewed numbers) l) < 256) (sym w.carried) (carried-few h);
            room = subst (λ l. to + length l ≤ length out) (sym stretches-part) room;
          }

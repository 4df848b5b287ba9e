-- Laws of sets of small numbers as the bits of a number. Assumes nothing.
use Rattle.std.specs.Prelude.{ℕ, zero, suc, ◌*◌, ◌/◌, ◌%◌, ◌^◌, ◌<◌, min, max, ◌≡◌, refl, ◌↔◌, Bool, true, false, not, cond, ◌&&◌, ◌||◌, List, [], ◌∷◌, ◌++◌, eqb}
use Rattle.std.proofs.Common.{sym, ap, ap₂, ◌∙◌, arith, pow-suc, mul_comm, one-mul, div-one, pow_pos, shl_exact, lit<}
use Rattle.std.proofs.Math.Bool.{or_assoc}
use Rattle.std.proofs.Math.Nat.{div-div-eq-div-mul, zero-div}
use Rattle.std.specs.Int.Bits.{bit_or, bit_and, bit_xor, differ, or_step, and_step, xor_step}
use Rattle.std.proofs.lemmas.Nat.{or_shr, and_shr, xor_shr}
use Rattle.std.proofs.Math.Dec.{eqb-zero-suc, eqb-suc-zero, eqb-suc-suc}
use Rattle.std.proofs.lemmas.Bool.{eqb-false}
use Rattle.lists.specs.Lists.{lists, any_of, member}
use Rattle.lists.specs.Bits.{bit, mask_from, mask_of}
use Rattle.lists.specs.Laws.Booleans.{contradiction, not-true→false, and_both, and_left, and_right}
use Rattle.lists.specs.Laws.Members.{member-head, any_of-intro}
use Rattle.lists.specs.Laws.Anys.{any_of-fails}

-- two digits
two-or : (x y : ℕ) → x < 2 → y < 2 → eqb (max x y) 1 ≡ (eqb x 1 || eqb y 1)
two-or zero zero l m = refl
two-or zero (suc zero) l m = refl
two-or zero (suc (suc y)) l m = absurd (omega arith)
two-or (suc zero) zero l m = refl
two-or (suc zero) (suc zero) l m = refl
two-or (suc zero) (suc (suc y)) l m = absurd (omega arith)
two-or (suc (suc x)) y l m = absurd (omega arith)

two-and : (x y : ℕ) → x < 2 → y < 2 → eqb (min x y) 1 ≡ (eqb x 1 && eqb y 1)
two-and zero zero l m = refl
two-and zero (suc zero) l m = refl
two-and zero (suc (suc y)) l m = absurd (omega arith)
two-and (suc zero) zero l m = refl
two-and (suc zero) (suc zero) l m = refl
two-and (suc zero) (suc (suc y)) l m = absurd (omega arith)
two-and (suc (suc x)) y l m = absurd (omega arith)

two-xor : (x y : ℕ) → x < 2 → y < 2 → eqb (differ x y) 1 ≡ cond (eqb x 1) (not (eqb y 1)) (eqb y 1)
two-xor zero zero l m = refl
two-xor zero (suc zero) l m = refl
two-xor zero (suc (suc y)) l m = absurd (omega arith)
two-xor (suc zero) zero l m = refl
two-xor (suc zero) (suc zero) l m = refl
two-xor (suc zero) (suc (suc y)) l m = absurd (omega arith)
two-xor (suc (suc x)) y l m = absurd (omega arith)

or-digit : (a b : ℕ) → bit_or a b % 2 ≡ max (a % 2) (b % 2)
or-digit a b = omega (arith, or_step a b)

and-digit : (a b : ℕ) → bit_and a b % 2 ≡ min (a % 2) (b % 2)
and-digit a b = omega (arith, and_step a b)

differ-low : (x y : ℕ) → x < 2 → y < 2 → differ x y < 2
differ-low zero y l m = m
differ-low (suc zero) zero l m = omega arith
differ-low (suc zero) (suc zero) l m = omega arith
differ-low (suc zero) (suc (suc y)) l m = absurd (omega arith)
differ-low (suc (suc x)) y l m = absurd (omega arith)

xor-digit : (a b : ℕ) → bit_xor a b % 2 ≡ differ (a % 2) (b % 2)
xor-digit a b = omega (arith, xor_step a b, differ-low (a % 2) (b % 2) (omega arith) (omega arith))

-- ---- a bit

pub bit-or : (a b c : ℕ) → bit (bit_or a b) c ≡ (bit a c || bit b c)
unfolding bit
bit-or a b c =
    ap (λ x. eqb (x % 2) 1) (or_shr a b c)
    ∙ ap (λ x. eqb x 1) (or-digit (a / 2 ^ c) (b / 2 ^ c))
    ∙ two-or (a / 2 ^ c % 2) (b / 2 ^ c % 2) (omega arith) (omega arith)

pub bit-and : (a b c : ℕ) → bit (bit_and a b) c ≡ (bit a c && bit b c)
unfolding bit
bit-and a b c =
    ap (λ x. eqb (x % 2) 1) (and_shr a b c)
    ∙ ap (λ x. eqb x 1) (and-digit (a / 2 ^ c) (b / 2 ^ c))
    ∙ two-and (a / 2 ^ c % 2) (b / 2 ^ c % 2) (omega arith) (omega arith)

pub bit-xor : (a b c : ℕ) → bit (bit_xor a b) c ≡ cond (bit a c) (not (bit b c)) (bit b c)
unfolding bit
bit-xor a b c =
    ap (λ x. eqb (x % 2) 1) (xor_shr a b c)
    ∙ ap (λ x. eqb x 1) (xor-digit (a / 2 ^ c) (b / 2 ^ c))
    ∙ two-xor (a / 2 ^ c % 2) (b / 2 ^ c % 2) (omega arith) (omega arith)

pub bit-zero : (c : ℕ) → bit 0 c ≡ false
unfolding bit
bit-zero c = ap (λ x. eqb (x % 2) 1) (zero-div (2 ^ c))

pub bit_up : (m c : ℕ) → bit m (suc c) ≡ bit (m / 2) c
unfolding bit
bit_up m c = ap (λ x. eqb (x % 2) 1) (ap (λ x. m / x) (pow-suc 2 c ∙ mul_comm (2 ^ c) 2) ∙ sym (div-div-eq-div-mul m 2 (2 ^ c)))

pub bit-low : (m : ℕ) → bit m 0 ≡ eqb (m % 2) 1
unfolding bit
bit-low m = ap (λ x. eqb (x % 2) 1) (div-one m)

-- a power of 2 has one bit
pub bit-power : (k c : ℕ) → bit (2 ^ k) c ≡ eqb c k
bit-power zero zero = bit-low 1
bit-power zero (suc c) = bit_up 1 c ∙ bit-zero c ∙ sym (eqb-suc-zero c)
bit-power (suc k) zero =
    let e : 2 ^ suc k % 2 ≡ 0 = omega (arith, pow-suc 2 k) in
    bit-low (2 ^ suc k) ∙ ap (λ x. eqb x 1) e ∙ sym (eqb-zero-suc k)
bit-power (suc k) (suc c) =
    let e : 2 ^ suc k / 2 ≡ 2 ^ k = omega (arith, pow-suc 2 k) in
    bit_up (2 ^ suc k) c ∙ ap (λ x. bit x c) e ∙ bit-power k c ∙ sym (eqb-suc-suc c k)

-- 1 shifted by c in a number of w bits
pub bit_shifted : (w c : ℕ) → c < w → 1 * 2 ^ c % 2 ^ w ≡ 2 ^ c
bit_shifted w c h = shl_exact 1 c w (lit< tt) (omega arith) ∙ one-mul (2 ^ c)

below_power : (n : ℕ) → n < 2 ^ n
below_power zero = pow_pos 0
below_power (suc n) = omega (arith, pow-suc 2 n, below_power n)

-- a number with no bit is 0
pub no_bits : (k m : ℕ) → m < 2 ^ k → ((c : ℕ) → c < k → bit m c ≡ false) → m ≡ 0
no_bits zero m l h = omega arith
no_bits (suc k) m l h =
    let a = no_bits k (m / 2) (omega (arith, pow-suc 2 k)) (λ c w. sym (bit_up m c) ∙ h (suc c) (omega arith)) in
    let b = eqb-false (m % 2) 1 (sym (bit-low m) ∙ h 0 (omega arith)) in
    omega arith

-- ---- the set of a list

-- one number more, at the end
from-add : (m : ℕ) (cs : List ℕ) (c : ℕ) → mask_from m (cs ++ (c ∷ [])) ≡ bit_or (mask_from m cs) (2 ^ c)
unfolding mask_from
from-add m [] c = refl
from-add m (d ∷ cs) c = from-add (bit_or m (2 ^ d)) cs c

pub mask-add : (cs : List ℕ) (c : ℕ) → mask_of (cs ++ (c ∷ [])) ≡ bit_or (mask_of cs) (2 ^ c)
unfolding mask_of
mask-add cs c = from-add 0 cs c

pub mask-bit : (m : ℕ) (cs : List ℕ) (c : ℕ) → bit (mask_from m cs) c ≡ (bit m c || member c cs)
unfolding mask_from lists
mask-bit m [] c = go (bit m c)
  where
    go : (b : Bool) → b ≡ (b || false)
    go true = refl
    go false = refl
mask-bit m (d ∷ cs) c =
    mask-bit (bit_or m (2 ^ d)) cs c
    ∙ ap (λ x. x || member c cs) (bit-or m (2 ^ d) c ∙ ap (λ x. bit m c || x) (bit-power d c))
    ∙ or_assoc (bit m c) (eqb c d) (member c cs)

pub mask_of-bit : (cs : List ℕ) (c : ℕ) → bit (mask_of cs) c ≡ member c cs
unfolding mask_of
mask_of-bit cs c = mask-bit 0 cs c ∙ ap (λ x. x || member c cs) (bit-zero c)

-- it is 0 for the empty list alone
pub mask-empty : (cs : List ℕ) → (mask_of cs ≡ 0) ↔ (cs ≡ [])
unfolding mask_of mask_from
mask-empty cs = (to cs, λ e. ap mask_of e)
  where
    to : (cs : List ℕ) → mask_of cs ≡ 0 → cs ≡ []
    to [] e = refl
    to (c ∷ cs) e =
        contradiction (sym (ap (λ m. bit m c) e) ∙ mask_of-bit (c ∷ cs) c ∙ member-head c cs) (bit-zero c)

-- two sets have no number in common
pub meets : (ks ms : List ℕ) → (bit_and (mask_of ks) (mask_of ms) ≡ 0) ↔ (any_of (λ c. member c ks) ms ≡ false)
meets ks ms = (to, from)
  where
    both : (c : ℕ) → bit (bit_and (mask_of ks) (mask_of ms)) c ≡ (member c ks && member c ms)
    both c = bit-and (mask_of ks) (mask_of ms) c ∙ ap₂ (λ a b. a && b) (mask_of-bit ks c) (mask_of-bit ms c)

    to : bit_and (mask_of ks) (mask_of ms) ≡ 0 → any_of (λ c. member c ks) ms ≡ false
    to e = any_of-fails (λ c. member c ks) ms λ c m.
        not-true→false (member c ks) (λ k. contradiction (and_both k m) (sym (both c) ∙ ap (λ x. bit x c) e ∙ bit-zero c))

    from : any_of (λ c. member c ks) ms ≡ false → bit_and (mask_of ks) (mask_of ms) ≡ 0
    from n =
        no_bits _ (bit_and (mask_of ks) (mask_of ms)) (below_power _) λ c w.
        both c
        ∙ not-true→false (member c ks && member c ms) (λ t.
        contradiction
        (any_of-intro (λ c. member c ks) ms c (and_right (member c ks) (member c ms) t) (and_left (member c ks) (member c ms) t))
        n)

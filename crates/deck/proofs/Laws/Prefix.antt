-- The longest deck of a form has `longest` bytes, and reading looks at one byte more at most. Assumes nothing.
use Rattle.std.specs.Prelude.{ℕ, zero, suc, ◌+◌, ◌*◌, ◌<◌, ◌≤◌, ◌≡◌, refl, Bool, true, false, not, List, [], ◌∷◌, leb, eqb, length, take, drop}
use Rattle.std.proofs.Common.{ap, ◌∙◌, arith, le_refl, le_of_suc-le-suc, mul-le-mul, take-append-drop, take_all, length-take-le, leb-true, leb-false, eqb-true}
use Rattle.lists.specs.Lists.{member}
use Rattle.refusals.specs.Outcome.{Outcome, accepted}
use Rattle.refusals.specs.Numbers.{repeated_target, default_retired}
use Rattle.expression.specs.Reading.{Read, nothing, Scope}
use Rattle.expression.specs.Faults.{Found, sound}
use Rattle.expression.specs.Bytes.{Bytes}
use Rattle.deck.specs.declared.Form.{Form}
use Rattle.deck.specs.declared.Form.TheVariants.{Old, New}
use Rattle.deck.specs.Limits.{limits, longest}
use Rattle.deck.specs.Deck.{Deck}
use Rattle.deck.specs.Reader.{Got, readers}
use Rattle.deck.specs.Layout.{Expected, numbers, truths, judged, expression, own_only, task_scope}
use Rattle.deck.specs.Layout.{assignments, action, rule, part, default_action}
use Rattle.deck.specs.Layout.{Layout, sections, value_of, read, layouts}
use Rattle.deck.proofs.Laws.Judging.{judged-cases}
use Rattle.deck.specs.Encoding.{encode, well_formed, suits}
use Rattle.deck.proofs.Laws.Exact.{Accepts, accepting, refusing, accepts}
use Rattle.deck.proofs.Laws.Within.{Continues, both_refuse, both_accept, Within, Anything, widen, at_most, forget, give-within}
use Rattle.deck.proofs.Laws.Within.{fault-within, here-within, expect-within, end-within, then-within, byte-within, number-within}
use Rattle.deck.proofs.Laws.Within.{repeats-within, rising-within, value-within}
use Rattle.deck.proofs.Laws.Reading.{sections-encode, read-formed, read-suited, read-encoded}

-- ---- the most bytes of each thing

abbrev expression_size : ℕ
expression_size = 1 + limits.expression

abbrev assignment_size : ℕ
assignment_size = 1 + expression_size

abbrev action_size : ℕ
action_size = 1 + limits.assignments * assignment_size

abbrev default_size : Form → ℕ
default_size Old = action_size
default_size New = 1

abbrev rule_size : Form → ℕ
rule_size f = 1 + limits.events + default_size f + 1 + expression_size + action_size

abbrev part_size : ℕ
part_size = limits.channels * 4 + 1 + limits.rules + expression_size

-- ---- the deck's readers

judged-within : {A : Type 0} (r : Read A) (f : Found) (has : r ≡ nothing → f ≡ sound → ⊥) → Within Anything 0 0 (judged r f has)
judged-within r f has = judged-cases r f has (Within Anything 0 0) (λ a n _. give-within a tt) (λ n p _ _. fault-within n p)

expression-within : {A : Type 0} (j : Expected A) → Within Anything expression_size expression_size (expression j)
unfolding layouts readers
expression-within j =
    then-within (number-within 1 (suc limits.expression)) λ n h. here-within λ p.
    then-within (at_most limits.expression (omega arith) (repeats-within byte-within n)) λ s _.
    judged-within (j.whole s) (j.find s p) (j.has_fault s p)

assignments-within : (sc : Scope) (n : ℕ) (ts : List ℕ) → Within Anything (n * assignment_size) (n * assignment_size) (assignments sc n ts)
unfolding layouts readers
assignments-within sc zero ts = give-within [] tt
assignments-within sc (suc n) ts =
    here-within λ p. widen (omega arith) (omega arith)
    (then-within (number-within 0 sc.owns) λ t _.
    expect-within (not (member t ts)) repeated_target p λ _.
    then-within (expression-within (numbers sc)) λ e _.
    then-within (assignments-within sc n (t ∷ ts)) λ a _.
    give-within (record { target = t; value = e } ∷ a) tt)

-- an action with n assignments
assignments-most : (sc : Scope) (n k : ℕ) → n ≤ k → Within Anything (k * assignment_size) (k * assignment_size) (assignments sc n [])
assignments-most sc n k h = at_most (k * assignment_size) (omega arith) (assignments-within sc n [])

action-within : (sc : Scope) → Within Anything action_size action_size (action sc)
unfolding layouts readers
action-within sc =
    then-within (number-within 0 (suc limits.assignments)) λ n h. assignments-most sc n limits.assignments (omega arith)

default-within : (f : Form) (R : ℕ) → Within Anything (default_size f) (default_size f) (default_action f R)
unfolding layouts readers
default-within Old R =
    here-within λ p. then-within (number-within 0 (suc limits.assignments)) λ n h.
    expect-within true default_retired p λ _. assignments-most (own_only R) n limits.assignments (omega arith)
default-within New R =
    here-within λ p. then-within (number-within 0 (suc limits.assignments)) λ n _.
    expect-within (eqb n 0) default_retired p λ e. assignments-most (own_only R) n 0 (omega (arith, eqb-true n 0 e))

rule-within : (f : Form) (R : ℕ) → Within Anything (rule_size f) (rule_size f) (rule f R)
unfolding layouts readers
rule-within f R =
    widen (omega arith) (omega arith)
    (then-within (number-within 1 (suc limits.events)) λ n h.
    then-within (at_most limits.events (omega arith) (rising-within n 0 R)) λ events _.
    then-within (default-within f R) λ default _.
    then-within (number-within 0 2) λ kind _.
    then-within (expression-within (truths (task_scope R (eqb kind 1)))) λ condition _.
    then-within (action-within (task_scope R (eqb kind 1))) λ act _.
    give-within _ tt)

part-within : (R M : ℕ) → R < suc limits.channels → M < suc limits.rules → Within Anything part_size part_size (part R M)
unfolding layouts readers
part-within R M h k =
    then-within (at_most (limits.channels * 4) (omega arith) (repeats-within value-within R)) λ opening _.
    then-within (number-within 0 (suc M)) λ n l.
    then-within (at_most limits.rules (omega arith) (rising-within n 0 M)) λ carried _.
    then-within (expression-within (truths (own_only R))) λ limit _.
    give-within _ tt

sizes : (f : Form) → (1 + (limits.channels + (1 + (limits.rules * rule_size f + (1 + (limits.parts * part_size + 1))))) ≤ suc (longest f))
    × (1 + (limits.channels + (1 + (limits.rules * rule_size f + (1 + (limits.parts * part_size + 0))))) ≤ longest f)
sizes Old = (omega arith, omega arith)
sizes New = (omega arith, omega arith)

few : (M n : ℕ) → M < suc limits.rules → M * n ≤ limits.rules * n
few M n h = mul-le-mul (le_of_suc-le-suc h) (le_refl n)

-- the last byte looked at is one that follows
sections-within : (f : Form) → Within Anything (suc (longest f)) (longest f) (sections f)
unfolding layouts readers
sections-within f =
    widen (sizes f).0 (sizes f).1
    (then-within (number-within 1 (suc limits.channels)) λ R h.
    then-within (at_most limits.channels (omega arith) (repeats-within {m = 1} (forget (number-within _ _)) R)) λ labels _.
    here-within λ rules_at.
    then-within (number-within 0 (suc limits.rules)) λ M k.
    then-within (at_most (limits.rules * rule_size f) (few M (rule_size f) k) (repeats-within (rule-within f R) M)) λ rules _.
    here-within λ parts_at.
    then-within (number-within 1 (suc limits.parts)) λ N l.
    then-within (at_most (limits.parts * part_size) (omega arith) (repeats-within (part-within R M h k) N)) λ parts _.
    end-within _)

-- ---- the whole deck

continues-takes : {A : Type 0} {P : A → Type 0} {n : ℕ} {s t : List ℕ} {o o' : Outcome (Got A)} → Continues P n s t o o'
    → Accepts (λ g. length s ≤ length g.rest + n) o
continues-takes both_refuse = refusing
continues-takes (both_accept r p h) = accepting h

continues-value : {A : Type 0} {P : A → Type 0} {n : ℕ} {s t : List ℕ} {o o' : Outcome (Got A)} → Continues P n s t o o'
    → value_of o ≡ value_of o'
unfolding value_of
continues-value both_refuse = refl
continues-value (both_accept r p h) = refl

pub encode-length : (f : Form) (d : Deck) → well_formed d ≡ true → suits f d ≡ true → length (encode d) ≤ longest f
encode-length f d h k = go (leb (length (encode d)) (longest f)) refl
  where
    go : (t : Bool) → leb (length (encode d)) (longest f) ≡ t → length (encode d) ≤ longest f
    go true e = leb-true (length (encode d)) (longest f) e
    go false e =
        let long : longest f < length (encode d) = leb-false (length (encode d)) (longest f) e in
        let c : length (encode d) ≤ 0 + longest f
        = accepts (continues-takes ((sections-within f).continues (encode d) [] 0 long)) (sections-encode f d h k) in
        omega arith

pub read_length : (f : Form) (bytes : List ℕ) → Bytes bytes → (l : Layout) → read f bytes ≡ accepted l → length bytes ≤ longest f
read_length f bytes b l e =
    rw (read-encoded f bytes b l e) (encode-length f l.deck (read-formed f bytes b l e) (read-suited f bytes b l e))

-- a program that looks at no more than this many bytes answers right
pub read-prefix : (f : Form) (bytes : List ℕ) → read f (take (suc (longest f)) bytes) ≡ read f bytes
unfolding read
read-prefix f bytes = go (leb (length bytes) (suc (longest f))) refl
  where
    go : (t : Bool) → leb (length bytes) (suc (longest f)) ≡ t → read f (take (suc (longest f)) bytes) ≡ read f bytes
    go true e = ap (read f) (take_all (suc (longest f)) bytes (leb-true (length bytes) (suc (longest f)) e))
    go false e =
        let long : suc (longest f) < length bytes = leb-false (length bytes) (suc (longest f)) e in
        let s : List ℕ = take (suc (longest f)) bytes in
        let t : List ℕ = drop (suc (longest f)) bytes in
        let size : length s ≡ suc (longest f) = length-take-le (suc (longest f)) bytes (omega arith) in
        continues-value ((sections-within f).continues s t 0 (omega arith))
        ∙ ap (read f) (take-append-drop (suc (longest f)) bytes)

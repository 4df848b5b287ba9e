-- The two forms of a deck: a new one has no default actions, and bytes that are read in both forms hold one deck. Assumes nothing.
use Rattle.std.specs.Prelude.{ℕ, zero, suc, ◌<◌, ◌≡◌, true, List, [], ◌∷◌, eqb, length}
use Rattle.std.proofs.Math.Path.{refl, sym, ap}
use Rattle.std.proofs.Common.{subst, ◌∙◌, arith, suc-ne-zero}
use borrow.Author.Tests.{eqb-true, ne_eqb}
use Rattle.lists.specs.Laws.Alls.{all_of-every, all_of-get_or}
use Rattle.refusals.specs.Outcome.{Outcome, refused, accepted}
use Rattle.refusals.specs.Laws.Outcomes.{refused≢accepted, accepted-inj}
use Rattle.refusals.specs.Numbers.{default_retired}
use Rattle.expression.specs.Bytes.{Bytes}
use Rattle.deck.specs.declared.Form.{Form}
use Rattle.deck.specs.declared.Form.TheVariants.{Old, New}
use Rattle.deck.specs.Deck.{Action, Rule, Deck, rule_at}
use Rattle.deck.specs.Reader.{Got, Reader, and_then, ◌>>=◌, give, here, number, repeats, rising, readers, label}
use Rattle.deck.specs.Layout.{own_only, assignments, action, allows, default_action, rule, Layout, sections, value_of, read, layouts}
use Rattle.deck.specs.Encoding.{suits_rule, suits}
use Rattle.deck.proofs.Laws.Reading.{read-suited}
use Rattle.deck.proofs.Laws.Points.{then-inv, default-action}
use Rattle.deck.proofs.Laws.Offsets.{then_next, then-fault, expect-fails}
use Rattle.deck.specs.Facts.{NoDefaults}

-- ---- decks

pub suits-old : (d : Deck) → suits Old d ≡ true
unfolding suits suits_rule allows
suits-old d = all_of-every (suits_rule Old) (λ _. refl) d.rules

no_length : (a : Action) → eqb (length a) 0 ≡ true → a ≡ []
no_length [] h = refl
no_length (s ∷ a) h = absurd (suc-ne-zero (length a) (eqb-true (suc (length a)) 0 h))

-- a rule of a new deck has none, and so has none of its rules
pub rule-none : (r : Rule) → suits_rule New r ≡ true → r.default ≡ []
unfolding suits_rule allows
rule-none r h = no_length r.default h

pub none-rule : (r : Rule) → r.default ≡ [] → suits_rule New r ≡ true
unfolding suits_rule allows
none-rule r e = ap (λ a. eqb (length a) 0) e

pub suits-none : (d : Deck) → suits New d ≡ true → NoDefaults d
unfolding suits suits_rule allows rule_at
suits-none d h r = rule-none (rule_at d r) (all_of-get_or (suits_rule New) d.rules r _ h refl)

-- what is read as a new deck has no default action
pub new_none : (bytes : List ℕ) → Bytes bytes → (l : Layout) → read New bytes ≡ accepted l → NoDefaults l.deck
new_none bytes b l e = suits-none l.deck (read-suited New bytes b l e)

-- what two readers both accept they read alike, and both end at the same place
abbrev Agree : {A : Type 0} → Reader A → Reader A → Type 0
Agree {A} r q = (s : List ℕ) (at : ℕ) (g h : Got A) → r s at ≡ accepted g → q s at ≡ accepted h → g ≡ h

then-agree : {A B : Type 0} (r q : Reader A) (k j : A → Reader B) → Agree r q → ((a : A) → Agree (k a) (j a))
    → Agree (λ s at. and_then (r s at) k) (λ s at. and_then (q s at) j)
then-agree {A} r q k j first later s at g h e i =
    let x = then-inv (r s at) k g e in
    let y = then-inv (q s at) j h i in
    let same : y.0 ≡ x.0 = sym (first s at x.0 y.0 x.1 y.1) in
    later x.0.value x.0.rest x.0.at g h x.2
    (subst (λ (z : Got A). j z.value z.rest z.at ≡ accepted h) same y.2)

alike : {A : Type 0} (r : Reader A) → Agree r r
alike r s at g h e i = accepted-inj (sym e ∙ i)

repeats-agree : {A : Type 0} (r q : Reader A) → Agree r q → (n : ℕ) → Agree (repeats n r) (repeats n q)
unfolding repeats ◌>>=◌
repeats-agree r q a zero = alike (give [])
repeats-agree r q a (suc n) =
    then-agree r q _ _ a (λ x. then-agree (repeats n r) (repeats n q) _ _ (repeats-agree r q a n) (λ xs. alike (give (x ∷ xs))))

-- the two forms of a deck, or twice the same
module _ (f f' : Form) where
  default-agree : (R : ℕ) → Agree (default_action f R) (default_action f' R)
  default-agree R s at g h e i = accepted-inj (sym (default-action f R s at g e) ∙ default-action f' R s at h i)

  rule-agree : (R : ℕ) → Agree (rule f R) (rule f' R)
  unfolding rule ◌>>=◌
  rule-agree R =
      then-agree (number 1 9) (number 1 9) _ _ (alike (number 1 9))
      (λ n. then-agree (rising n 0 R) (rising n 0 R) _ _ (alike (rising n 0 R))
      (λ events. then-agree (default_action f R) (default_action f' R) _ _ (default-agree R) (λ default. alike _)))

  sections-agree : Agree (sections f) (sections f')
  unfolding sections ◌>>=◌
  sections-agree =
      then-agree (number 1 33) (number 1 33) _ _ (alike (number 1 33))
      (λ R. then-agree (repeats R label) (repeats R label) _ _ (alike (repeats R label))
      (λ labels. then-agree here here _ _ (alike here)
      (λ rules_at. then-agree (number 0 65) (number 0 65) _ _ (alike (number 0 65))
      (λ M. then-agree (repeats M (rule f R)) (repeats M (rule f' R)) _ _ (repeats-agree (rule f R) (rule f' R) (rule-agree R) M)
      (λ rules. alike _)))))

  -- bytes that are read in both forms hold the same deck, whatever the numbers in place of bytes
  pub forms-agree : (bytes : List ℕ) (l l' : Layout) → read f bytes ≡ accepted l → read f' bytes ≡ accepted l' → l ≡ l'
  unfolding read value_of
  forms-agree bytes l l' e i = go (sections f bytes 0) (sections f' bytes 0) refl refl e i
    where
      go : (o o' : Outcome (Got Layout)) → sections f bytes 0 ≡ o → sections f' bytes 0 ≡ o'
          → value_of o ≡ accepted l → value_of o' ≡ accepted l' → l ≡ l'
      go (refused n p) o' j k e i = refused≢accepted e
      go (accepted g) (refused n p) j k e i = refused≢accepted i
      go (accepted g) (accepted h) j k e i =
          sym (accepted-inj e) ∙ ap (λ x. x.value) (sections-agree bytes 0 g h j k) ∙ accepted-inj i

-- ---- the default action

pub default-old : (R : ℕ) (s : List ℕ) (at : ℕ) → default_action Old R s at ≡ action (own_only R) s at
unfolding layouts readers
default-old R s at = refl

module _ (R : ℕ) (s : List ℕ) (at : ℕ) where
  -- the count is missing or above 4
  pub default-count : {n p : ℕ} → number 0 5 s at ≡ refused n p → default_action New R s at ≡ refused n p
  unfolding default_action readers
  default-count e = then-fault _ e

  pub default_none : {g : Got ℕ} → number 0 5 s at ≡ accepted g → g.value ≡ 0
      → default_action New R s at ≡ accepted (record { value = []; rest = g.rest; at = g.at })
  unfolding default_action allows assignments readers
  default_none {g} e z = then_next _ e ∙ rw z refl

  pub default-some : {g : Got ℕ} → number 0 5 s at ≡ accepted g → 0 < g.value → default_action New R s at ≡ refused default_retired at
  unfolding default_action allows readers
  default-some {g} e h =
      let some = ne_eqb g.value 0 (λ z. omega (arith, z, h)) in
      then_next _ e ∙ then-fault _ (expect-fails default_retired at g.rest g.at some)

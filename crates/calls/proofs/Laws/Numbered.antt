-- A refusal's number is one of the list, from 1 on, in every call, and so never the 0 of an accepted one. Assumes nothing.
use Rattle.std.specs.Prelude.{ℕ, ◌≤◌, ◌≡◌, refl, Bool, true, false, ◌&&◌, List, [], ◌∷◌, leb, ℤ}
use Rattle.std.proofs.Common.{sym, ap, ◌∙◌, arith, leb-true}
use Rattle.lists.specs.Laws.Booleans.{and_left, and_right}
use Rattle.refusals.specs.Outcome.{Outcome, refused, accepted, ◌>>=◌, ◌>>◌, require, require_none, outcomes}
use Rattle.refusals.specs.Numbers.{opens_outside, cyclic_graph, overcharged, bad_pool, bad_state, unknown_part, bad_input}
use Rattle.refusals.specs.Numbers.{input_outside, over_capacity, place_not_pending, unknown_section, budget_too_large, last_number}
use Rattle.refusals.specs.Laws.Outcomes.{refused≢accepted}
use Rattle.deck.specs.declared.Form.{Form}
use Rattle.deck.specs.declared.Form.TheVariants.{New}
use Rattle.deck.specs.Layout.{Layout, read}
use Rattle.deck.proofs.Laws.Faults.{read-fault, reading-listed}
use Rattle.pool.specs.States.{Memory}
use Rattle.passing.specs.Check.{passing}
use Rattle.calls.specs.Calls.{Done, reply, tested, check, start, input, commit, settle, Ends, section_ends, section_reply, section}
use Rattle.calls.specs.Calls.{check_as, commit_as, input_as, settle_as, start_as, tested_as}

-- from the first number of the list to the last
abbrev pub Listed : ℕ → Type 0
Listed n = (1 ≤ n) × (n ≤ last_number)

pub data Numbered {A : Type 0} : Outcome A → Type 0 where
  answers : (a : A) → Numbered (accepted a)
  refuses : {n p : ℕ} → Listed n → Numbered (refused n p)

pub listed : (n : ℕ) → (leb 1 n && leb n last_number) ≡ true → Listed n
listed n h =
    (leb-true 1 n (and_left (leb 1 n) (leb n last_number) h), leb-true n last_number (and_right (leb 1 n) (leb n last_number) h))

-- one after the other
module _ {A B : Type 0} where
  pub then-numbered : (o : Outcome A) (f : A → Outcome B) → Numbered o → ((a : A) → Numbered (f a)) → Numbered (o >>= f)
  unfolding outcomes
  then-numbered (accepted a) f x k = k a
  then-numbered (refused n p) f (refuses l) k = refuses l

  pub after-numbered : (o : Outcome A) (r : Outcome B) → Numbered o → Numbered r → Numbered (o >> r)
  unfolding outcomes
  after-numbered (accepted a) r x y = y
  after-numbered (refused n p) r (refuses l) y = refuses l

pub require-numbered : (b : Bool) (n p : ℕ) → Listed n → Numbered (require b n p)
unfolding outcomes
require-numbered true n p l = answers tt
require-numbered false n p l = refuses l

none-numbered : (ps : List ℕ) (n : ℕ) → Listed n → Numbered (require_none ps n)
unfolding outcomes
none-numbered [] n l = answers tt
none-numbered (p ∷ ps) n l = refuses l

-- ---- the tests of deck, pool and state

module _ (f : Form) (bytes : List ℕ) where
  read-numbered : (o : Outcome Layout) → read f bytes ≡ o → Numbered o
  read-numbered (accepted l) e = answers l
  read-numbered (refused n p) e = refuses (reading-listed f n (read-fault f bytes n p e).number)

  pub passing-numbered : Numbered (passing f bytes)
  unfolding passing
  passing-numbered =
      then-numbered (read f bytes) _ (read-numbered (read f bytes) refl) (λ l.
      after-numbered _ _ (none-numbered _ opens_outside (listed _ refl))
      (after-numbered _ _ (none-numbered _ cyclic_graph (listed _ refl))
      (after-numbered _ _ (none-numbered _ overcharged (listed _ refl)) (answers l))))

tested-numbered : (bytes : List ℕ) (m : Memory) → Numbered (tested bytes m)
unfolding tested_as
tested-numbered bytes m =
    then-numbered (passing New bytes) _ (passing-numbered New bytes) (λ l.
    after-numbered _ _ (require-numbered _ bad_pool 0 (listed _ refl))
    (after-numbered _ _ (require-numbered _ bad_state 0 (listed _ refl)) (answers l.deck)))

-- ---- the calls

reply-numbered : (m : Memory) (o : Outcome Done) → Numbered o → Numbered (reply m o).answer
unfolding reply
reply-numbered m (accepted a) x = answers a.answer
reply-numbered m (refused n p) (refuses l) = refuses l

pub check-numbered : (bytes : List ℕ) → Numbered (check bytes)
unfolding check_as
check-numbered bytes = then-numbered (passing New bytes) _ (passing-numbered New bytes) (λ l. answers _)

pub start-numbered : (bytes : List ℕ) (pool : List ℤ) → Numbered (start bytes pool).answer
unfolding start_as
start-numbered bytes pool =
    reply-numbered _ _ (then-numbered (passing New bytes) _ (passing-numbered New bytes) (λ l.
    after-numbered _ _ (require-numbered _ bad_pool 0 (listed _ refl)) (answers _)))

module _ (bytes : List ℕ) (m : Memory) where
  pub input-numbered : (p : ℕ) (l : List ℤ) → Numbered (input bytes m p l).answer
  unfolding input_as
  input-numbered p l =
      reply-numbered m _ (then-numbered (tested bytes m) _ (tested-numbered bytes m) (λ d.
      after-numbered _ _ (require-numbered _ unknown_part 0 (listed _ refl))
      (after-numbered _ _ (require-numbered _ bad_input 0 (listed _ refl))
      (after-numbered _ _ (require-numbered _ input_outside 0 (listed _ refl))
      (after-numbered _ _ (require-numbered _ over_capacity 0 (listed _ refl)) (answers _))))))

  pub commit-numbered : (k : ℕ) → Numbered (commit bytes m k).answer
  unfolding commit_as
  commit-numbered k =
      reply-numbered m _ (then-numbered (tested bytes m) _ (tested-numbered bytes m) (λ d.
      after-numbered _ _ (require-numbered _ place_not_pending 0 (listed _ refl)) (answers _)))

  pub settle-numbered : (b : ℕ) → Numbered (settle bytes m b).answer
  unfolding settle_as
  settle-numbered b =
      reply-numbered m _ (then-numbered (tested bytes m) _ (tested-numbered bytes m) (λ d.
      after-numbered _ _ (require-numbered _ budget_too_large 0 (listed _ refl)) (answers _)))

-- section's number is 0 exactly where it is accepted
pub record SectionNumbered (bytes : List ℕ) (k : ℕ) : Type 0 where
  pub most : (section bytes k).number ≤ last_number
  pub zero_accepted : (section bytes k).number ≡ 0 → (e : Ends) × (section_ends bytes k ≡ accepted e)
  pub accepted_zero : (e : Ends) → section_ends bytes k ≡ accepted e → (section bytes k).number ≡ 0

ends-numbered : (bytes : List ℕ) (k : ℕ) → Numbered (section_ends bytes k)
unfolding section_ends
ends-numbered bytes k =
    then-numbered (passing New bytes) _ (passing-numbered New bytes) (λ l.
    after-numbered _ _ (require-numbered _ unknown_section 0 (listed _ refl)) (answers _))

pub section-numbered : (bytes : List ℕ) (k : ℕ) → SectionNumbered bytes k
unfolding section section_reply
section-numbered bytes k = go (section_ends bytes k) refl (ends-numbered bytes k)
  where
    numbered : (o : Outcome Ends) → section_ends bytes k ≡ o → (section bytes k).number ≡ (section_reply bytes o).number
    numbered o h = ap (λ o. (section_reply bytes o).number) h

    go : (o : Outcome Ends) → section_ends bytes k ≡ o → Numbered o → SectionNumbered bytes k
    go (accepted e) h x =
        let none = numbered (accepted e) h in
        record { most = omega (arith, none); zero_accepted = λ _. (e, h); accepted_zero = λ _ _. none }
    go (refused n p) h (refuses l) =
        let some = numbered (refused n p) h in
        record {
          most = omega (arith, some, l.1);
          zero_accepted = λ z. absurd (omega (arith, some, l.0));
          accepted_zero = λ e f. refused≢accepted (sym h ∙ f);
        }

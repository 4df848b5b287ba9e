-- Each call answers in its own words: an input the charge added, a commit "applied" or "discarded", a settle "settled" or "spent".
-- Assumes nothing.
use Rattle.std.specs.Prelude.{ℕ, Bool, true, false, cond, List, ℤ}
use Rattle.refusals.specs.Outcome.{Outcome, refused, accepted, ◌>>=◌, ◌>>◌, outcomes}
use Rattle.pool.specs.States.{Memory}
use Rattle.calls.specs.Calls.{Answer, applied, discarded, settled, spent, Done, reply, tested, input, commit, settle}
use Rattle.calls.specs.Calls.{commit_as, input_as, settle_as}
use Rattle.calls.specs.Requests.{Accepts, IsOfInput, IsOfCommit, IsOfSettle}

-- what is accepted at the end of a `do` decides
module _ {A B : Type 0} (P : B → Type 0) where
  then-accepts : (o : Outcome A) (f : A → Outcome B) → ((a : A) → Accepts P (f a)) → Accepts P (o >>= f)
  unfolding outcomes
  then-accepts (accepted a) f k = k a
  then-accepts (refused n p) f k = tt

  after-accepts : (o : Outcome A) (r : Outcome B) → Accepts P r → Accepts P (o >> r)
  unfolding outcomes
  after-accepts (accepted a) r x = x
  after-accepts (refused n p) r x = tt

module _ (P : Answer → Type 0) where
  abbrev Ends : Done → Type 0
  Ends x = P x.answer

  reply-accepts : (m : Memory) (o : Outcome Done) → Accepts Ends o → Accepts P (reply m o).answer
  unfolding reply
  reply-accepts m (accepted a) x = x
  reply-accepts m (refused n p) x = tt

commit-kind : (b : Bool) (n : ℕ) → IsOfCommit (cond b (applied n) (discarded n))
commit-kind true n = tt
commit-kind false n = tt

settle-kind : (b : Bool) (n : ℕ) → IsOfSettle (cond b (settled n) (spent n))
settle-kind true n = tt
settle-kind false n = tt

module _ (bytes : List ℕ) (m : Memory) where
  pub input-suits : (p : ℕ) (l : List ℤ) → Accepts IsOfInput (input bytes m p l).answer
  unfolding input_as
  input-suits p l =
      reply-accepts IsOfInput m _ (then-accepts _ (tested bytes m) _ (λ d.
      after-accepts _ _ _ (after-accepts _ _ _ (after-accepts _ _ _ (after-accepts _ _ _ tt)))))

  pub commit-suits : (k : ℕ) → Accepts IsOfCommit (commit bytes m k).answer
  unfolding commit_as
  commit-suits k =
      reply-accepts IsOfCommit m _ (then-accepts _ (tested bytes m) _ (λ d. after-accepts _ _ _ (commit-kind _ _)))

  pub settle-suits : (b : ℕ) → Accepts IsOfSettle (settle bytes m b).answer
  unfolding settle_as
  settle-suits b =
      reply-accepts IsOfSettle m _ (then-accepts _ (tested bytes m) _ (λ d. after-accepts _ _ _ (settle-kind _ _)))

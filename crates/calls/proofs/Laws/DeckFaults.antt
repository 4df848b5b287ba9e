-- A fault that reading finds is what every call answers, whatever else it is given: before 6 to 8 and before all that is no test of
-- the deck. No lent memory changes then, and a refused start hands back a state of zeros. Assumes nothing.
use Rattle.std.specs.Prelude.{ℕ, ◌≡◌, List, [], ℤ}
use Rattle.std.proofs.Math.Path.{ap}
use Rattle.refusals.specs.Outcome.{Outcome, refused, ◌>>=◌}
use Rattle.deck.specs.declared.Form.TheVariants.{New}
use Rattle.deck.specs.Limits.{limits}
use Rattle.deck.specs.Layout.{read}
use Rattle.pool.specs.Places.{zeros}
use Rattle.pool.specs.States.{Memory}
use Rattle.passing.specs.Check.{passing}
use Rattle.calls.specs.Calls.{Done, Reply, reply, tested, check, start, input, commit, settle}
use Rattle.calls.specs.Calls.{check_as, commit_as, input_as, settle_as, start_as, tested_as}
use Rattle.calls.specs.Calls.{section_ends, section_reply, section}

-- a refused call, and what the host then holds
abbrev pub declined : ℕ → ℕ → Memory → Reply
declined n p m = record { answer = refused n p; memory = m }

-- what a refused start hands back: a state of zeros, and the pool as it was
abbrev pub not_started : List ℤ → Memory
not_started pool = record { state = record { values = zeros limits.values; pending = 0 }; pool = pool }

pub record EveryCallDeclines (bytes : List ℕ) (n p : ℕ) : Type 0 where
  pub checked : check bytes ≡ refused n p
  pub sectioned : (k : ℕ) → section bytes k ≡ record { stretch = []; number = n; place = p }
  pub started : (pool : List ℤ) → start bytes pool ≡ declined n p (not_started pool)
  pub entered : (m : Memory) (part : ℕ) (pairs : List ℤ) → input bytes m part pairs ≡ declined n p m
  pub committed : (m : Memory) (k : ℕ) → commit bytes m k ≡ declined n p m
  pub settled : (m : Memory) (budget : ℕ) → settle bytes m budget ≡ declined n p m

module _ {n p : ℕ} where
  then-refused : {A B : Type 0} (o : Outcome A) (f : A → Outcome B) → o ≡ refused n p → (o >>= f) ≡ refused n p
  unfolding ◌>>=◌
  then-refused o f e = ap (λ o. o >>= f) e

  reply-refused : (m : Memory) (o : Outcome Done) → o ≡ refused n p → reply m o ≡ declined n p m
  unfolding reply
  reply-refused m o e = ap (reply m) e

pub every-call-declines : (bytes : List ℕ) (n p : ℕ) → read New bytes ≡ refused n p → EveryCallDeclines bytes n p
unfolding passing tested_as check_as start_as input_as commit_as settle_as section_ends section_reply section
every-call-declines bytes n p e =
    record {
      checked = then-refused (passing New bytes) _ refuses;
      sectioned = λ k. ap (section_reply bytes) (then-refused (passing New bytes) _ refuses);
      started = λ pool. reply-refused (not_started pool) _ (then-refused (passing New bytes) _ refuses);
      entered = λ m part pairs. reply-refused m _ (then-refused (tested bytes m) _ (tests m));
      committed = λ m k. reply-refused m _ (then-refused (tested bytes m) _ (tests m));
      settled = λ m budget. reply-refused m _ (then-refused (tested bytes m) _ (tests m));
    }
  where
    refuses : passing New bytes ≡ refused n p
    refuses = then-refused (read New bytes) _ e

    tests : (m : Memory) → tested bytes m ≡ refused n p
    tests m = then-refused (passing New bytes) _ refuses

-- Exact readers: a reader accepts a value with a word of bytes exactly where a relation between the two holds; and how exact
-- readers are put together. Assumes nothing.
use Prim.Native.Nat.{ℕ, ◌+◌}
use Rattle.std.specs.Prelude.{◌≡◌, Bool}
use Rattle.std.proofs.Math.Path.{refl, sym, ap, subst}
use Rattle.std.proofs.Common.{◌∙◌, arith, add-zero, add-one}
use Rattle.std.proofs.Math.Bool.{true, false, false≢true}
use mathlib.Core.List.{List, [], ◌∷◌, ◌++◌, append_assoc}
use Rattle.std.proofs.Math.ListN.{length, length-append}
use Rattle.lists.specs.Laws.Alls.{all_of-left, all_of-right}
use Rattle.refusals.specs.Outcome.{Outcome, refused, accepted}
use Rattle.expression.specs.Bytes.{Bytes}
use Rattle.deck.specs.Reader.{Got, Reader, and_then, ◌>>=◌, ◌>>◌, give, fault, here, expect, byte, end, readers}

-- what a reader accepted, if it did, has a property
pub data Accepts {A : Type 0} (P : A → Type 0) : Outcome A → Type 0 where
  accepting : {a : A} → P a → Accepts P (accepted a)
  refusing : {n p : ℕ} → Accepts P (refused n p)

module _ {A : Type 0} {P : A → Type 0} where
  pub accepts : {o : Outcome A} {a : A} → Accepts P o → o ≡ accepted a → P a
  accepts {a} h e = of (subst (Accepts P) e h)
    where
      of : Accepts P (accepted a) → P a
      of (accepting p) = p

  pub accepts-map : {Q : A → Type 0} {o : Outcome A} → ((a : A) → P a → Q a) → Accepts P o → Accepts Q o
  accepts-map f (accepting {a = a} p) = accepting (f a p)
  accepts-map f refusing = refusing

pub then-accepts : {A B : Type 0} {P : Got A → Type 0} {Q : Got B → Type 0} {o : Outcome (Got A)} (f : A → Reader B) → Accepts P o
    → ((g : Got A) → P g → Accepts Q (f g.value g.rest g.at)) → Accepts Q (and_then o f)
unfolding readers
then-accepts f (accepting {a = g} p) k = k g p
then-accepts f refusing k = refusing

-- a relation between the offset of a word of bytes, the value that was read, and the word
abbrev pub Relation : Type 0 → Type 1
Relation A = ℕ → A → List ℕ → Type 0

-- from s at an offset, g was read: a word in the relation stands there, and E holds of what is left
pub record ReadsWord {A : Type 0} (E : List ℕ → Type 0) (P : Relation A) (s : List ℕ) (at : ℕ) (g : Got A) : Type 0 where
  pub word : List ℕ
  pub relates : P at g.value word
  pub bytes : s ≡ word ++ g.rest
  pub moved : g.at ≡ at + length word
  pub ends : E g.rest

pub record Exact {A : Type 0} (E : List ℕ → Type 0) (r : Reader A) (P : Relation A) : Type 0 where
  pub sound : (s : List ℕ) (at : ℕ) → Bytes s → Accepts (ReadsWord E P s at) (r s at)
  pub complete : (at : ℕ) (a : A) (w s : List ℕ) → P at a w → E s
      → r (w ++ s) at ≡ accepted (record { value = a; rest = s; at = at + length w })

-- any bytes may follow; none may
abbrev pub Any : List ℕ → Type 0
Any s = Unit {0}

abbrev pub Nothing : List ℕ → Type 0
Nothing s = s ≡ []

-- the word is the value's encoding, and the value passes a test
abbrev pub Coded : {A : Type 0} → (A → List ℕ) → (A → Type 0) → Relation A
Coded enc Ok at a w = Ok a × (w ≡ enc a)

-- a coded value and after it a word in the relation Q
abbrev pub Then : {A B : Type 0} → (A → List ℕ) → (A → Type 0) → (A → Relation B) → Relation B
Then {A} enc Ok Q at b w = (a : A) × (v : List ℕ) × (w ≡ enc a ++ v) × Ok a × Q a (at + length (enc a)) b v

module _ {A : Type 0} {E : List ℕ → Type 0} where
  -- the same word in another relation
  reads-by : {P Q : Relation A} {s : List ℕ} {at : ℕ} {g : Got A}
      → ((w : List ℕ) → s ≡ w ++ g.rest → P at g.value w → Q at g.value w) → ReadsWord E P s at g → ReadsWord E Q s at g
  reads-by f p =
      record { word = p.word; relates = f p.word p.bytes p.relates; bytes = p.bytes; moved = p.moved; ends = p.ends }

  -- the same relation in other words, for words of bytes
  pub exact-by : {r : Reader A} {P Q : Relation A} → Exact E r P → ((at : ℕ) (a : A) (w : List ℕ) → Bytes w → P at a w → Q at a w)
      → ((at : ℕ) (a : A) (w : List ℕ) → Q at a w → P at a w) → Exact E r Q
  exact-by {Q} x to back =
      record {
        sound = λ s at b. accepts-map (λ g p. reads-by (λ w e. to at g.value w (all_of-left _ w g.rest (rw e at b))) p)
            (x.sound s at b);
        complete = λ at a w s q e. x.complete at a w s (back at a w q) e;
      }

  pub here-exact : {f : ℕ → Reader A} {P : ℕ → Relation A} → ((p : ℕ) → Exact E (f p) (P p))
      → Exact E (here >>= f) (λ at a w. P at at a w)
  unfolding readers
  here-exact x =
      record {
        sound = λ s at b. accepts-map (λ g p. reads-by (λ w e q. q) p) ((x at).sound s at b);
        complete = λ at a w s q e. (x at).complete at a w s q e;
      }

  pub fault-exact : (n p : ℕ) {P : Relation A} → ((at : ℕ) (a : A) (w : List ℕ) → P at a w → ⊥) → Exact E (fault n p) P
  unfolding readers
  fault-exact n p never = record { sound = λ s at b. refusing; complete = λ at a w s q e. absurd (never at a w q) }

  pub expect-exact : (t : Bool) (n p : ℕ) {r : Reader A} {P : Relation A} → Exact E r P
      → Exact E (expect t n p >> r) (λ at a w. (t ≡ true) × P at a w)
  unfolding readers
  expect-exact true n p x =
      record {
        sound = λ s at b. accepts-map (λ g p. reads-by (λ w e q. (refl, q)) p) (x.sound s at b);
        complete = λ at a w s q e. x.complete at a w s q.1 e;
      }
  expect-exact false n p x = fault-exact n p (λ at a w q. false≢true q.0)

pub give-exact : {A : Type 0} (a : A) → Exact Any (give a) (λ at b w. (b ≡ a) × (w ≡ []))
unfolding readers
give-exact a =
    record {
      sound = λ s at b. accepting (record { word = []; relates = (refl, refl); bytes = refl; moved = sym (add-zero at); ends = tt });
      complete = λ at b w s q e. rw (q.0, q.1, add-zero at);
    }

pub byte-exact : Exact Any byte (Coded (λ b. b ∷ []) (λ _. Unit {0}))
unfolding readers
byte-exact = record { sound = go; complete = λ at a w s q e. rw (q.1, add-one at) }
  where
    go : (s : List ℕ) (at : ℕ) → Bytes s → Accepts (ReadsWord Any (Coded (λ b. b ∷ []) (λ _. Unit {0})) s at) (byte s at)
    go [] at b = refusing
    go (x ∷ s) at b = accepting (record { word = x ∷ []; relates = (tt, refl); bytes = refl; moved = sym (add-one at); ends = tt })

pub end-exact : {A : Type 0} (a : A) → Exact Nothing (end >> give a) (λ at b w. (b ≡ a) × (w ≡ []))
unfolding readers
end-exact {A} a = record { sound = go; complete = λ at b w s q e. rw (q.0, q.1, e, add-zero at) }
  where
    go : (s : List ℕ) (at : ℕ) → Bytes s → Accepts (ReadsWord Nothing (λ at b w. (b ≡ a) × (w ≡ [])) s at) ((end >> give a) s at)
    go [] at b = accepting (record { word = []; relates = (refl, refl); bytes = refl; moved = sym (add-zero at); ends = refl })
    go (x ∷ s) at b = refusing

module _ {A B : Type 0} {E : List ℕ → Type 0} {enc : A → List ℕ} {Ok : A → Type 0} {Q : A → Relation B} {r : Reader A}
    {f : A → Reader B} where
  pub then-exact : Exact Any r (Coded enc Ok) → ((a : A) → Exact E (f a) (Q a)) → Exact E (r >>= f) (Then enc Ok Q)
  unfolding readers
  then-exact x y =
      record {
        sound = λ s at b. then-accepts f (x.sound s at b) λ g p.
            let u : List ℕ = enc g.value in
            let start : s ≡ u ++ g.rest = p.bytes ∙ ap (λ t. t ++ g.rest) p.relates.1 in
            let place : g.at ≡ at + length u = p.moved ∙ ap (λ t. at + length t) p.relates.1 in
            accepts-map
            (λ h q.
            let total : length (u ++ q.word) ≡ length u + length q.word = length-append u q.word in
            record {
              word = u ++ q.word;
              relates = (g.value, q.word, refl, p.relates.0, subst (λ n. Q g.value n h.value q.word) place q.relates);
              bytes = start ∙ ap (λ t. u ++ t) q.bytes ∙ sym (append_assoc u q.word h.rest);
              moved = q.moved ∙ ap (λ n. n + length q.word) place ∙ rw total (omega arith);
              ends = q.ends;
            })
            ((y g.value).sound g.rest g.at (all_of-right _ u g.rest (rw start at b)));
        complete = λ at b w s q e.
            let u : List ℕ = enc q.0 in
            let v : List ℕ = q.1 in
            let total : length (u ++ v) ≡ length u + length v = length-append u v in
            let place : at + length u + length v ≡ at + length (u ++ v) = rw total (omega arith) in
            rw q.2
            (ap (λ t. (r >>= f) t at) (append_assoc u v s)
            ∙ ap (λ o. and_then o f) (x.complete at q.0 u (v ++ s) (q.3, refl) tt)
            ∙ (y q.0).complete (at + length u) b v s q.4 e
            ∙ ap (λ n. accepted (record { value = b; rest = s; at = n })) place);
      }

-- ---- exact readers of coded values, as equations

module _ {A : Type 0} {r : Reader A} {enc : A → List ℕ} {Ok : A → Type 0} (x : Exact Any r (Coded enc Ok)) where
  pub coded-sound : (s : List ℕ) (at : ℕ) (g : Got A) → Bytes s → r s at ≡ accepted g
      → Ok g.value × (s ≡ enc g.value ++ g.rest) × (g.at ≡ at + length (enc g.value))
  coded-sound s at g b e =
      let p = accepts (x.sound s at b) e in
      let q = p.relates.1 in
      (p.relates.0, p.bytes ∙ ap (λ u. u ++ g.rest) q, p.moved ∙ ap (λ u. at + length u) q)

  pub coded-complete : (a : A) (s : List ℕ) (at : ℕ) → Ok a
      → r (enc a ++ s) at ≡ accepted (record { value = a; rest = s; at = at + length (enc a) })
  coded-complete a s at h = x.complete at a (enc a) s (h, refl) tt

-- Where reading finds its faults, and which bytes show them: 1 at the end of the bytes, the others below it, but for an expression
-- that ends early with the bytes; 2, 3, 4, 18, 19 and 20 where nothing behind that place matters; 5 behind a whole deck. 3, 18 and 19
-- are the first fault of one expression, and 20 is found in new decks only. Assumes nothing.
use Prim.Native.Nat.{ℕ, zero, suc, ◌+◌, ◌-◌, ◌<◌, ◌≤◌}
use Rattle.std.specs.Prelude.{◌≡◌, ◌⊎◌, ◌↔◌, Bool, not, ◌&&◌, leb, eqb, drop}
use Rattle.std.proofs.Math.Path.{refl, ap, ap₂, subst}
use Rattle.std.proofs.Common.{sym, ◌∙◌, length-take, length-drop, take-append-drop, take_at, drop_at, take_all, length-take-le, leb-true, leb-false, ltb-true, ltb-false}
use Rattle.std.proofs.Math.Logic.{inl, inr, ⊎_elim}
use Rattle.std.proofs.Math.Bool.{true, false}
use mathlib.Core.List.{List, [], ◌∷◌, ◌++◌, append_assoc, append-nil}
use native.Mathlib.Omega.{arith}
use Rattle.std.proofs.Math.Dec.{ltb}
use Rattle.std.proofs.Math.ListN.{length, take, length-append}
use Rattle.std.proofs.Math.Seq.{take-append_seam, take-append-add}
use Rattle.std.proofs.lemmas.List.{take-append-le}
use Rattle.lists.specs.Lists.{member}
use Rattle.lists.specs.Laws.Booleans.{and_left}
use Rattle.refusals.specs.Outcome.{Outcome, refused, accepted}
use Rattle.refusals.specs.Numbers.{deck_ends, out_of_range, repeated_target, bytes_follow, wrong_end, default_retired, last_number}
use Rattle.refusals.specs.Laws.Outcomes.{refused≢accepted, accepted-inj, number-inj, place-inj}
use Rattle.expression.specs.Reading.{Read, got, nothing, Scope, whole_num, whole_truth}
use Rattle.expression.specs.Answers.{is_got}
use Rattle.expression.specs.Faults.{a_number, a_truth, Found, sound, faulty, first_fault, num_fault, truth_fault}
use Rattle.expression.specs.ExactByte.{InExpression}
use Rattle.expression.specs.Searching.{awaited_for}
use Rattle.expression.proofs.Laws.Sound.{num-agrees, truth-agrees, nothing-if-faulty}
use Rattle.expression.proofs.Laws.Exact.{ShownAt, shown-at, fault-at-0}
use Rattle.deck.specs.declared.Form.{Form}
use Rattle.deck.specs.declared.Form.TheVariants.{Old, New}
use Rattle.deck.specs.Limits.{limits}
use Rattle.deck.specs.Reader.{Got, Reader, and_then, ◌>>=◌, ◌>>◌, give, fault, here, expect, byte, end, number, repeats, rising, value}
use Rattle.deck.specs.Reader.{readers}
use Rattle.deck.specs.Layout.{Expected, numbers, truths, judged, expression, own_only, task_scope, assignments, action, rule, part}
use Rattle.deck.specs.Layout.{allows, default_action, Layout, sections, value_of, read, layouts}
use Rattle.deck.proofs.Laws.Formed.{owns-task}
use Rattle.deck.proofs.Laws.Judging.{judged-read, judged-nothing}
use Rattle.deck.proofs.Laws.Offsets.{bytes-there, bytes-short}

-- ---- what a reader sees

-- a reader at one offset
abbrev From : Type 0 → Type 0
From A = List ℕ → Outcome (Got A)

-- it takes a word, whatever follows
record Takes {A : Type 0} (r : From A) (at : ℕ) (s : List ℕ) (g : Got A) : Type 0 where
  pub word : List ℕ
  pub bytes : s ≡ word ++ g.rest
  pub place : g.at ≡ at + length word
  pub always : (t : List ℕ) → r (word ++ t) ≡ accepted (record { value = g.value; rest = t; at = at + length word })

-- the bytes s show the fault too, unless they end before: they are fewer than k then
abbrev Again : {A : Type 0} → From A → ℕ → ℕ → ℕ → ℕ → List ℕ → Type 0
Again r at n p k s = (r s ≡ refused n p) ⊎ ((r s ≡ refused deck_ends (at + length s)) × (length s < k))

-- n at an offset is the first fault of an expression's bytes alone: they are to be a truth or a number, and an own channel is known
pub record FirstFaultOf (content : List ℕ) (n offset : ℕ) : Type 0 where
  pub truth : Bool
  pub scope : Scope
  pub known : 0 < scope.owns
  pub found : first_fault scope (awaited_for truth ∷ []) content 0 ≡ faulty n offset

-- n at p is the first fault of one expression, which stands with its length byte among s; s begins at the offset `at`
pub record FoundIn (s : List ℕ) (at n p : ℕ) : Type 0 where
  pub before : List ℕ
  pub content : List ℕ
  pub rest : List ℕ
  pub bytes : s ≡ before ++ (length content ∷ (content ++ rest))
  pub offset : ℕ
  pub first : FirstFaultOf content n offset
  pub place : p ≡ at + length before + 1 + offset

-- where a fault in an expression comes from
abbrev Origin : Type 1
Origin = List ℕ → ℕ → ℕ → ℕ → Type 0

-- the expression is the first k bytes of s
record FoundFirst (k : ℕ) (s : List ℕ) (at n p : ℕ) : Type 0 where
  pub content : List ℕ
  pub rest : List ℕ
  pub bytes : s ≡ content ++ rest
  pub size : length content ≡ k
  pub offset : ℕ
  pub first : FirstFaultOf content n offset
  pub place : p ≡ at + offset

module _ (form : Form) where
  -- 2 or 4, and 20 in a new deck
  abbrev pub AtOnce : ℕ → Type 0
  AtOnce n = (n ≡ out_of_range) ⊎ ((n ≡ repeated_target) ⊎ ((n ≡ default_retired) × (form ≡ New)))

  abbrev Shown : ℕ → Type 0
  Shown n = AtOnce n ⊎ InExpression n

  -- 2, 4 and 20 are no faults in an expression
  not-both : (n : ℕ) → AtOnce n → InExpression n → ⊥
  not-both n (inl e) (inl f) = omega arith
  not-both n (inl e) (inr (inl f)) = omega arith
  not-both n (inl e) (inr (inr f)) = omega arith
  not-both n (inr (inl e)) (inl f) = omega arith
  not-both n (inr (inl e)) (inr (inl f)) = omega arith
  not-both n (inr (inl e)) (inr (inr f)) = omega arith
  not-both n (inr (inr (e, _))) (inl f) = omega arith
  not-both n (inr (inr (e, _))) (inr (inl f)) = omega arith
  not-both n (inr (inr (e, _))) (inr (inr f)) = omega arith

  -- a word shows the fault, whatever follows; of 2, 4 and 20 the place is the word's last byte. And so does what stands up to the place
  record Shows {A : Type 0} (O : Origin) (r : From A) (at : ℕ) (s : List ℕ) (n p : ℕ) : Type 0 where
    pub word : List ℕ
    pub rest : List ℕ
    pub bytes : s ≡ word ++ rest
    pub number : Shown n
    pub from : at ≤ suc p
    pub within : p ≤ at + length word
    pub inside : ¬ (n ≡ wrong_end) → p < at + length word
    pub last : AtOnce n → suc p ≡ at + length word
    pub always : (t : List ℕ) → r (word ++ t) ≡ refused n p
    pub again : (t : List ℕ) → Again r at n p (length word) (take (suc p - at) word ++ t)
    pub origin : InExpression n → O s at n p

  data Sees {A : Type 0} (O : Origin) (r : From A) (at : ℕ) (s : List ℕ) : Outcome (Got A) → Type 0 where
    takes : {g : Got A} → Takes r at s g → Sees O r at s (accepted g)
    ends : {n p : ℕ} → n ≡ deck_ends → p ≡ at + length s → Sees O r at s (refused n p)
    shows : {n p : ℕ} → Shows O r at s n p → Sees O r at s (refused n p)

  -- wherever it begins
  abbrev Looks : {A : Type 0} → Reader A → Type 0
  Looks r = (s : List ℕ) (at : ℕ) → Sees FoundIn (λ t. r t at) at s (r s at)

  -- ---- one reader after the other

  module _ {A B : Type 0} (r : From A) (f : A → Reader B) (at : ℕ) (s : List ℕ) where
    abbrev both : From B
    both t = and_then (r t) f

    module _ (g : Got A) (w : Takes r at s g) where
      -- behind the word the second reader reads
      behind : (v t : List ℕ) → both ((w.word ++ v) ++ t) ≡ f g.value (v ++ t) g.at
      unfolding and_then
      behind v t =
          ap both (append_assoc w.word v t)
          ∙ ap (λ o. and_then o f) (w.always (v ++ t))
          ∙ ap (f g.value (v ++ t)) (sym w.place)

      joined : (v rest : List ℕ) → g.rest ≡ v ++ rest → s ≡ (w.word ++ v) ++ rest
      joined v rest e = w.bytes ∙ ap (λ l. w.word ++ l) e ∙ sym (append_assoc w.word v rest)

      further : (v : List ℕ) → g.at + length v ≡ at + length (w.word ++ v)
      further v = omega (arith, w.place, length-append w.word v)

      further-in : (n p : ℕ) → FoundIn g.rest g.at n p → FoundIn s at n p
      further-in n p x = record {
        before = w.word ++ x.before;
        content = x.content;
        rest = x.rest;
        bytes = joined x.before (length x.content ∷ (x.content ++ x.rest)) x.bytes;
        offset = x.offset;
        first = x.first;
        place = omega (arith, x.place, further x.before);
      }

      second : (O : Origin) → ((n p : ℕ) → O g.rest g.at n p → FoundIn s at n p) → (o : Outcome (Got B))
          → Sees O (λ t. f g.value t g.at) g.at g.rest o → Sees FoundIn both at s o
      second O move (accepted h) (takes x) =
          takes (record {
            word = w.word ++ x.word;
            bytes = joined x.word h.rest x.bytes;
            place = x.place ∙ further x.word;
            always = λ t. behind x.word t ∙ x.always t
                ∙ ap (λ k. accepted (record { value = h.value; rest = t; at = k })) (further x.word);
          })
      second O move (refused n p) (ends e i) =
          ends {p = p} e (omega (arith, i, w.place, length-append w.word g.rest, ap length w.bytes))
      second O move (refused n p) (shows x) =
          shows {p = p} (record {
            word = w.word ++ x.word;
            rest = x.rest;
            bytes = joined x.word x.rest x.bytes;
            number = x.number;
            from = omega (arith, x.from, w.place);
            within = omega (arith, x.within, further x.word);
            inside = λ h. omega (arith, x.inside h, further x.word);
            last = λ h. x.last h ∙ further x.word;
            always = λ t. behind x.word t ∙ x.always t;
            again = λ t.
                subst (λ u. Again both at n p (length (w.word ++ x.word)) (u ++ t)) (sym (up_to n p x))
                (so_far n p x.word (take (suc p - g.at) x.word) t (x.again t));
            origin = λ h. move n p (x.origin h);
          })
        where
          up_to : (n p : ℕ) (x : Shows O (λ t. f g.value t g.at) g.at g.rest n p)
              → take (suc p - at) (w.word ++ x.word) ≡ w.word ++ take (suc p - g.at) x.word
          up_to n p x =
              let k : suc p - at ≡ length w.word + (suc p - g.at) = omega (arith, x.from, w.place) in
              ap (λ k. take k (w.word ++ x.word)) k ∙ take-append-add w.word x.word (suc p - g.at)

          so_far : (n p : ℕ) (all v t : List ℕ) → Again (λ t. f g.value t g.at) g.at n p (length all) (v ++ t)
              → Again both at n p (length (w.word ++ all)) ((w.word ++ v) ++ t)
          so_far n p all v t (inl e) = inl (behind v t ∙ e)
          so_far n p all v t (inr (e, l)) =
              let longer : length ((w.word ++ v) ++ t) ≡ length w.word + length (v ++ t) =
              ap length (append_assoc w.word v t) ∙ length-append w.word (v ++ t) in
              let size : g.at + length (v ++ t) ≡ at + length ((w.word ++ v) ++ t) = omega (arith, w.place, longer) in
              inr (behind v t ∙ e ∙ ap (λ k. refused deck_ends k) size, omega (arith, l, longer, length-append w.word all))

    -- faults in an expression that the second reader finds are moved
    then-moves : (O : Got A → Origin) (o : Outcome (Got A)) → Sees FoundIn r at s o
        → ((g : Got A) → o ≡ accepted g → Sees (O g) (λ t. f g.value t g.at) g.at g.rest (f g.value g.rest g.at))
        → ((g : Got A) → o ≡ accepted g → Takes r at s g → (n p : ℕ) → O g g.rest g.at n p → FoundIn s at n p)
        → Sees FoundIn both at s (and_then o f)
    unfolding and_then
    then-moves O (accepted g) (takes w) k move = second g w (O g) (move g refl w) (f g.value g.rest g.at) (k g refl)
    then-moves O (refused n p) (ends e i) k move = ends e i
    then-moves O (refused n p) (shows x) k move =
        shows (record {
          word = x.word;
          rest = x.rest;
          bytes = x.bytes;
          number = x.number;
          from = x.from;
          within = x.within;
          inside = x.inside;
          last = x.last;
          always = λ t. ap (λ o. and_then o f) (x.always t);
          again = λ t. ⊎_elim (λ e. inl (ap (λ o. and_then o f) e)) (λ e. inr (ap (λ o. and_then o f) e.0, e.1)) (x.again t);
          origin = x.origin;
        })

    then-sees : (o : Outcome (Got A)) → Sees FoundIn r at s o
        → ((g : Got A) → o ≡ accepted g → Sees FoundIn (λ t. f g.value t g.at) g.at g.rest (f g.value g.rest g.at))
        → Sees FoundIn both at s (and_then o f)
    then-sees o x k = then-moves (λ _. FoundIn) o x k (λ g _ w. further-in g w)

  then-looks : {A B : Type 0} (r : Reader A) (f : A → Reader B) → Looks r → ((a : A) → Looks (f a)) → Looks (λ s at. and_then (r s at) f)
  then-looks r f x y s at = then-sees (λ t. r t at) f at s (r s at) (x s at) (λ g _. y g.value g.rest g.at)

  -- ---- single readers

  give-looks : {A : Type 0} (a : A) → Looks (give a)
  unfolding give
  give-looks a s at =
      takes {g = record { value = a; rest = s; at = at }} (record {
        word = [];
        bytes = refl;
        place = omega arith;
        always = λ t. ap (λ k. accepted (record { value = a; rest = t; at = k })) (omega arith);
      })

  -- a fault of the last byte that was read
  fault-sees : {A : Type 0} (n p : ℕ) → AtOnce n → (s : List ℕ) (at : ℕ) → suc p ≡ at
      → Sees {A = A} FoundIn (λ t. fault n p t at) at s (fault n p s at)
  unfolding fault
  fault-sees n p shown s at e =
      shows {p = p} (record {
        word = [];
        rest = s;
        bytes = refl;
        number = inl shown;
        from = omega arith;
        within = omega arith;
        inside = λ _. omega arith;
        last = λ _. omega arith;
        always = λ t. refl;
        again = λ t. inl refl;
        origin = λ h. absurd (not-both n shown h);
      })

  -- a test of the last byte that was read
  expect-sees : {A : Type 0} (b : Bool) (n p : ℕ) → AtOnce n → (q : Reader A) (s : List ℕ) (at : ℕ) → suc p ≡ at
      → Sees FoundIn (λ t. q t at) at s (q s at) → Sees FoundIn (λ t. (expect b n p >> q) t at) at s ((expect b n p >> q) s at)
  unfolding expect ◌>>◌ and_then give fault
  expect-sees true n p shown q s at e x = x
  expect-sees false n p shown q s at e x = fault-sees n p shown s at e

  byte-looks : Looks byte
  unfolding byte
  byte-looks [] at = ends {p = at} refl (omega arith)
  byte-looks (b ∷ s) at =
      takes {g = record { value = b; rest = s; at = suc at }} (record {
        word = b ∷ [];
        bytes = refl;
        place = omega arith;
        always = λ t. ap (λ k. accepted (record { value = b; rest = t; at = k })) (omega arith);
      })

  -- a byte that was read as a number is one byte, in its range
  number-took : (lo hi : ℕ) (s : List ℕ) (at : ℕ) (g : Got ℕ) → number lo hi s at ≡ accepted g
      → (lo ≤ g.value) × (suc at ≡ g.at) × (s ≡ g.value ∷ g.rest)
  unfolding readers
  number-took lo hi [] at g e = refused≢accepted e
  number-took lo hi (b ∷ s) at g e = go (leb lo b && ltb b hi) refl e
    where
      go : (t : Bool) → (leb lo b && ltb b hi) ≡ t → (expect t out_of_range at >> give b) s (suc at) ≡ accepted g
          → (lo ≤ g.value) × (suc at ≡ g.at) × (b ∷ s ≡ g.value ∷ g.rest)
      go true h f =
          let same = accepted-inj f in (
            subst (λ (k : Got ℕ). lo ≤ k.value) same (leb-true lo b (and_left (leb lo b) (ltb b hi) h)),
            ap (λ (k : Got ℕ). k.at) same,
            ap (λ (k : Got ℕ). k.value ∷ k.rest) same,
          )
      go false h f = refused≢accepted f

  number-looks : (lo hi : ℕ) → Looks (number lo hi)
  unfolding readers
  number-looks lo hi [] at = ends {p = at} refl (omega arith)
  number-looks lo hi (b ∷ s) at =
      then-sees (λ t. byte t at) (λ b. expect (leb lo b && ltb b hi) out_of_range at >> give b) at (b ∷ s) _ (byte-looks (b ∷ s) at)
      (λ g e. expect-sees (leb lo g.value && ltb g.value hi) out_of_range at (inl refl)
      (give g.value) g.rest g.at (ap (λ (h : Got ℕ). h.at) (accepted-inj e)) (give-looks g.value g.rest g.at))

  repeats-looks : {A : Type 0} {r : Reader A} → Looks r → (n : ℕ) → Looks (repeats n r)
  unfolding repeats ◌>>=◌
  repeats-looks x zero = give-looks []
  repeats-looks {r} x (suc n) = then-looks r _ x (λ a. then-looks (repeats n r) _ (repeats-looks x n) (λ l. give-looks (a ∷ l)))

  rising-looks : (n lo hi : ℕ) → Looks (rising n lo hi)
  unfolding rising ◌>>=◌
  rising-looks zero lo hi = give-looks []
  rising-looks (suc n) lo hi =
      then-looks (number lo hi) _ (number-looks lo hi)
      (λ c. then-looks (rising n (suc c) hi) _ (rising-looks n (suc c) hi) (λ cs. give-looks (c ∷ cs)))

  value-looks : Looks value
  unfolding value ◌>>=◌
  value-looks =
      then-looks byte _ byte-looks (λ a. then-looks byte _ byte-looks (λ b.
      then-looks byte _ byte-looks (λ c. then-looks byte _ byte-looks (λ d. give-looks _))))

  -- ---- expressions

  -- what is found of an expression's bytes: where it stands, that they are not read, and that it is the first fault of these bytes alone
  record Finds {A : Type 0} (j : Expected A) : Type 0 where
    pub shown : (s : List ℕ) (at : ℕ) {n p : ℕ} → j.find s at ≡ faulty n p → ShownAt j.find s at n p
    pub none : (s : List ℕ) (at : ℕ) {n p : ℕ} → j.find s at ≡ faulty n p → is_got (j.whole s) ≡ false
    pub first : (s : List ℕ) (at : ℕ) {n p : ℕ} → j.find s at ≡ faulty n p → FirstFaultOf s n (p - at)

  module _ (sc : Scope) (own : 0 < sc.owns) where
    numbers-find : Finds (numbers sc)
    numbers-find = record {
      shown = shown-at sc (a_number ∷ []);
      none = λ s at. nothing-if-faulty (whole_num sc s) (num_fault sc s at) (num-agrees sc s at);
      first = λ s at e. record { truth = false; scope = sc; known = own; found = fault-at-0 sc (a_number ∷ []) s at e };
    }

    truths-find : Finds (truths sc)
    truths-find = record {
      shown = shown-at sc (a_truth ∷ []);
      none = λ s at. nothing-if-faulty (whole_truth sc s) (truth_fault sc s at) (truth-agrees sc s at);
      first = λ s at e. record { truth = true; scope = sc; known = own; found = fault-at-0 sc (a_truth ∷ []) s at e };
    }

  -- the bytes behind a length byte
  module _ {A : Type 0} (j : Expected A) (x : Finds j) (n at : ℕ) where
    abbrev judged_at : List ℕ → Reader A
    judged_at bytes = judged (j.whole bytes) (j.find bytes at) (j.has_fault bytes at)

    abbrev content : From A
    content s = and_then (repeats n byte s at) judged_at

    -- n bytes are there
    content-there : (u t : List ℕ) → length u ≡ n
        → content (u ++ t) ≡ judged_at u t (at + n)
    unfolding and_then
    content-there u t e =
        ap (λ o. and_then o judged_at) (bytes-there n (u ++ t) at (omega (arith, length-append u t)))
        ∙ ap₂ (λ b l. judged_at b l (at + n)) (take_at u t n e) (drop_at u t n e)

    content-refused : (u t : List ℕ) {m p : ℕ} → length u ≡ n → j.find u at ≡ faulty m p → content (u ++ t) ≡ refused m p
    content-refused u t e k =
        content-there u t e ∙ judged-nothing (j.whole u) (j.find u at) (j.has_fault u at) t (at + n) (x.none u at k) k

    content-short : (s : List ℕ) → length s < n → content s ≡ refused deck_ends (at + length s)
    unfolding and_then
    content-short s h = ap (λ o. and_then o judged_at) (bytes-short n s at h)

    module _ (u : List ℕ) (size : length u ≡ n) where
      -- what stands up to the place of a fault shows it, if all n bytes are there
      content-again : {m p : ℕ} → j.find u at ≡ faulty m p → (t : List ℕ) → Again content at m p (length u) (take (suc p - at) u ++ t)
      content-again {m} {p} k t = go (leb n (length (take (suc p - at) u ++ t))) refl
        where
          f : ShownAt j.find u at m p
          f = x.shown u at k

          v : List ℕ
          v = take (suc p - at) u

          all-of : at + length u ≤ p → v ≡ u
          all-of h = take_all (suc p - at) u (omega arith)

          whole : Bool → Type 0
          whole b = ltb p (at + length u) ≡ b

          there : n ≤ length (v ++ t) → (b : Bool) → whole b → content (v ++ t) ≡ refused m p
          there h true e =
              let l = ltb-true p (at + length u) e in
              let long : length v ≡ suc p - at = length-take-le (suc p - at) u (omega (arith, f.from)) in
              let more = n - (suc p - at) in
              let split : v ++ t ≡ (v ++ take more t) ++ drop more t =
              ap (λ r. v ++ r) (sym (take-append-drop more t)) ∙ sym (append_assoc v (take more t) (drop more t)) in
              let enough : more ≤ length t = omega (arith, length-append v t, long) in
              ap content split
              ∙ content-refused (v ++ take more t) (drop more t)
              (omega (arith, length-append v (take more t), length-take-le more t enough, long, f.from))
              (f.same l (take more t))
          there h false e = ap (λ r. content (r ++ t)) (all-of (ltb-false p (at + length u) e)) ∙ content-refused u t size k

          go : (b : Bool) → leb n (length (v ++ t)) ≡ b → Again content at m p (length u) (v ++ t)
          go true e = inl (there (leb-true n (length (v ++ t)) e) (ltb p (at + length u)) refl)
          go false e = let l = leb-false n (length (v ++ t)) e in inr (content-short (v ++ t) l, omega arith)

      content-shows : (t : List ℕ) {m p : ℕ} → j.find u at ≡ faulty m p → Shows (FoundFirst n) content at (u ++ t) m p
      content-shows t {m} {p} k =
          let f = x.shown u at k in
          record {
            word = u;
            rest = t;
            bytes = refl;
            number = inr f.number;
            from = omega (arith, f.from);
            within = f.within;
            inside = f.on_a_byte;
            last = λ h. absurd (not-both m h f.number);
            always = λ t. content-refused u t size k;
            again = content-again k;
            origin = λ _. record {
              content = u;
              rest = t;
              bytes = refl;
              size = size;
              offset = p - at;
              first = x.first u at k;
              place = omega (arith, f.from);
            };
          }

      content-takes : (t : List ℕ) {a : A} {m : ℕ} → j.whole u ≡ got a m → Sees (FoundFirst n) content at (u ++ t) (content (u ++ t))
      content-takes t {a} e =
          subst (λ o. Sees (FoundFirst n) content at (u ++ t) o) (sym (read t))
          (takes {g = record { value = a; rest = t; at = at + n }} (record {
            word = u;
            bytes = refl;
            place = omega arith;
            always = λ r. read r ∙ ap (λ k. accepted (record { value = a; rest = r; at = k })) (omega arith);
          }))
        where
          read : (r : List ℕ) → content (u ++ r) ≡ accepted (record { value = a; rest = r; at = at + n })
          read r = content-there u r size ∙ judged-read (j.whole u) (j.find u at) (j.has_fault u at) r (at + n) e

      content-sees : (t : List ℕ) → Sees (FoundFirst n) content at (u ++ t) (content (u ++ t))
      content-sees t = go (j.whole u) refl (j.find u at) refl
        where
          go : (r : Read A) → j.whole u ≡ r → (f : Found) → j.find u at ≡ f → Sees (FoundFirst n) content at (u ++ t) (content (u ++ t))
          go (got a m) e f k = content-takes t e
          go nothing e sound k = absurd (j.has_fault u at e k)
          go nothing e (faulty m p) k =
              subst (λ o. Sees (FoundFirst n) content at (u ++ t) o) (sym (content-refused u t size k)) (shows (content-shows t k))

    content-looks : (s : List ℕ) → Sees (FoundFirst n) content at s (content s)
    content-looks s = go (leb n (length s)) refl
      where
        go : (b : Bool) → leb n (length s) ≡ b → Sees (FoundFirst n) content at s (content s)
        go true e =
            subst (λ s. Sees (FoundFirst n) content at s (content s)) (take-append-drop n s)
            (content-sees (take n s) (length-take-le n s (leb-true n (length s) e)) (drop n s))
        go false e = subst (λ o. Sees (FoundFirst n) content at s o) (sym (content-short s (leb-false n (length s) e))) (ends refl refl)

  expression-looks : {A : Type 0} (j : Expected A) → Finds j → Looks (expression j)
  unfolding expression readers
  expression-looks j x s at =
      then-moves (λ t. number 1 (suc limits.expression) t at) _ at s (λ n. FoundFirst n.value) _
      (number-looks 1 (suc limits.expression) s at)
      (λ n e. content-looks j x n.value n.at n.rest) (λ n e _. counted n e)
    where
      -- with the length byte
      counted : (n : Got ℕ) → number 1 (suc limits.expression) s at ≡ accepted n
          → (m p : ℕ) → FoundFirst n.value n.rest n.at m p → FoundIn s at m p
      counted n e m p y =
          let took = number-took 1 (suc limits.expression) s at n e in
          record {
            before = [];
            content = y.content;
            rest = y.rest;
            bytes = took.2 ∙ ap₂ (λ k l. k ∷ l) (sym y.size) y.bytes;
            offset = y.offset;
            first = y.first;
            place = omega (arith, y.place, took.1);
          }

  -- ---- rules and parts

  assignments-looks : (sc : Scope) → 0 < sc.owns → (n : ℕ) (ts : List ℕ) → Looks (assignments sc n ts)
  unfolding assignments ◌>>=◌ here and_then
  assignments-looks sc own zero ts s at = give-looks [] s at
  assignments-looks sc own (suc n) ts s at =
      then-sees (λ t. number 0 sc.owns t at) _ at s _ (number-looks 0 sc.owns s at)
      (λ g e.
      expect-sees (not (member g.value ts)) repeated_target at (inr (inl refl)) _ g.rest g.at
      (number-took 0 sc.owns s at g e).1
      (then-looks (expression (numbers sc)) _ (expression-looks (numbers sc) (numbers-find sc own))
      (λ x. then-looks (assignments sc n (g.value ∷ ts)) _ (assignments-looks sc own n (g.value ∷ ts)) (λ rest. give-looks _))
      g.rest g.at))

  action-looks : (sc : Scope) → 0 < sc.owns → Looks (action sc)
  unfolding action ◌>>=◌
  action-looks sc own =
      then-looks (number 0 (suc limits.assignments)) _ (number-looks 0 (suc limits.assignments)) (λ n. assignments-looks sc own n [])

  own-known : (R : ℕ) → 0 < R → 0 < (own_only R).owns
  unfolding own_only
  own-known R own = own

  -- the count of a new deck's default action, and the test of it
  retired-looks : (R : ℕ) → 0 < R → form ≡ New → Looks (default_action New R)
  unfolding default_action ◌>>=◌ here and_then
  retired-looks R own new s at =
      then-sees (λ t. number 0 (suc limits.assignments) t at) _ at s _ (number-looks 0 (suc limits.assignments) s at)
      (λ g e.
      expect-sees (allows New g.value) default_retired at (inr (inr (refl, new)))
      (assignments (own_only R) g.value []) g.rest g.at
      (number-took 0 (suc limits.assignments) s at g e).1
      (assignments-looks (own_only R) (own-known R own) g.value [] g.rest g.at))

  default-looks : (R : ℕ) → 0 < R → Looks (default_action form R)
  unfolding layouts readers
  default-looks R own = go form refl
    where
      go : (f : Form) → form ≡ f → Looks (default_action f R)
      go Old e = action-looks (own_only R) (own-known R own)
      go New e = retired-looks R own e

  task-known : (R : ℕ) (everywhere : Bool) → 0 < R → 0 < (task_scope R everywhere).owns
  task-known R everywhere own = subst (λ k. 0 < k) (sym (owns-task R everywhere)) own

  rule-looks : (R : ℕ) → 0 < R → Looks (rule form R)
  unfolding rule ◌>>=◌
  rule-looks R own =
      then-looks (number 1 (suc limits.events)) _ (number-looks 1 (suc limits.events))
      (λ n.
      then-looks (rising n 0 R) _ (rising-looks n 0 R)
      (λ events.
      then-looks (default_action form R) _ (default-looks R own)
      (λ default.
      then-looks (number 0 2) _ (number-looks 0 2)
      (λ kind.
      then-looks (expression (truths (task_scope R (eqb kind 1)))) _
      (expression-looks (truths (task_scope R (eqb kind 1))) (truths-find (task_scope R (eqb kind 1)) (task-known R (eqb kind 1) own)))
      (λ condition.
      then-looks (action (task_scope R (eqb kind 1))) _ (action-looks (task_scope R (eqb kind 1)) (task-known R (eqb kind 1) own))
      (λ act. give-looks _))))))

  part-looks : (R M : ℕ) → 0 < R → Looks (part R M)
  unfolding part ◌>>=◌
  part-looks R M own =
      then-looks (repeats R value) _ (repeats-looks value-looks R)
      (λ opening.
      then-looks (number 0 (suc M)) _ (number-looks 0 (suc M))
      (λ n.
      then-looks (rising n 0 M) _ (rising-looks n 0 M)
      (λ carried.
      then-looks (expression (truths (own_only R))) _ (expression-looks (truths (own_only R)) (truths-find (own_only R) (own-known R own)))
      (λ limit. give-looks _))))

  -- ---- the whole deck

  -- nothing follows, and a was read
  abbrev closing : {A : Type 0} → A → Reader A
  closing a = end >> give a

  -- a reader that ends where the bytes do: another one, and then the end. What is seen of it may ask for Q
  record Closed (Q : Type 0) {A : Type 0} (q : Reader A) : Type 0 where
    pub front : Reader A
    pub looks : Q → Looks front
    pub closes : (s : List ℕ) (at : ℕ) → q s at ≡ and_then (front s at) closing

  then-closes : {A B : Type 0} (Q : A → Type 0) (r : Reader A) (f : A → Reader B) (k : (a : A) → Closed (Q a) (f a)) (s : List ℕ) (at : ℕ)
      → (r >>= f) s at ≡ and_then (and_then (r s at) (λ a. (k a).front)) closing
  unfolding ◌>>=◌ and_then
  then-closes {A} Q r f k s at = go (r s at)
    where
      go : (o : Outcome (Got A)) → and_then o f ≡ and_then (and_then o (λ a. (k a).front)) closing
      go (refused n p) = refl
      go (accepted g) = (k g.value).closes g.rest g.at

  module _ {Q : Type 0} where
    end-closed : {A : Type 0} (a : A) → Closed Q (end >> give a)
    unfolding give and_then
    end-closed a = record { front = give a; looks = λ _. give-looks a; closes = λ s at. refl }

    here-closed : {A : Type 0} (f : ℕ → Reader A) → ((p : ℕ) → Closed Q (f p)) → Closed Q (here >>= f)
    unfolding here ◌>>=◌ and_then
    here-closed f k =
        record { front = λ s at. (k at).front s at; looks = λ h s at. (k at).looks h s at; closes = λ s at. (k at).closes s at }

    then-closed : {A B : Type 0} (r : Reader A) (f : A → Reader B) → (Q → Looks r) → ((a : A) → Closed Q (f a)) → Closed Q (r >>= f)
    then-closed r f x k = record {
      front = λ s at. and_then (r s at) (λ a. (k a).front);
      looks = λ h. then-looks r _ (x h) (λ a. (k a).looks h);
      closes = then-closes (λ _. Q) r f k;
    }

  -- what is asked for is that the number that was read is in its range
  number-closed : {A : Type 0} (lo hi : ℕ) (f : ℕ → Reader A) → ((a : ℕ) → Closed (lo ≤ a) (f a)) → Closed (Unit {0}) (number lo hi >>= f)
  number-closed lo hi f k = record {
    front = λ s at. and_then (number lo hi s at) (λ a. (k a).front);
    looks = λ _ s at.
        then-sees (λ t. number lo hi t at) (λ a. (k a).front) at s (number lo hi s at) (number-looks lo hi s at)
        (λ g e. (k g.value).looks (number-took lo hi s at g e).0 g.rest g.at);
    closes = then-closes (λ a. lo ≤ a) (number lo hi) f k;
  }

  sections-closed : Closed (Unit {0}) (sections form)
  unfolding sections
  sections-closed =
      number-closed 1 (suc limits.channels) _ λ R.
      then-closed _ _ (λ _. repeats-looks (number-looks _ _) R) λ labels.
      here-closed _ λ rules_at.
      then-closed _ _ (λ _. number-looks 0 (suc limits.rules)) λ M.
      then-closed _ _ (λ own. repeats-looks (rule-looks R own) M) λ rules.
      here-closed _ λ parts_at.
      then-closed _ _ (λ _. number-looks 1 (suc limits.parts)) λ N.
      then-closed _ _ (λ own. repeats-looks (part-looks R M own) N) λ parts.
      end-closed _

  -- the sections from the first byte on, whatever follows them
  abbrev front : From Layout
  front s = sections-closed.front s 0

  read-front : (s : List ℕ) (o : Outcome (Got Layout)) → front s ≡ o → read form s ≡ value_of (and_then o closing)
  unfolding read
  read-front s o e = ap value_of (sections-closed.closes s 0 ∙ ap (λ o. and_then o closing) e)

  sees : (s : List ℕ) → Sees FoundIn front 0 s (front s)
  sees s = sections-closed.looks tt s 0

  read-refused : (s : List ℕ) (n p : ℕ) → front s ≡ refused n p → read form s ≡ refused n p
  unfolding and_then value_of
  read-refused s n p e = read-front s (refused n p) e

  -- ---- faults

  -- 1; 2, 4 or 20; 3, 18 or 19; 5
  abbrev pub OfReading : ℕ → Type 0
  OfReading n = (n ≡ deck_ends) ⊎ (AtOnce n ⊎ (InExpression n ⊎ (n ≡ bytes_follow)))

  pub reading-listed : (n : ℕ) → OfReading n → (1 ≤ n) × (n ≤ last_number)
  reading-listed n (inl e) = (omega arith, omega arith)
  reading-listed n (inr (inl (inl e))) = (omega arith, omega arith)
  reading-listed n (inr (inl (inr (inl e)))) = (omega arith, omega arith)
  reading-listed n (inr (inl (inr (inr (e, _))))) = (omega arith, omega arith)
  reading-listed n (inr (inr (inl (inl e)))) = (omega arith, omega arith)
  reading-listed n (inr (inr (inl (inr (inl e))))) = (omega arith, omega arith)
  reading-listed n (inr (inr (inl (inr (inr e))))) = (omega arith, omega arith)
  reading-listed n (inr (inr (inr e))) = (omega arith, omega arith)

  -- what a fault of reading says of the bytes
  pub record FaultAt (bytes : List ℕ) (n p : ℕ) : Type 0 where
    pub number : OfReading n
    -- "for 1 the deck's length"; the others at a byte of the deck, but for 19, whose expression may end early where the deck ends
    pub ends : n ≡ deck_ends → p ≡ length bytes
    pub within : p ≤ length bytes
    pub inside : ¬ (n ≡ deck_ends) → ¬ (n ≡ wrong_end) → p < length bytes
    -- 2, 4 and 20 do not depend on what follows that byte
    pub shown : AtOnce n → (t : List ℕ) → read form (take (suc p) bytes ++ t) ≡ refused n p
    -- nor do 3, 18 and 19, unless the deck is shorter now and ends before all bytes of the expression are there
    pub found : InExpression n → (t : List ℕ)
        → let s = take (suc p) bytes ++ t in
        (read form s ≡ refused n p) ⊎ ((read form s ≡ refused deck_ends (length s)) × (length s < length bytes))
    -- they are the first fault of one expression, behind its length byte
    pub origin : InExpression n → FoundIn bytes 0 n p

  -- 1 and 5 are neither 2, 4 nor 20, nor faults in an expression
  neither : (n : ℕ) → (n ≡ deck_ends) ⊎ (n ≡ bytes_follow) → Shown n → ⊥
  neither n (inl e) (inl (inl f)) = omega arith
  neither n (inl e) (inl (inr (inl f))) = omega arith
  neither n (inl e) (inl (inr (inr (f, _)))) = omega arith
  neither n (inl e) (inr (inl f)) = omega arith
  neither n (inl e) (inr (inr (inl f))) = omega arith
  neither n (inl e) (inr (inr (inr f))) = omega arith
  neither n (inr e) (inl (inl f)) = omega arith
  neither n (inr e) (inl (inr (inl f))) = omega arith
  neither n (inr e) (inl (inr (inr (f, _)))) = omega arith
  neither n (inr e) (inr (inl f)) = omega arith
  neither n (inr e) (inr (inr (inl f))) = omega arith
  neither n (inr e) (inr (inr (inr f))) = omega arith

  module _ (s : List ℕ) (n p : ℕ) where
    fault-ends : n ≡ deck_ends → p ≡ length s → FaultAt s n p
    fault-ends e f =
        record {
          number = inl e;
          ends = λ _. f;
          within = omega arith;
          inside = λ h. absurd (h e);
          shown = λ h. absurd (neither n (inl e) (inl h));
          found = λ h. absurd (neither n (inl e) (inr h));
          origin = λ h. absurd (neither n (inl e) (inr h));
        }

    module _ (x : Shows FoundIn front 0 s n p) where
      whole : length s ≡ length x.word + length x.rest
      whole = ap length x.bytes ∙ length-append x.word x.rest

      -- what stands up to the place, of the word or with the byte behind it
      up_to : (t : List ℕ) → (b : Bool) → ltb p (length x.word) ≡ b → Again front 0 n p (length x.word) (take (suc p) s ++ t)
      up_to t true e =
          let l = ltb-true p (length x.word) e in
          let k : suc p - 0 ≡ suc p = omega arith in
          let front_of : take (suc p) s ≡ take (suc p) x.word =
          ap (take (suc p)) x.bytes ∙ take-append-le (suc p) x.word x.rest (omega arith) in
          let same : take (suc p - 0) x.word ≡ take (suc p) s = ap (λ k. take k x.word) k ∙ sym front_of in
          subst (λ u. Again front 0 n p (length x.word) (u ++ t)) same (x.again t)
      up_to t false e =
          let l = ltb-false p (length x.word) e in
          let k : suc p ≡ length x.word + 1 = omega (arith, x.within) in
          let same : take (suc p) s ++ t ≡ x.word ++ (take 1 x.rest ++ t) =
          ap (λ u. u ++ t) (ap₂ take k x.bytes ∙ take-append-add x.word x.rest 1) ∙ append_assoc x.word (take 1 x.rest) t in
          inl (ap front same ∙ x.always (take 1 x.rest ++ t))

      fault-shows : FaultAt s n p
      unfolding value_of and_then
      fault-shows =
          record {
            number = ⊎_elim (λ e. inr (inl e)) (λ e. inr (inr (inl e))) x.number;
            ends = λ h. absurd (neither n (inl h) x.number);
            within = omega (arith, x.within, whole);
            inside = λ _ h. omega (arith, x.inside h, whole);
            shown = λ h t.
                let size : suc p ≡ length x.word = omega (arith, x.last h) in
                let word : take (suc p) s ≡ x.word =
                ap₂ take size x.bytes ∙ take-append_seam x.word x.rest in
                ap (λ w. read form (w ++ t)) word ∙ read-refused (x.word ++ t) n p (x.always t);
            found = λ h t.
                let u = take (suc p) s ++ t in
                ⊎_elim (λ e. inl (read-refused u n p e))
                (λ e.
                let size : 0 + length u ≡ length u = omega arith in
                inr (read-refused u deck_ends (0 + length u) e.0 ∙ ap (λ k. refused deck_ends k) size, omega (arith, e.1, whole)))
                (up_to t (ltb p (length x.word)) refl);
            origin = x.origin;
          }

    fault-follows : n ≡ bytes_follow → p < length s → FaultAt s n p
    fault-follows e f =
        record {
          number = inr (inr (inr e));
          ends = λ h. absurd (omega arith);
          within = omega arith;
          inside = λ _ _. f;
          shown = λ h. absurd (neither n (inr e) (inl h));
          found = λ h. absurd (neither n (inr e) (inr h));
          origin = λ h. absurd (neither n (inr e) (inr h));
        }

  -- ---- the end

  module _ {A : Type 0} (a : A) where
    -- only a byte that follows is refused behind what was read
    follows-only : (rest : List ℕ) (at n p : ℕ) → value_of (closing a rest at) ≡ refused n p
        → (n ≡ bytes_follow) × ((p ≡ at) × (0 < length rest))
    unfolding value_of readers
    follows-only [] at n p e = refused≢accepted (sym e)
    follows-only (b ∷ t) at n p e = (sym (number-inj e), (sym (place-inj e), omega arith))

    closes-empty : (rest : List ℕ) (at : ℕ) (b : A) → value_of (closing a rest at) ≡ accepted b → rest ≡ []
    unfolding value_of readers
    closes-empty [] at b e = refl
    closes-empty (c ∷ t) at b e = refused≢accepted e

    closes-accepted : (at : ℕ) → value_of (closing a [] at) ≡ accepted a
    unfolding value_of readers
    closes-accepted at = refl

    follows-some : (rest : List ℕ) (at : ℕ) → 0 < length rest → value_of (closing a rest at) ≡ refused bytes_follow at
    unfolding value_of readers
    follows-some [] at h = absurd (omega arith)
    follows-some (b ∷ t) at h = refl

  read_behind : (s : List ℕ) (g : Got Layout) → front s ≡ accepted g → read form s ≡ value_of (closing g.value g.rest g.at)
  unfolding and_then
  read_behind s g e = read-front s (accepted g) e

  -- a fault that reading finds
  pub read-fault : (bytes : List ℕ) (n p : ℕ) → read form bytes ≡ refused n p → FaultAt bytes n p
  read-fault s n p h = go (front s) refl (sees s)
    where
      go : (o : Outcome (Got Layout)) → front s ≡ o → Sees FoundIn front 0 s o → FaultAt s n p
      go (accepted g) e (takes w) =
          let f = follows-only g.value g.rest g.at n p (sym (read_behind s g e) ∙ h) in
          let whole = ap length w.bytes ∙ length-append w.word g.rest in
          fault-follows s n p f.0 (omega (arith, f.1.0, f.1.1, w.place, whole))
      go (refused m q) e (ends i j) =
          let same = sym h ∙ read-refused s m q e in
          fault-ends s n p (number-inj same ∙ i) (place-inj same ∙ j ∙ omega arith)
      go (refused m q) e (shows x) =
          let same = sym h ∙ read-refused s m q e in
          fault-shows s n p
          (subst (λ k. Shows FoundIn front 0 s k p) (sym (number-inj same))
          (subst (λ k. Shows FoundIn front 0 s m k) (sym (place-inj same)) x))

  -- the bytes before place p are a whole deck, and one follows
  abbrev pub WholeBefore : List ℕ → ℕ → Type 0
  WholeBefore bytes p = (p < length bytes) × ((l : Layout) × (read form (take p bytes) ≡ accepted l))

  module _ (s : List ℕ) (p : ℕ) where
    five-whole : read form s ≡ refused bytes_follow p → WholeBefore s p
    five-whole h = go (front s) refl (sees s)
      where
        go : (o : Outcome (Got Layout)) → front s ≡ o → Sees FoundIn front 0 s o → WholeBefore s p
        go (accepted g) e (takes w) =
            let f = follows-only g.value g.rest g.at bytes_follow p (sym (read_behind s g e) ∙ h) in
            let whole = ap length w.bytes ∙ length-append w.word g.rest in
            let size : p ≡ length w.word = omega (arith, f.1.0, w.place) in
            let before : take p s ≡ w.word ++ [] =
            ap₂ take size w.bytes ∙ take-append_seam w.word g.rest ∙ sym (append-nil w.word) in (
              omega (arith, f.1.1, whole),
              (
                g.value,
                ap (read form) before
                    ∙ read_behind (w.word ++ []) _ (w.always []) ∙ closes-accepted g.value (0 + length w.word),
              ),
            )
        go (refused m q) e (ends i j) = absurd (omega (arith, number-inj (sym h ∙ read-refused s m q e)))
        go (refused m q) e (shows x) = absurd (neither m (inr (sym (number-inj (sym h ∙ read-refused s m q e)))) x.number)

    whole-five : WholeBefore s p → read form s ≡ refused bytes_follow p
    whole-five (below, (l, h)) = go (front (take p s)) refl (sees (take p s))
      where
        go : (o : Outcome (Got Layout)) → front (take p s) ≡ o → Sees FoundIn front 0 (take p s) o → read form s ≡ refused bytes_follow p
        go (accepted g) e (takes w) =
            let none = closes-empty g.value g.rest g.at l (sym (read_behind (take p s) g e) ∙ h) in
            let word : w.word ≡ take p s = sym (append-nil w.word) ∙ ap (λ r. w.word ++ r) (sym none) ∙ sym w.bytes in
            let size : 0 + length w.word ≡ p = omega (arith, ap length word, length-take p s) in
            let joined : w.word ++ drop p s ≡ s = ap (λ v. v ++ drop p s) word ∙ take-append-drop p s in
            ap (read form) (sym joined)
            ∙ read_behind (w.word ++ drop p s) _ (w.always (drop p s))
            ∙ follows-some g.value (drop p s) (0 + length w.word) (omega (arith, length-drop p s))
            ∙ ap (λ k. refused bytes_follow k) size
        go (refused m q) e x = refused≢accepted (sym (read-refused (take p s) m q e) ∙ h)

  -- 5 is found exactly where the bytes before it are a whole deck
  pub follows-exactly : (bytes : List ℕ) (p : ℕ) → (read form bytes ≡ refused bytes_follow p) ↔ WholeBefore bytes p
  follows-exactly bytes p = (five-whole bytes p, whole-five bytes p)

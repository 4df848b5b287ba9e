-- When `convert` answers what, from both sides. Assumes nothing.
use Prim.Native.Nat.{ℕ, suc, ◌≤◌, ◌<◌}
use Rattle.std.proofs.Math.Path.{◌≡◌, refl, ap, subst}
use Rattle.std.proofs.Common.{sym, ap₂, ◌∙◌, inl, inr, arith, leb-true, leb-false}
use Rattle.std.specs.Prelude.{◌↔◌, Bool, true, false, List, leb, length, take}
use Rattle.refusals.specs.Outcome.{Outcome, refused, accepted}
use Rattle.refusals.specs.Numbers.{wrong_end, default_retired, too_many_rules, buffer_too_short}
use Rattle.refusals.specs.Laws.Outcomes.{refused≢accepted, accepted-inj, number-inj}
use Rattle.expression.specs.Bytes.{Bytes}
use Rattle.deck.specs.declared.Form.{Form}
use Rattle.deck.specs.declared.Form.TheVariants.{Old, New}
use Rattle.deck.specs.Limits.{limits, longest}
use Rattle.deck.specs.Deck.{M}
use Rattle.deck.specs.Layout.{Layout, read}
use Rattle.deck.specs.Encoding.{encode}
use Rattle.deck.proofs.Laws.Prefix.{encode-length}
use Rattle.deck.proofs.Laws.Faults.{OfReading, read-fault}
use Rattle.passing.specs.Check.{passing}
use Rattle.passing.proofs.Laws.Passes.{passes-exactly}
use Rattle.passing.proofs.Laws.Passing.{later_tests, TestsFind, clean, found-6, found-7, found-8, later-find, passing-reads, passing-judges}
use Rattle.conversion.specs.Converted.{converted}
use Rattle.conversion.specs.Conversion.{conversion, reply, convert}
use Rattle.conversion.proofs.Laws.Formed.{converted-formed, converted-suits}
use Rattle.conversion.proofs.Laws.Tests.{conversion-declines, too-many-rules, buffer-too-short, conversion-writes}
use Rattle.conversion.proofs.Laws.Tests.{conversion-prefix}

-- the old check passes the deck, at most 64 rules result, and the new deck of n bytes fits into so much room
pub record Convertible (bytes : List ℕ) (room n : ℕ) : Type 0 where
  pub layout : Layout
  pub passes : passing Old bytes ≡ accepted layout
  pub few : M (converted layout.deck) ≤ limits.rules
  pub size : n ≡ length (encode (converted layout.deck))
  pub fits : n ≤ room

-- the old check's refusal; then 21; then 22
pub data RefusedFor (bytes : List ℕ) (room n p : ℕ) : Type 0 where
  by_the_check : passing Old bytes ≡ refused n p → RefusedFor bytes room n p
  by-21 : (l : Layout) → passing Old bytes ≡ accepted l → limits.rules < M (converted l.deck) → n ≡ too_many_rules → p ≡ 0
      → RefusedFor bytes room n p
  by-22 : (l : Layout) → passing Old bytes ≡ accepted l → M (converted l.deck) ≤ limits.rules
      → room < length (encode (converted l.deck)) → n ≡ buffer_too_short → p ≡ 0 → RefusedFor bytes room n p

-- ---- the old check's numbers

not_new : ◌≡◌ {A = Form} Old New → ⊥
not_new e = subst (λ f. is_old f) e tt
  where
    is_old : Form → Type 0
    is_old Old = Unit {0}
    is_old New = ⊥

of-reading : (n : ℕ) → OfReading Old n → n ≤ wrong_end
of-reading n (inl e) = omega arith
of-reading n (inr (inl (inl e))) = omega arith
of-reading n (inr (inl (inr (inl e)))) = omega arith
of-reading n (inr (inl (inr (inr (e, f))))) = absurd (not_new f)
of-reading n (inr (inr (inl (inl e)))) = omega arith
of-reading n (inr (inr (inl (inr (inl e))))) = omega arith
of-reading n (inr (inr (inl (inr (inr e))))) = omega arith
of-reading n (inr (inr (inr e))) = omega arith

-- it answers no number that came with this request: 20 above all
pub old-check-numbers : (bytes : List ℕ) (n p : ℕ) → passing Old bytes ≡ refused n p → n ≤ wrong_end
old-check-numbers bytes n p h = go (read Old bytes) refl
  where
    behind : (l : Layout) → later_tests l ≡ refused n p → (o : Outcome Layout) → o ≡ later_tests l → TestsFind l o → n ≤ wrong_end
    behind l e o i (clean a b c d) = refused≢accepted (sym e ∙ sym i ∙ d)
    behind l e o i (found-6 q qs a d) = omega (arith, number-inj (sym e ∙ sym i ∙ d))
    behind l e o i (found-7 q qs a b d) = omega (arith, number-inj (sym e ∙ sym i ∙ d))
    behind l e o i (found-8 q qs a b c d) = omega (arith, number-inj (sym e ∙ sym i ∙ d))

    go : (o : Outcome Layout) → read Old bytes ≡ o → n ≤ wrong_end
    go (refused m q) e =
        subst (λ k. k ≤ wrong_end) (number-inj (sym (passing-reads Old bytes m q e) ∙ h)) (of-reading m (read-fault Old bytes m q e).number)
    go (accepted l) e = behind l (sym (passing-judges Old bytes l e) ∙ h) (later_tests l) refl (later-find l)

-- ---- the call

module _ (bytes : List ℕ) (room : ℕ) where
  -- what is found, one test after the other
  data Outcomes : Outcome (List ℕ) → Type 0 where
    makes : {new : List ℕ} → Convertible bytes room (length new) → Outcomes (accepted new)
    declines : {n p : ℕ} → RefusedFor bytes room n p → Outcomes (refused n p)

  outcomes : Outcomes (conversion bytes room)
  outcomes = go (passing Old bytes) refl
    where
      long : (l : Layout) → passing Old bytes ≡ accepted l → M (converted l.deck) ≤ limits.rules
          → (b : Bool) → leb (length (encode (converted l.deck))) room ≡ b → Outcomes (conversion bytes room)
      long l e few true h =
          let fits = leb-true (length (encode (converted l.deck))) room h in
          subst Outcomes (sym (conversion-writes bytes room l e few fits))
          (makes (record { layout = l; passes = e; few = few; size = refl; fits = fits }))
      long l e few false h =
          let short = leb-false (length (encode (converted l.deck))) room h in
          subst Outcomes (sym (buffer-too-short bytes room l e few short)) (declines (by-22 l e few short refl refl))

      many : (l : Layout) → passing Old bytes ≡ accepted l → (b : Bool) → leb (M (converted l.deck)) limits.rules ≡ b
          → Outcomes (conversion bytes room)
      many l e true h =
          long l e (leb-true (M (converted l.deck)) limits.rules h) (leb (length (encode (converted l.deck))) room) refl
      many l e false h =
          let over = leb-false (M (converted l.deck)) limits.rules h in
          subst Outcomes (sym (too-many-rules bytes room l e over)) (declines (by-21 l e over refl refl))

      go : (o : Outcome Layout) → passing Old bytes ≡ o → Outcomes (conversion bytes room)
      go (refused n p) e = subst Outcomes (sym (conversion-declines bytes room n p e)) (declines (by_the_check e))
      go (accepted l) e = many l e (leb (M (converted l.deck)) limits.rules) refl

module _ (bytes buffer : List ℕ) where
  -- the call answers n exactly where the deck is convertible to n bytes
  pub convert-accepts : (n : ℕ) → ((convert bytes buffer).answer ≡ accepted n) ↔ Convertible bytes (length buffer) n
  unfolding convert reply
  convert-accepts n = (λ h. there (conversion bytes (length buffer)) (outcomes bytes (length buffer)) h, back)
    where
      there : (o : Outcome (List ℕ)) → Outcomes bytes (length buffer) o → (reply buffer o).answer ≡ accepted n
          → Convertible bytes (length buffer) n
      there (accepted new) (makes c) h = subst (Convertible bytes (length buffer)) (accepted-inj h) c
      there (refused k p) (declines r) h = refused≢accepted h

      back : Convertible bytes (length buffer) n → (reply buffer (conversion bytes (length buffer))).answer ≡ accepted n
      back c =
          let fits = subst (λ k. k ≤ length buffer) c.size c.fits in
          ap (λ o. (reply buffer o).answer) (conversion-writes bytes (length buffer) c.layout c.passes c.few fits)
          ∙ ap accepted (sym c.size)

  -- it is refused exactly for one of the three reasons, and then leaves the buffer
  pub convert-refuses : (n p : ℕ) → ((convert bytes buffer).answer ≡ refused n p) ↔ RefusedFor bytes (length buffer) n p
  unfolding convert reply
  convert-refuses n p = (λ h. there (conversion bytes (length buffer)) (outcomes bytes (length buffer)) h, back)
    where
      there : (o : Outcome (List ℕ)) → Outcomes bytes (length buffer) o → (reply buffer o).answer ≡ refused n p
          → RefusedFor bytes (length buffer) n p
      there (accepted new) (makes c) h = refused≢accepted (sym h)
      there (refused k q) (declines r) h =
          subst (λ (o : ℕ × ℕ). RefusedFor bytes (length buffer) o.0 o.1) (same h) r
        where
          same : ◌≡◌ {A = Outcome ℕ} (refused k q) (refused n p) → ◌≡◌ {A = ℕ × ℕ} (k, q) (n, p)
          same e = ap both e
            where
              both : Outcome ℕ → ℕ × ℕ
              both (refused a b) = (a, b)
              both (accepted a) = (0, 0)

      back : RefusedFor bytes (length buffer) n p → (reply buffer (conversion bytes (length buffer))).answer ≡ refused n p
      back (by_the_check e) = ap (λ o. (reply buffer o).answer) (conversion-declines bytes (length buffer) n p e)
      back (by-21 l e h i j) =
          ap (λ o. (reply buffer o).answer) (too-many-rules bytes (length buffer) l e h ∙ ap₂ refused (sym i) (sym j))
      back (by-22 l e few h i j) =
          ap (λ o. (reply buffer o).answer) (buffer-too-short bytes (length buffer) l e few h ∙ ap₂ refused (sym i) (sym j))

  pub refused-leaves : (n p : ℕ) → (convert bytes buffer).answer ≡ refused n p → (convert bytes buffer).buffer ≡ buffer
  unfolding convert reply
  refused-leaves n p h = go (conversion bytes (length buffer)) h
    where
      go : (o : Outcome (List ℕ)) → (reply buffer o).answer ≡ refused n p → (reply buffer o).buffer ≡ buffer
      go (refused k q) h = refl
      go (accepted new) h = refused≢accepted (sym h)

  -- room for the longest new deck is enough for every deck
  pub never-too-short : Bytes bytes → limits.deck ≤ length buffer → (p : ℕ) → (convert bytes buffer).answer ≡ refused buffer_too_short p → ⊥
  never-too-short b room p h = go ((convert-refuses buffer_too_short p).0 h)
    where
      go : RefusedFor bytes (length buffer) buffer_too_short p → ⊥
      go (by_the_check e) = omega (arith, old-check-numbers bytes buffer_too_short p e)
      go (by-21 l e h i j) = omega (arith, i)
      go (by-22 l e few h i j) =
          let formed = converted-formed l.deck ((passes-exactly Old bytes b l).0 e).layout.0 few in
          omega (arith, h, encode-length New (converted l.deck) formed (converted-suits l.deck))

  -- no deck is refused with 20
  pub never-20 : (p : ℕ) → (convert bytes buffer).answer ≡ refused default_retired p → ⊥
  never-20 p h = go ((convert-refuses default_retired p).0 h)
    where
      go : RefusedFor bytes (length buffer) default_retired p → ⊥
      go (by_the_check e) = omega (arith, old-check-numbers bytes default_retired p e)
      go (by-21 l e h i j) = omega (arith, i)
      go (by-22 l e few h i j) = omega (arith, i)

  -- one byte more than the longest old deck decides
  pub convert-prefix : convert (take (suc (longest Old)) bytes) buffer ≡ convert bytes buffer
  unfolding convert
  convert-prefix = ap (reply buffer) (conversion-prefix bytes (length buffer))

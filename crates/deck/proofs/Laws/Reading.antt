-- Reading is exact: the reader accepts bytes with a deck exactly when the deck is well formed and the bytes are its encoding.
-- Assumes nothing.
use Rattle.std.specs.Prelude.{ℕ, ◌+◌, ◌≡◌, refl, true, List, [], ◌++◌, length}
use Rattle.std.proofs.Common.{sym, ap, ◌∙◌, subst, append-nil, zero-add}
use Rattle.refusals.specs.Outcome.{Outcome, accepted}
use Rattle.expression.specs.Bytes.{Bytes}
use Rattle.deck.specs.declared.Form.{Form}
use Rattle.deck.specs.Deck.{Deck}
use Rattle.deck.specs.Reader.{Got}
use Rattle.deck.specs.Layout.{Layout, sections, value_of, read}
use Rattle.deck.specs.Encoding.{encode_channels, encode_rules, encode, well_formed, suits}
use Rattle.deck.proofs.Laws.Exact.{Accepts, accepting, refusing, accepts, accepts-map}
use Rattle.deck.proofs.Laws.Sections.{LayoutWord, sections-exact}

pub value-accepts : {A : Type 0} {P : A → Type 0} {o : Outcome (Got A)} → Accepts (λ g. P g.value) o → Accepts P (value_of o)
unfolding value_of
value-accepts (accepting p) = accepting p
value-accepts refusing = refusing

-- ---- what was read

read-layout : (f : Form) (bytes : List ℕ) → Bytes bytes → Accepts (λ l. LayoutWord f 0 l bytes) (read f bytes)
unfolding read
read-layout f bytes b =
    value-accepts
    (accepts-map
    (λ g p.
    let whole : bytes ≡ p.word = p.bytes ∙ ap (λ r. p.word ++ r) p.ends ∙ append-nil p.word in
    subst (λ w. LayoutWord f 0 g.value w) (sym whole) p.relates)
    ((sections-exact f).sound bytes 0 b))

module _ (f : Form) (bytes : List ℕ) (b : Bytes bytes) (l : Layout) (e : read f bytes ≡ accepted l) where
  pub read-formed : well_formed l.deck ≡ true
  read-formed = (accepts (read-layout f bytes b) e).formed

  pub read-suited : suits f l.deck ≡ true
  read-suited = (accepts (read-layout f bytes b) e).suited

  pub read-encoded : bytes ≡ encode l.deck
  read-encoded = (accepts (read-layout f bytes b) e).bytes

  pub sections-exactly : (l.rules_at ≡ length (encode_channels l.deck))
      × (l.parts_at ≡ length (encode_channels l.deck) + length (encode_rules l.deck))
  sections-exactly =
      let w = accepts (read-layout f bytes b) e in
      (w.rules ∙ zero-add _, w.parts ∙ ap (λ n. n + length (encode_rules l.deck)) (zero-add _))

-- ---- what is read

-- a deck with the offsets of its sections
abbrev pub encoded_layout : Deck → Layout
encoded_layout d = record { deck = d; rules_at = length (encode_channels d); parts_at = length (encode_channels d) + length (encode_rules d) }

pub sections-encode : (f : Form) (d : Deck) → well_formed d ≡ true → suits f d ≡ true
    → sections f (encode d) 0 ≡ accepted (record { value = encoded_layout d; rest = []; at = 0 + length (encode d) })
sections-encode f d h k =
    let parts = ap (λ n. n + length (encode_rules d)) (sym (zero-add _)) in
    let p : LayoutWord f 0 (encoded_layout d) (encode d)
    = record { formed = h; suited = k; bytes = refl; rules = sym (zero-add _); parts = parts } in
    ap (λ s. sections f s 0) (sym (append-nil (encode d))) ∙ (sections-exact f).complete 0 (encoded_layout d) (encode d) [] p refl

pub read-encode : (f : Form) (d : Deck) → well_formed d ≡ true → suits f d ≡ true → read f (encode d) ≡ accepted (encoded_layout d)
unfolding read value_of
read-encode f d h k = ap value_of (sections-encode f d h k)

-- ---- both

-- the bytes are accepted with this deck
abbrev pub AcceptedAs : Form → List ℕ → Deck → Type 0
AcceptedAs f bytes d = (l : Layout) × (read f bytes ≡ accepted l) × (l.deck ≡ d)

pub record ReadsExactly (f : Form) (bytes : List ℕ) (d : Deck) : Type 0 where
  pub reads : AcceptedAs f bytes d → (well_formed d ≡ true) × (bytes ≡ encode d) × (suits f d ≡ true)
  pub accepts : (well_formed d ≡ true) × (bytes ≡ encode d) × (suits f d ≡ true) → AcceptedAs f bytes d

pub reads-exactly : (f : Form) (bytes : List ℕ) → Bytes bytes → (d : Deck) → ReadsExactly f bytes d
reads-exactly f bytes b d =
    record {
      reads = λ (l, e, same).
          rw (← same) (read-formed f bytes b l e, read-encoded f bytes b l e, read-suited f bytes b l e);
      accepts = λ p. (encoded_layout d, ap (read f) p.1 ∙ read-encode f d p.0 p.2, refl);
    }

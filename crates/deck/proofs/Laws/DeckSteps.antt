-- The reading of a deck section by section, as the code makes it. Assumes nothing.
use Rattle.std.specs.Prelude.{ℕ, ◌≡◌, List, [], ◌∷◌, drop, Result}
use Rattle.std.proofs.Common.{sym, ◌∙◌, ap₂, subst}
use Rattle.std.proofs.Math.Path.{ap}
use Rattle.refusals.specs.Outcome.{Outcome, refused, accepted}
use Rattle.refusals.specs.declared.Fault.{Fault}
use Rattle.refusals.specs.Numbers.{bytes_follow}
use Rattle.deck.specs.declared.Form.{Form}
use Rattle.deck.specs.Reader.{Got, ◌>>=◌, ◌>>◌, and_then, give, end, number, repeats, label}
use Rattle.deck.specs.Marks.{MarkedRule, marked_rule, MarkedFront, marked_front, MarkedPart, marked_part, marked_sections, Reads}
use Rattle.deck.proofs.Laws.Offsets.{then_next, then-fault, reads-last}
use Rattle.deck.proofs.Laws.PartSteps.{got_at, here-next}
use Rattle.deck.specs.declared.Deck.{Deck}

abbrev deck_of : ℕ → ℕ → ℕ → ℕ → ℕ → Deck
deck_of R M N rules_at parts_at = record { channels = R; rules = M; parts = N; rules_at = rules_at; parts_at = parts_at }

-- ---- the first two sections

module _ (form : Form) (s : List ℕ) where
  pub no-channels : {n p : ℕ} → number 1 33 s 0 ≡ refused n p → marked_front form s 0 ≡ refused n p
  unfolding marked_front ◌>>=◌
  no-channels e = then-fault _ e

  module _ (R a : ℕ) (e : number 1 33 s 0 ≡ got_at s R a) where
    pub no-labels : {n p : ℕ} → repeats R label (drop a s) a ≡ refused n p → marked_front form s 0 ≡ refused n p
    unfolding marked_front ◌>>=◌
    no-labels f = then_next _ e ∙ then-fault _ f

    module _ (labels : List ℕ) (rules_at : ℕ) (f : repeats R label (drop a s) a ≡ got_at s labels rules_at) where
      pub no-rules : {n p : ℕ} → number 0 65 (drop rules_at s) rules_at ≡ refused n p → marked_front form s 0 ≡ refused n p
      unfolding marked_front ◌>>=◌
      no-rules g = then_next _ e ∙ then_next _ f ∙ here-next _ (drop rules_at s) rules_at ∙ then-fault _ g

      module _ (M b : ℕ) (g : number 0 65 (drop rules_at s) rules_at ≡ got_at s M b) where
        front-last : marked_front form s 0
            ≡ and_then (repeats M (marked_rule form R) (drop b s) b)
            (λ rules. give (record { channels = R; labels = labels; rules_at = rules_at; count = M; rules = rules }))
        unfolding marked_front ◌>>=◌
        front-last = then_next _ e ∙ then_next _ f ∙ here-next _ (drop rules_at s) rules_at ∙ then_next _ g

        pub front_read : (P : List MarkedRule → Type 0) (Q : MarkedFront → Type 0) (step : Result ℕ Fault)
            → ((rules : List MarkedRule) → P rules
            → Q (record { channels = R; labels = labels; rules_at = rules_at; count = M; rules = rules }))
            → Reads s (repeats M (marked_rule form R) (drop b s) b) P step → Reads s (marked_front form s 0) Q step
        front_read P Q step q h =
            subst (λ (o : Outcome (Got MarkedFront)). Reads s o Q step) (sym front-last)
            (reads-last s (repeats M (marked_rule form R) (drop b s) b) P
            (λ rules. record { channels = R; labels = labels; rules_at = rules_at; count = M; rules = rules })
            Q step q h)

  -- ---- the third section

  -- parts are read by the counts that the first two sections gave, which the code holds as R and M
  pub same_parts : {R M : ℕ} (front : MarkedFront) (N a : ℕ) → R ≡ front.channels → M ≡ front.count
      → repeats N (marked_part front.channels front.count) (drop a s) a ≡ repeats N (marked_part R M) (drop a s) a
  same_parts front N a e f = ap₂ (λ R M. repeats N (marked_part R M) (drop a s) a) (sym e) (sym f)

  pub no_front : {n p : ℕ} → marked_front form s 0 ≡ refused n p → marked_sections form s 0 ≡ refused n p
  unfolding marked_sections ◌>>=◌
  no_front e = then-fault _ e

  module _ (front : MarkedFront) (parts_at : ℕ) (e : marked_front form s 0 ≡ got_at s front parts_at) where
    pub no-parts : {n p : ℕ} → number 1 17 (drop parts_at s) parts_at ≡ refused n p → marked_sections form s 0 ≡ refused n p
    unfolding marked_sections ◌>>=◌
    no-parts f = then_next _ e ∙ here-next _ (drop parts_at s) parts_at ∙ then-fault _ f

    module _ (N a : ℕ) (f : number 1 17 (drop parts_at s) parts_at ≡ got_at s N a) where
      pub bad-part : {n p : ℕ} → repeats N (marked_part front.channels front.count) (drop a s) a ≡ refused n p
          → marked_sections form s 0 ≡ refused n p
      unfolding marked_sections ◌>>=◌
      bad-part g = then_next _ e ∙ here-next _ (drop parts_at s) parts_at ∙ then_next _ f ∙ then-fault _ g

      module _ (parts : List MarkedPart) (b : ℕ) (g : repeats N (marked_part front.channels front.count) (drop a s) a
          ≡ got_at s parts b) where
        sections-last : marked_sections form s 0
            ≡ and_then (end (drop b s) b) (λ _. give (record { front = front; parts_at = parts_at; count = N; parts = parts }))
        unfolding marked_sections ◌>>=◌ ◌>>◌
        sections-last = then_next _ e ∙ here-next _ (drop parts_at s) parts_at ∙ then_next _ f ∙ then_next _ g

        pub bytes-follow : (t : List ℕ) (x : ℕ) → drop b s ≡ x ∷ t → marked_sections form s 0 ≡ refused bytes_follow b
        unfolding end and_then
        bytes-follow t x h =
            sections-last
            ∙ ap (λ l. and_then (end l b) (λ _. give (record { front = front; parts_at = parts_at; count = N; parts = parts }))) h

        pub sections-end : drop b s ≡ []
            → marked_sections form s 0
            ≡ accepted (record { value = record { front = front; parts_at = parts_at; count = N; parts = parts }; rest = []; at = b })
        unfolding end and_then give
        sections-end h =
            sections-last
            ∙ ap (λ l. and_then (end l b) (λ _. give (record { front = front; parts_at = parts_at; count = N; parts = parts }))) h

-- the counts and offsets of a deck that was read, which the code holds as R, M and logicAt
pub same-deck : {R M rules_at : ℕ} (front : MarkedFront) (N parts_at : ℕ) → R ≡ front.channels → M ≡ front.count → rules_at ≡ front.rules_at
    → deck_of R M N rules_at parts_at ≡ deck_of front.channels front.count N front.rules_at parts_at
same-deck {R} {M} {rules_at} front N parts_at e f g =
    ap₂ (λ x y. deck_of x y N rules_at parts_at) e f ∙ ap (λ x. deck_of front.channels front.count N x parts_at) g

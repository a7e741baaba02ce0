-- The rows of parts of listed tokens: what is written before and after a mark is what the parts' own lists tell.
use mathlib.Core.Path.{◌≡◌, sym, ap, subst, ◌∙◌}
use mathlib.Core.Bool.{true}
use mathlib.Core.List.{List, [], ◌∷◌}
use mathlib.Core.Option.{Option}
use Prim.Native.Nat.{ℕ, ◌+◌, ◌*◌, ◌≤◌, ◌<◌}
use lib.IntN.{ℤ, pos}
use lib.ListN.{length, set, take}
use Rattle.meaning.specs.Basics.{is_some}
use Rattle.base_top_down.specs.Forms.{absent, number, form_size}
use Rattle.grammar.specs.Grammar.{Token}
use Rattle.read_tokens.specs.Held.{tokens_resolved}
use Rattle.read_classes.specs.Parts.{Parting, part_at_mark, parted_there}
use Rattle.read_layout.specs.Layout.{link_to}
use Rattle.read_expressions.specs.Overlay.{overlay}
use Rattle.read_expressions.specs.Expressions.{expression_in, end_of, with_rows, Writable}
use Rattle.read_parts.specs.PartForms.{with_form, FormFits, Laid, exchange_form, while_form, event_form, guarded_form, Exchanges, EventWritable, GuardedRead}
use Rattle.read_parts.proofs.TokenParts.{behind, tokens-before, tokens-after}
use Rattle.read_parts.proofs.FormSteps.{first_fits, second_fits, amend-fits, exchange-laid, while-fits, while-end, while-room, while-laid}
use Rattle.read_parts.proofs.MarkSteps.{condition-fits, event-fits, middle-few, guarded-room, guarded-laid}

module _ (ss : List ℕ) (vs : List ℤ) (l : length ss ≡ length vs) (m n : ℕ) (rows : List ℤ) where
  abbrev P : Parting
  P = parted_there (tokens_resolved ss vs) m

  abbrev before : List (Option Token)
  before = tokens_resolved (take m ss) (take m vs)

  abbrev after : List (Option Token)
  after = tokens_resolved (behind ss m) (behind vs m)

  module _ (i : ℕ) (r : ℕ) (lent out : List ℤ) where
    ends-before : r ≡ end_of before i → r ≡ end_of P.before i
    ends-before e = e ∙ ap (λ (os : List (Option Token)). end_of os i) (tokens-before ss vs l m)

    ends-after : r ≡ end_of after i → r ≡ end_of P.after i
    ends-after e = e ∙ ap (λ (os : List (Option Token)). end_of os i) (tokens-after ss vs l m)

    rows_before : out ≡ with_rows before i lent → out ≡ with_rows P.before i lent
    rows_before e = e ∙ ap (λ (os : List (Option Token)). with_rows os i lent) (tokens-before ss vs l m)

    rows-after : out ≡ with_rows after i lent → out ≡ with_rows P.after i lent
    rows-after e = e ∙ ap (λ (os : List (Option Token)). with_rows os i lent) (tokens-after ss vs l m)

  -- An element before a mark and an expression after it -------------------------------------------------------------------------------

  module _ (k : ℕ) (x : Exchanges P) (f : FormFits (exchange_form k P) n rows) where
    pub first-asked : Writable before n rows
    first-asked = subst (λ (os : List (Option Token)). Writable os n rows) (sym (tokens-before ss vs l m)) (first_fits k P n rows x f)

    module _ (r : ℕ) (one : List ℤ) (er : r ≡ end_of before n) (e1 : one ≡ with_rows before n rows) where
      pub second-asked : Writable after r one
      second-asked = subst (λ (os : List (Option Token)). Writable os r one) (sym (tokens-after ss vs l m)) (second_fits k P n rows x f r one (ends-before n r rows one er) (rows_before n r rows one e1))

      module _ (q : ℕ) (two : List ℤ) (eq : q ≡ end_of after r) (e2 : two ≡ with_rows after r one) where
        pub amend-asked : (r ≤ 1024) × (4 * n + 4 ≤ length two) × (n < 1024)
        amend-asked = amend-fits k P n rows x f r one (ends-before n r rows one er) (rows_before n r rows one e1) q two (ends-after r q one two eq) (rows-after r q one two e2)

        pub exchange-done : (q ≡ n + form_size (exchange_form k P)) × (set (set two (4 * n) (pos k)) (4 * n + 3) (pos r) ≡ with_form (exchange_form k P) n rows)
        exchange-done = exchange-laid k P n rows x f r one (ends-before n r rows one er) (rows_before n r rows one e1) q two (ends-after r q one two eq) (rows-after r q one two e2)

  -- WHILE -----------------------------------------------------------------------------------------------------------------------------

  module _ (x : is_some (expression_in P.after) ≡ true) (f : FormFits (while_form P absent) n rows) where
    pub while-asked : Writable after (n + 1) rows
    while-asked = subst (λ (os : List (Option Token)). Writable os (n + 1) rows) (sym (tokens-after ss vs l m)) (while-fits P n rows x f)

    module _ (r : ℕ) (one : List ℤ) (er : r ≡ end_of after (n + 1)) (e1 : one ≡ with_rows after (n + 1) rows) where
      pub while-asked-row : (r ≤ 2048) × (n < 1024) × (4 * n + 4 ≤ length one)
      while-asked-row = while-room P n rows x f r one (ends-after (n + 1) r rows one er) (rows-after (n + 1) r rows one e1)

      pub while-done : (b : ℕ) (out : List ℤ) → out ≡ overlay one (4 * n) (pos 33 ∷ pos (n + 1) ∷ link_to b r ∷ pos 0 ∷ []) → Laid (while_form P) n b r rows out
      while-done b out e =
          let er' = ends-after (n + 1) r rows one er in
          let end = while-end P n rows x f r one er' (rows-after (n + 1) r rows one e1) in
          (end, while-laid P n rows x f r one er' (rows-after (n + 1) r rows one e1) (link_to b r) out e ∙ ap (λ (i : ℕ). with_form (while_form P (number (link_to b i))) n rows) end)

  -- An expression and what is waited for ----------------------------------------------------------------------------------------------

  module _ (x : GuardedRead P) (f : FormFits (guarded_form P) n rows) where
    pub condition-asked : Writable before (n + 1) rows
    condition-asked = subst (λ (os : List (Option Token)). Writable os (n + 1) rows) (sym (tokens-before ss vs l m)) (condition-fits P n rows x f)

    module _ (r : ℕ) (one : List ℤ) (er : r ≡ end_of before (n + 1)) (e1 : one ≡ with_rows before (n + 1) rows) where
      pub event-asked : EventWritable (part_at_mark after) r one
      event-asked =
          subst (λ (os : List (Option Token)). EventWritable (part_at_mark os) r one) (sym (tokens-after ss vs l m))
          (x.1, event-fits P n rows x f r one (ends-before (n + 1) r rows one er) (rows_before (n + 1) r rows one e1))

      pub condition-few : r ≤ 1024
      condition-few = middle-few P n rows x f r one (ends-before (n + 1) r rows one er) (rows_before (n + 1) r rows one e1)

      module _ (two : List ℤ) (e2 : two ≡ with_form (event_form (part_at_mark after)) r one) where
        event-laid : two ≡ with_form (event_form (part_at_mark P.after)) r one
        event-laid = e2 ∙ ap (λ (os : List (Option Token)). with_form (event_form (part_at_mark os)) r one) (tokens-after ss vs l m)

        pub guarded-asked-row : (n < 1024) × (4 * n + 4 ≤ length two)
        guarded-asked-row = guarded-room P n rows x f r one (ends-before (n + 1) r rows one er) (rows_before (n + 1) r rows one e1) two event-laid

        pub guarded-done : (out : List ℤ) → out ≡ overlay two (4 * n) (pos 43 ∷ pos (n + 1) ∷ pos r ∷ pos 0 ∷ []) → out ≡ with_form (guarded_form P) n rows
        guarded-done out e = guarded-laid P n rows x f r one (ends-before (n + 1) r rows one er) (rows_before (n + 1) r rows one e1) two event-laid out e

-- What an output passes, by its rule and as `passed` computes it.
use mathlib.Core.Path.{◌≡◌, refl, sym, ap, ◌∙◌, subst}
use mathlib.Core.Option.{none, some, none-ne-some}
use mathlib.Core.List.{List}
use Prim.Native.Nat.{ℕ}
use lib.IntN.{ℤ}
use lib.ListN.{get_or}
use native.Mathlib.Omega.{arith}
use Rattle.meaning.specs.declared.Value.{Value}
use Rattle.meaning.specs.declared.Value.TheVariants.{Number, Missing}
use Rattle.meaning.specs.declared.Index.{Index}
use Rattle.meaning.specs.declared.Index.TheVariants.{At, Fails}
use Rattle.meaning.specs.Tree.{Expr, literal, element, monadic, given, dyadic, no_expr}
use Rattle.meaning.specs.Values.{Message, cell_value, read_cell, value, index, Sent, gives, lacking, cell_sent, value_sent, passed}
use Rattle.meaning.specs.Step.{Passes, passes-value, passes-absence}

-- a value's number, and whether an index is there
abbrev number_in : Value → Message
number_in (Number x) = some x
number_in (Missing k) = none

abbrev is_at : Index → ℕ
is_at (At i) = 1
is_at (Fails k) = 0

module _ (cells : List Message) where
  -- what an expression that passes an absence is
  abbrev AbsenceFrom : Expr → Type 0
  AbsenceFrom (literal x) = ⊥
  AbsenceFrom (element v e) = (a : ℕ) × (index cells v.first v.size e ≡ At a) × (get_or cells a none ≡ none)
  AbsenceFrom (monadic op e) = ⊥
  AbsenceFrom (given v e) = ⊥
  AbsenceFrom (dyadic op e f) = ⊥
  AbsenceFrom no_expr = ⊥

  absence-from : {f : Expr} {m : Message} → Passes cells f m → m ≡ none → AbsenceFrom f
  absence-from (passes-value {z} p) q = absurd (none-ne-some z (sym q))
  absence-from (passes-absence {a} p q) r = (a, p, q)

  -- what a message or a reason says of what is passed
  abbrev Says : Expr → Sent → Type 0
  Says f (gives m) = Passes cells f m
  Says f (lacking k) = (value cells f ≡ Missing k) × ¬ Passes cells f none

  value-says : (f : Expr) → (Passes cells f none → ⊥) → (v : Value) → value cells f ≡ v → Says f (value_sent v)
  value-says f never (Number x) e = passes-value e
  value-says f never (Missing k) e = (e, never)

  passed-says : (f : Expr) → Says f (passed cells f)
  unfolding passed value index
  passed-says (literal x) = value-says (literal x) (λ h. absence-from h refl) (value cells (literal x)) refl
  passed-says (element v e) = go (index cells v.first v.size e) refl
    where
      cell : (a : ℕ) (m : Message) → index cells v.first v.size e ≡ At a → get_or cells a none ≡ m → Passes cells (element v e) m
      cell a none p q = passes-absence p q
      cell a (some z) p q = passes-value (ap (read_cell cells) p ∙ ap cell_value q)

      go : (i : Index) → index cells v.first v.size e ≡ i → Says (element v e) (cell_sent cells i)
      go (At a) p = cell a (get_or cells a none) p refl
      go (Fails k) p = (ap (read_cell cells) p, λ h. let (a, q, r) = absence-from h refl in let z = ap is_at (sym p ∙ q) in omega arith)
  passed-says (monadic op e) = value-says (monadic op e) (λ h. absence-from h refl) (value cells (monadic op e)) refl
  passed-says (given v e) = value-says (given v e) (λ h. absence-from h refl) (value cells (given v e)) refl
  passed-says (dyadic op e f) = value-says (dyadic op e f) (λ h. absence-from h refl) (value cells (dyadic op e f)) refl
  passed-says no_expr = value-says no_expr (λ h. absence-from h refl) (value cells no_expr) refl

  -- an expression passes one message
  same-message : {f : Expr} {m n : Message} → Passes cells f m → Passes cells f n → m ≡ n
  unfolding value index
  same-message (passes-value {z} p) (passes-value {z = y} q) = ap number_in (sym p ∙ q)
  same-message (passes-value {z} p) (passes-absence {a} q r) = ap number_in (sym p ∙ (ap (read_cell cells) q ∙ ap cell_value r))
  same-message (passes-absence {a} q r) (passes-value {z} p) = ap number_in ((sym (ap cell_value r) ∙ sym (ap (read_cell cells) q)) ∙ p)
  same-message (passes-absence p q) (passes-absence r s) = refl

  -- what is passed is what the rule says: a message
  pub passed-passes : (f : Expr) (m : Message) → passed cells f ≡ gives m → Passes cells f m
  passed-passes f m e = subst (Says f) e (passed-says f)

  pub passes-passed : (f : Expr) (m : Message) → Passes cells f m → passed cells f ≡ gives m
  passes-passed f m h = go (passed cells f) (passed-says f)
    where
      lacks-none : (k : ℕ) (n : Message) → value cells f ≡ Missing k → ¬ Passes cells f none → Passes cells f n → lacking k ≡ gives m
      lacks-none k none e never p = absurd (never p)
      lacks-none k (some z) e never p = absurd (never (subst (Passes cells f) (both z p) p))
        where
          both-of : {g : Expr} {m : Message} → value cells g ≡ Missing k → Passes cells g m → m ≡ none
          both-of i (passes-value q) = ap number_in (sym q ∙ i)
          both-of i (passes-absence q r) = refl

          both : (z : ℤ) → Passes cells f (some z) → some z ≡ none
          both z p = both-of e p

      go : (s : Sent) → Says f s → s ≡ gives m
      go (gives n) p = ap gives (same-message p h)
      go (lacking k) (e, never) = lacks-none k m e never h

  -- or a reason for none
  pub passed-lacks : (f : Expr) (k : ℕ) → passed cells f ≡ lacking k → (value cells f ≡ Missing k) × ¬ Passes cells f none
  passed-lacks f k e = subst (Says f) e (passed-says f)

  pub lacks-passed : (f : Expr) (k : ℕ) → value cells f ≡ Missing k → ¬ Passes cells f none → passed cells f ≡ lacking k
  lacks-passed f k e never = go (passed cells f) (passed-says f)
    where
      reason : Value → ℕ
      reason (Number x) = 0
      reason (Missing j) = j

      given-of : {g : Expr} {m : Message} → value cells g ≡ Missing k → Passes cells g m → none ≡ m
      given-of i (passes-value q) = ap number_in (sym i ∙ q)
      given-of i (passes-absence q r) = refl

      none-given : (m : Message) → Passes cells f m → ⊥
      none-given none p = never p
      none-given (some z) p = none-ne-some z (given-of e p)

      go : (s : Sent) → Says f s → s ≡ lacking k
      go (gives m) p = absurd (none-given m p)
      go (lacking j) (d, n) = ap lacking (ap reason (sym d ∙ e))

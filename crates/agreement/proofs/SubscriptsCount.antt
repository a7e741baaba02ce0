-- What a subscript counts for, by the machine's evaluation of it; and every clash by the rule of constants is one by document 01's rule of literals.
use mathlib.Core.Path.{◌≡◌, sym, ◌∙◌, subst}
use mathlib.Core.Logic.{⊎_elim, inl, inr}
use mathlib.Core.List.Memᴰ
use mathlib.Core.List.{List}
use Prim.Native.Nat.{ℕ, ◌<◌}
use native.Mathlib.Decide.{ℕ_discrete}
use native.Mathlib.Omega.{arith}
use lib.IntN.{ℤ, pos}
use Rattle.meaning.specs.declared.Node.TheVariants.{Literal, Monadic, Dyadic}
use Rattle.meaning.specs.declared.Value.TheVariants.{Number}
use Rattle.meaning.specs.Rows.{field_at, kind_at}
use Rattle.meaning.specs.Nodes.{node_at}
use Rattle.meaning.specs.Tree.{content_at}
use Rattle.meaning.specs.Values.{value}
use Rattle.meaning.specs.Clash.{Constant, HasValue, literal-value, monadic-value, dyadic-value, and-false, or-true, Counts, its-value, every-number, Changes, changed-by-assignment, changed-by-input, Stands, stands, Inputs, input-row, Outputs, output_row, Clash, cell-clash, input-clash, output-clash}
use Rattle.meaning.proofs.Decides.{is_true}
use Rattle.agreement.specs.SubscriptClaims.{SubscriptsCount, LiteralCounts, literal-only, not-literal, LiteralClash, AcceptedStill}
use Rattle.agreement.proofs.Footprint.{index-counts}
use Rattle.agreement.proofs.UsageRows.{node-of-kind}
use Rattle.agreement.proofs.UsageConstants.{number_same, number-not-missing, made_of, value_of, has_value, constant-decides}
use Rattle.agreement.proofs.UsageNumbers.{counts-below, counts-is}
use Rattle.agreement.proofs.VerdictExact.{verdict-exact}

pub subscripts-count : SubscriptsCount
subscripts-count rows passed b l m n cells =
    record {
      by_value = λ c x v i. (only c x v i, λ h. its-value c (subst (HasValue rows b) h.0 (had c x v)) h.1);
      without-value = λ c k v i. (counts-below rows, every-number (λ x d w. number-not-missing (sym (value_of rows passed cells l w) ∙ v)));
      any-other = λ f i. (counts-below rows, every-number (λ x c w. f c));
      meant = λ i h. let (j, e, c) = (counts-is rows passed i 0 n b l m).0 (index-counts cells 0 n (content_at rows b).expr i h) in let q : j ≡ i = omega (arith, e) in subst (Counts rows n b) q c;
    }
  where
    had : Constant rows b → (x : ℤ) → value cells (content_at rows b).expr ≡ Number x → HasValue rows b x
    had c = has_value rows passed cells b l m (is_true (constant-decides rows passed b l m) c)

    only : Constant rows b → (x : ℤ) → value cells (content_at rows b).expr ≡ Number x → (i : ℕ) → Counts rows n b i → (x ≡ pos i) × (i < n)
    only c x v i (its-value d w k) = (number_same (sym v ∙ value_of rows passed cells l w), k)
    only c x v i (every-number f k) = absurd (f x c (had c x v))

-- Document 01's rule -----------------------------------------------------------------------------------------------------------------

literal-same : {x y : ℤ} → Literal x ≡ Literal y → x ≡ y
literal-same e = cc

not-monadic : {A : Type 0} {x : ℤ} {op c : ℕ} → Literal x ≡ Monadic op c → A
not-monadic e = let z : ◌≡◌ {A = ℕ} 0 1 = cc in absurd (omega arith)

not-dyadic : {A : Type 0} {x : ℤ} {op c d : ℕ} → Literal x ≡ Dyadic op c d → A
not-dyadic e = let z : ◌≡◌ {A = ℕ} 0 1 = cc in absurd (omega arith)

module _ (rows : List ℤ) where
  -- a literal is a constant, and its value is its number
  literal-constant : (b : ℕ) → kind_at rows b ≡ 10 → Constant rows b
  literal-constant b k = made_of rows b _ (node-of-kind rows b 10 k) (Memᴰ.head k) (λ c m. absurd (Memᴰ.not-nil m))

  literal-number : {b : ℕ} {x y : ℤ} → node_at rows b ≡ Literal y → HasValue rows b x → y ≡ x
  literal-number e (literal-value f) = literal-same (sym e ∙ f)
  literal-number e (monadic-value f h k) = not-monadic (sym e ∙ f)
  literal-number e (dyadic-value f h g k) = not-dyadic (sym e ∙ f)
  literal-number e (and-false f h) = not-dyadic (sym e ∙ f)
  literal-number e (or-true f h k) = not-dyadic (sym e ∙ f)

  -- a subscript counts for nothing else than by that rule
  counts-by-literal : (n b i : ℕ) → Counts rows n b i → LiteralCounts rows n b i
  counts-by-literal n b i h = go (ℕ_discrete (kind_at rows b) 10) h
    where
      go : Dec (kind_at rows b ≡ 10) → Counts rows n b i → LiteralCounts rows n b i
      go (yes k) (its-value c v l) = literal-only k (literal-number (node-of-kind rows b 10 k) v) l
      go (yes k) (every-number f l) = absurd (f (field_at rows b 1) (literal-constant b k) (literal-value (node-of-kind rows b 10 k)))
      go (no k) (its-value c v l) = not-literal k l
      go (no k) (every-number f l) = not-literal k l

  changes-by-literal : {r v i : ℕ} → Changes rows (Counts rows) r v i → Changes rows (LiteralCounts rows) r v i
  changes-by-literal (changed-by-assignment e c) = changed-by-assignment e (counts-by-literal _ _ _ c)
  changes-by-literal (changed-by-input e f c) = changed-by-input e f (counts-by-literal _ _ _ c)

  stands-by-literal : {r v i : ℕ} → Stands rows (Counts rows) r v i → Stands rows (LiteralCounts rows) r v i
  stands-by-literal (stands e c) = stands e (counts-by-literal _ _ _ c)

  inputs-by-literal : {r c i : ℕ} → Inputs rows (Counts rows) r c i → Inputs rows (LiteralCounts rows) r c i
  inputs-by-literal (input-row e c) = input-row e (counts-by-literal _ _ _ c)

  outputs-by-literal : {r c i : ℕ} → Outputs rows (Counts rows) r c i → Outputs rows (LiteralCounts rows) r c i
  outputs-by-literal (output_row e c) = output_row e (counts-by-literal _ _ _ c)

  clash-by-literal : {r k : ℕ} → Clash rows r k → LiteralClash rows r k
  clash-by-literal (cell-clash c a u) =
      cell-clash c (a.0, a.1, changes-by-literal a.2) (⊎_elim (λ d. inl (d.0, d.1, changes-by-literal d.2)) (λ s. inr (s.0, s.1, stands-by-literal s.2)) u)
  clash-by-literal (input-clash c a u) = input-clash c (a.0, a.1, inputs-by-literal a.2) (u.0, u.1, inputs-by-literal u.2)
  clash-by-literal (output-clash c a u) = output-clash c (a.0, a.1, outputs-by-literal a.2) (u.0, u.1, outputs-by-literal u.2)

pub accepted-still : AcceptedStill
accepted-still rows (w, f, p, l, b, h) = (verdict-exact rows).1 (w, f, p, l, b, λ r k c. h r k (clash-by-literal rows c))

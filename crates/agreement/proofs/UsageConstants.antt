-- Of a table that the stages 3 to 6 pass: a subscript is "made only of literals and operators" exactly if every row of it is a literal or an operator, and
-- then the machine's evaluation gives it, whatever the cells hold, the value that its literals and operators give.
use mathlib.Core.Path.{◌≡◌, refl, sym, ap, ◌∙◌, subst}
use mathlib.Core.Logic.{◌⊎◌, inl, inr, ⊎_elim, ◌≢◌}
use mathlib.Core.Bool.{Bool, true, false, false≢true}
use mathlib.Core.List.Memᴰ
use mathlib.Core.List.{List, [], ◌∷◌, Memᴰ}
use Prim.Native.Nat.{ℕ, zero, suc, ◌+◌, ◌≤◌, ◌<◌}
use native.Mathlib.Omega.{arith}
use lib.IntN.{ℤ, pos}
use lib.Dec.{eqb}
use borrow.Author.Tests.{eqb-true}
use Rattle.meaning.specs.declared.Node.{Node}
use Rattle.meaning.specs.declared.Node.TheVariants.{Literal, Element, Monadic, Dyadic}
use Rattle.meaning.specs.declared.Value.{Value}
use Rattle.meaning.specs.declared.Value.TheVariants.{Number, Missing}
use Rattle.meaning.specs.Basics.{if_else}
use Rattle.meaning.specs.Rows.{row_count, field_at, natural_at, kind_at}
use Rattle.meaning.specs.Kinds.{expressions}
use Rattle.meaning.specs.Nodes.{node_at}
use Rattle.meaning.specs.References.{Beneath, direct}
use Rattle.meaning.specs.Tree.{Expr, monadic, given, dyadic, Content, operation, content_of, content_at}
use Rattle.meaning.specs.Values.{Message, monadic_of, operate, decides, value}
use Rattle.meaning.specs.Usage.{constant}
use Rattle.meaning.specs.Clash.{Constant, HasValue, literal-value, monadic-value, dyadic-value, and-false, or-true}
use Rattle.meaning.proofs.Decides.{Decides, holding, failing, decides_and, decides-iff, both_true}
use Rattle.meaning.proofs.BlockLaws.{beneath-first, first-beneath}
use Rattle.agreement.specs.ValueClaims.{FirstDecides}
use Rattle.agreement.specs.VerdictClaims.{Passed}
use Rattle.agreement.proofs.Decided as settling
use Rattle.agreement.proofs.OperandsInTurn.{settles-decides, operands-in-turn}
use Rattle.agreement.proofs.UsageRows.{node-of-kind}
use Rattle.agreement.proofs.UsageLists.{references, one, two, m0, m1}
use Rattle.agreement.proofs.UsageReferences.{refers-listed, listed-refers}
use Rattle.agreement.proofs.UsageParts.{of-each, fits_by, content-by}

-- a value is one number, or none
pub number_same : {x y : ℤ} → Number x ≡ Number y → x ≡ y
number_same e = cc

pub number-not-missing : {x : ℤ} {k : ℕ} → Number x ≡ Missing k → ⊥
number-not-missing e = let z : ◌≡◌ {A = ℕ} 0 1 = cc in omega arith

-- what holds of a row of the table where it holds of all higher ones holds of each
upward : (rows : List ℤ) (P : ℕ → Type 0) → ((b : ℕ) → ((c : ℕ) → b < c → b < row_count rows → P c) → P b) → (b : ℕ) → P b
upward rows P f b = go (row_count rows) b (omega arith)
  where
    go : (n b : ℕ) → row_count rows ≤ b + n → P b
    go zero b l = f b (λ c h i. absurd (omega arith))
    go (suc n) b l = f b (λ c h i. go n c (omega arith))

module _ (rows : List ℤ) where
  -- a row of a literal or an operator; an element is none
  abbrev Plain : ℕ → Type 0
  Plain r = Memᴰ (kind_at rows r) (10 ∷ 12 ∷ 13 ∷ [])

  element-not-plain : (r : ℕ) → kind_at rows r ≡ 11 → ¬ Plain r
  element-not-plain r e m = of-each (λ k. kind_at rows r ≡ k → ⊥) (kind_at rows r) (10 ∷ 12 ∷ 13 ∷ []) m (λ f. omega arith, (λ f. omega arith, (λ f. omega arith, tt))) refl

  -- what is made only of literals and operators, by the row and what it refers to
  pub made_of : (b : ℕ) (x : Node) → node_at rows b ≡ x → Plain b → ((c : ℕ) → Memᴰ c (references x) → Constant rows c) → Constant rows b
  made_of b x e k f r (inl q) = subst Plain (sym q) k
  made_of b x e k f r (inr w) = let (u, p, g, h) = first-beneath rows w in f u (subst (λ (y : Node). Memᴰ u (references y)) e (refers-listed rows b u p g)) r h

module _ (rows : List ℤ) (passed : Passed rows) where
  abbrev expr_at : ℕ → Expr
  expr_at b = (content_at rows b).expr

  expr-is : (b : ℕ) (x : Node) → b < row_count rows → node_at rows b ≡ x → expr_at b ≡ (content_of rows b (content_at rows) x).expr
  expr-is b x l e = ap (λ (p : Content). p.expr) (content-by rows passed b x l e)

  -- an expression's row is one of four nodes
  by-node : {P : Type 0} (b : ℕ) → Memᴰ (kind_at rows b) expressions
      → (kind_at rows b ≡ 10 → node_at rows b ≡ Literal (field_at rows b 1) → P)
      → (kind_at rows b ≡ 11 → node_at rows b ≡ Element (natural_at rows b 1) (natural_at rows b 2) → P)
      → (kind_at rows b ≡ 12 → node_at rows b ≡ Monadic (natural_at rows b 1) (natural_at rows b 2) → P)
      → (kind_at rows b ≡ 13 → node_at rows b ≡ Dyadic (natural_at rows b 1) (natural_at rows b 2) (natural_at rows b 3) → P) → P
  by-node {P} b m f g h k =
      of-each (λ j. kind_at rows b ≡ j → P) (kind_at rows b) expressions m
      (λ e. f e (node-of-kind rows b 10 e), (λ e. g e (node-of-kind rows b 11 e), (λ e. h e (node-of-kind rows b 12 e), (λ e. k e (node-of-kind rows b 13 e), tt)))) refl

  -- Values -----------------------------------------------------------------------------------------------------------------------

  module _ (cells : List Message) where
    operation-value : (op : ℕ) (p : Content) (x y : ℤ) → value cells p.expr ≡ Number x → monadic_of op x ≡ Number y → value cells (operation op p) ≡ Number y
    unfolding monadic_of
    operation-value op p x y v k = go (eqb op 2) refl
      where
        go : (t : Bool) → eqb op 2 ≡ t → value cells (if_else t (given p.target.name p.target.subscript) (monadic op p.expr)) ≡ Number y
        go true q = absurd (number-not-missing (sym k ∙ ap (λ (o : ℕ). monadic_of o x) (eqb-true op 2 q)))
        go false q = (operands-in-turn cells op p.expr p.expr).operand-there x v ∙ k

    -- what literals and operators give is what the machine's evaluation gives
    pub value_of : {b : ℕ} {x : ℤ} → b < row_count rows → HasValue rows b x → value cells (expr_at b) ≡ Number x
    unfolding value
    value_of {b} {x} l (literal-value e) = ap (value cells) (expr-is b (Literal x) l e)
    value_of {b} l (monadic-value {op = op} {c = c} {x = x} {y = y} e h k) =
        ap (value cells) (expr-is b (Monadic op c) l e) ∙ operation-value op (content_at rows c) x y (value_of (fits_by rows passed b (Monadic op c) l e).0.1 h) k
    value_of {b} l (dyadic-value {op = op} {c = c} {d = d} {x = x} {y = y} e h g k) =
        let f = fits_by rows passed b (Dyadic op c d) l e in
        ap (value cells) (expr-is b (Dyadic op c d) l e) ∙ (operands-in-turn cells op (expr_at c) (expr_at d)).both-there x y (value_of f.0.1 h) (value_of f.1.1 g) ∙ k
    value_of {b} l (and-false {c = c} {d = d} e h) =
        let f = fits_by rows passed b (Dyadic 14 c d) l e in
        ap (value cells) (expr-is b (Dyadic 14 c d) l e) ∙ ((operands-in-turn cells 14 (expr_at c) (expr_at d)).settled-by-first (pos 0) (value_of f.0.1 h) (inl (refl, refl))).1 (λ n. n refl)
    value_of {b} l (or-true {c = c} {d = d} {x = x} e h n) =
        let f = fits_by rows passed b (Dyadic 15 c d) l e in
        ap (value cells) (expr-is b (Dyadic 15 c d) l e) ∙ ((operands-in-turn cells 15 (expr_at c) (expr_at d)).settled-by-first x (value_of f.0.1 h) (inr (refl, n))).0 n

    -- the operand of an operation with a value has one
    monadic-had : (op : ℕ) (e : Expr) (x : ℤ) → value cells (monadic op e) ≡ Number x → (y : ℤ) × (value cells e ≡ Number y) × (monadic_of op y ≡ Number x)
    monadic-had op e x v = go (value cells e) refl
      where
        go : (w : Value) → value cells e ≡ w → (y : ℤ) × (value cells e ≡ Number y) × (monadic_of op y ≡ Number x)
        go (Number y) q = (y, q, sym ((operands-in-turn cells op e e).operand-there y q) ∙ v)
        go (Missing k) q = absurd (number-not-missing (sym v ∙ (operands-in-turn cells op e e).operand-missing k q))

    -- of a dyadic with a value: the first operand has one and settles it, or both have one
    abbrev SettledBy : ℕ → ℤ → ℤ → Type 0
    SettledBy op x z = ((op ≡ 14) × (x ≡ pos 0) × (z ≡ pos 0)) ⊎ ((op ≡ 15) × (x ≢ pos 0) × (z ≡ pos 1))

    abbrev BothThere : ℕ → ℤ → Expr → ℤ → Type 0
    BothThere op x f z = (y : ℤ) × (value cells f ≡ Number y) × (operate op x y ≡ Number z)

    dyadic-had : (op : ℕ) (e f : Expr) (z : ℤ) → value cells (dyadic op e f) ≡ Number z → (x : ℤ) × (value cells e ≡ Number x) × (SettledBy op x z ⊎ BothThere op x f z)
    dyadic-had op e f z v = go (value cells e) refl
      where
        settled : (x : ℤ) → value cells e ≡ Number x → FirstDecides op x → SettledBy op x z
        settled x q (inl (o, i)) = inl (o, i, number_same (sym v ∙ ((operands-in-turn cells op e f).settled-by-first x q (inl (o, i))).1 (λ n. n i)))
        settled x q (inr (o, n)) = inr (o, n, number_same (sym v ∙ ((operands-in-turn cells op e f).settled-by-first x q (inr (o, n))).0 n))

        second : (x : ℤ) → value cells e ≡ Number x → ¬ FirstDecides op x → (w : Value) → value cells f ≡ w → BothThere op x f z
        second x q n (Number y) r = (y, r, sym ((operands-in-turn cells op e f).both-there x y q r) ∙ v)
        second x q n (Missing k) r = absurd (number-not-missing (sym v ∙ (operands-in-turn cells op e f).second-missing x k q n r))

        look : (x : ℤ) → value cells e ≡ Number x → (t : Bool) → settling.Decides t (FirstDecides op x) → SettledBy op x z ⊎ BothThere op x f z
        look x q true d = inl (settled x q (d.if-true refl))
        look x q false d = inr (second x q (d.if-false refl) (value cells f) refl)

        go : (w : Value) → value cells e ≡ w → (x : ℤ) × (value cells e ≡ Number x) × (SettledBy op x z ⊎ BothThere op x f z)
        go (Number x) q = (x, q, look x q (decides op x) (settles-decides op x))
        go (Missing k) q = absurd (number-not-missing (sym v ∙ (operands-in-turn cells op e f).first-missing k q))

    -- what the machine's evaluation gives a constant is what its literals and operators give
    abbrev Had : ℕ → Type 0
    Had b = b < row_count rows → Memᴰ (kind_at rows b) expressions → constant (expr_at b) ≡ true → (x : ℤ) → value cells (expr_at b) ≡ Number x → HasValue rows b x

    had-here : (b : ℕ) → ((c : ℕ) → b < c → b < row_count rows → Had c) → Had b
    unfolding constant value
    had-here b higher l m t x v = by-node b m of-literal (λ q e. absurd (false≢true (sym (ap constant (expr-is b (Element op c) l e)) ∙ t))) of-monadic of-dyadic
      where
        op : ℕ
        op = natural_at rows b 1

        c : ℕ
        c = natural_at rows b 2

        d : ℕ
        d = natural_at rows b 3

        of-literal : kind_at rows b ≡ 10 → node_at rows b ≡ Literal (field_at rows b 1) → HasValue rows b x
        of-literal j e = literal-value (e ∙ ap Literal (number_same (sym (ap (value cells) (expr-is b (Literal (field_at rows b 1)) l e)) ∙ v)))

        of-monadic : kind_at rows b ≡ 12 → node_at rows b ≡ Monadic op c → HasValue rows b x
        of-monadic j e = let q = expr-is b (Monadic op c) l e in go (eqb op 2) (sym (ap constant q) ∙ t) (sym (ap (value cells) q) ∙ v)
          where
            given-or : Bool → Expr
            given-or s = if_else s (given (content_at rows c).target.name (content_at rows c).target.subscript) (monadic op (expr_at c))

            go : (s : Bool) → constant (given-or s) ≡ true → value cells (given-or s) ≡ Number x → HasValue rows b x
            go true u w = absurd (false≢true u)
            go false u w =
                let f = (fits_by rows passed b (Monadic op c) l e).0 in
                let (y, g, k) = monadic-had op (expr_at c) x w in
                monadic-value e (higher c f.0 l f.1 f.2 u y g) k

        of-dyadic : kind_at rows b ≡ 13 → node_at rows b ≡ Dyadic op c d → HasValue rows b x
        of-dyadic j e =
            let q = expr-is b (Dyadic op c d) l e in
            go (both_true (constant (expr_at c)) (constant (expr_at d)) (sym (ap constant q) ∙ t)) (dyadic-had op (expr_at c) (expr_at d) x (sym (ap (value cells) q) ∙ v))
          where
            go : ((constant (expr_at c) ≡ true) × (constant (expr_at d) ≡ true)) → ((y : ℤ) × (value cells (expr_at c) ≡ Number y) × (SettledBy op y x ⊎ BothThere op y (expr_at d) x)) → HasValue rows b x
            go (u, w) (y, g, h) =
                let f = fits_by rows passed b (Dyadic op c d) l e in
                let k = higher c f.0.0 l f.0.1 f.0.2 u y g in
                ⊎_elim
                (λ s.
                ⊎_elim (λ z. subst (HasValue rows b) (sym z.2) (and-false (e ∙ ap (λ (o : ℕ). Dyadic o c d) z.0) (subst (HasValue rows c) z.1 k)))
                (λ z. subst (HasValue rows b) (sym z.2) (or-true (e ∙ ap (λ (o : ℕ). Dyadic o c d) z.0) k z.1)) s)
                (λ z. dyadic-value e k (higher d f.1.0 l f.1.1 f.1.2 w z.0 z.1) z.2) h

    pub has_value : (b : ℕ) → Had b
    has_value = upward rows Had had-here

  -- Literals and operators -------------------------------------------------------------------------------------------------------

  operand-made : (b c : ℕ) (x : Node) → b < row_count rows → node_at rows b ≡ x → Memᴰ c (references x) → c < row_count rows → Constant rows b → Constant rows c
  operand-made b c x l e m i k r w =
      let (p, f) = listed-refers rows passed b l c (subst (λ (y : Node). Memᴰ c (references y)) (sym e) m) i in
      k r (inr (⊎_elim (λ q. subst (Beneath rows b) (sym q) (direct p f)) (λ h. beneath-first rows p f h) w))

  abbrev Known : ℕ → Type 0
  Known b = b < row_count rows → Memᴰ (kind_at rows b) expressions → Decides (Constant rows b) (constant (expr_at b))

  known-here : (b : ℕ) → ((c : ℕ) → b < c → b < row_count rows → Known c) → Known b
  unfolding constant
  known-here b higher l m =
      by-node b m
      (λ k e. by (Literal (field_at rows b 1)) e (holding (made_of rows b _ e (Memᴰ.head k) (λ u h. absurd (Memᴰ.not-nil h)))))
      (λ k e. by (Element op c) e (failing (λ h. element-not-plain rows b k (h b (inl refl)))))
      (λ k e. by (Monadic op c) e (of-monadic k e (eqb op 2) refl))
      (λ k e.
      let f = fits_by rows passed b (Dyadic op c d) l e in
      by (Dyadic op c d) e
      (decides-iff (λ h. made_of rows b _ e (Memᴰ.tail (Memᴰ.tail (Memᴰ.head k))) (two (Constant rows) c d h.0 h.1))
      (λ h. (operand-made b c _ l e m0 f.0.1 h, operand-made b d _ l e m1 f.1.1 h))
      (decides_and (higher c f.0.0 l f.0.1 f.0.2) (higher d f.1.0 l f.1.1 f.1.2))))
    where
      op : ℕ
      op = natural_at rows b 1

      c : ℕ
      c = natural_at rows b 2

      d : ℕ
      d = natural_at rows b 3

      by : (x : Node) → node_at rows b ≡ x → Decides (Constant rows b) (constant (content_of rows b (content_at rows) x).expr) → Decides (Constant rows b) (constant (expr_at b))
      by x e h = subst (Decides (Constant rows b)) (sym (ap constant (expr-is b x l e))) h

      of-monadic : kind_at rows b ≡ 12 → node_at rows b ≡ Monadic op c → (t : Bool) → eqb op 2 ≡ t
          → Decides (Constant rows b) (constant (if_else t (given (content_at rows c).target.name (content_at rows c).target.subscript) (monadic op (expr_at c))))
      of-monadic k e true q =
          let f = (fits_by rows passed b (Monadic op c) l e).1 (eqb-true op 2 q) in
          failing (λ h. element-not-plain rows c (Memᴰ.eq_of_singleton f.2) (operand-made b c _ l e m0 f.1 h c (inl refl)))
      of-monadic k e false q =
          let f = (fits_by rows passed b (Monadic op c) l e).0 in
          decides-iff (λ h. made_of rows b _ e (Memᴰ.tail (Memᴰ.head k)) (one (Constant rows) c h)) (operand-made b c _ l e m0 f.1) (higher c f.0 l f.1 f.2)

  pub constant-decides : (b : ℕ) → Known b
  constant-decides = upward rows Known known-here

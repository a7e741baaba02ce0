-- In an accepted table the cells of a block's variable are used beneath the block only, and two blocks have no cell in common.
use mathlib.Core.Path.{◌≡◌, refl, sym, ap, ◌∙◌, subst}
use mathlib.Core.Logic.{◌⊎◌, inl, inr, ⊎_elim, ◌≢◌}
use mathlib.Core.Option.{Option, none, some, some-injective}
use mathlib.Core.List.Memᴰ
use mathlib.Core.List.{List, [], ◌∷◌, Memᴰ}
use Prim.Native.Nat.{ℕ, ◌≤◌, ◌<◌}
use native.Mathlib.Omega.{arith}
use lib.IntN.{ℤ}
use lib.ListN.{length, get_or}
use Rattle.meaning.specs.Rows.{row_count, natural_at, kind_at}
use Rattle.meaning.specs.Kinds.{processes}
use Rattle.meaning.specs.Declarations.{Variable, no_variable, cells_at, variable_at}
use Rattle.meaning.specs.References.{Beneath, direct, further}
use Rattle.meaning.specs.Faults.{BlockOf, NamesIt, WellBlocked}
use Rattle.meaning.specs.Tree.{Action, block, Process, node, Processes, Content, content_at, action_of, processes_in, rows_beneath}
use Rattle.meaning.specs.Usage.{cells_of_variable, uses}
use Rattle.meaning.specs.State.{program, whole}
use Rattle.meaning.specs.Settle.{local_of}
use Rattle.meaning.proofs.AnswerLaws.{RightRows}
use Rattle.agreement.proofs.Frame.{Off}
use Rattle.agreement.proofs.Again.{Out}
use Rattle.agreement.proofs.Reach.{Sub}
use Rattle.agreement.proofs.TableReferences.{refers-up, once}
use Rattle.agreement.proofs.UsageParts.{of-each, part_by}
use Rattle.agreement.proofs.UsageNumbers.{Numbers, numbers-one, range-to}
use Rattle.agreement.proofs.UsageNames.{variable-first, variable-size}
use Rattle.agreement.proofs.TreeRows.{process-kind}
use Rattle.agreement.proofs.TreeBeneath.{process-low, process-high, beneath-rows}
use Rattle.agreement.proofs.TableWhole.{inside-stands, inside-placed, TreeRow, inside-row}
use Rattle.agreement.proofs.ActionRows.{OfAction, its-row, its-part, content-by, uses-named}

-- the variables of a process, if it is a block
abbrev locals_of : Option Process → List Variable
locals_of none = []
locals_of (some p) = local_of (action_of p)

module _ (rows : List ℤ) (A : RightRows rows) where
  -- row r is the only process of the tree among the rows of its action
  only_row : {r t : ℕ} → OfAction rows r t → TreeRow rows A t → t ≡ r
  only_row its-row h = refl
  only_row (its-part {s} {t} p o g (inl low)) h = absurd (let l = process-low rows A t h.1 in omega arith)
  only_row (its-part {s} {t} p o g (inr (inl high))) h = absurd (let l = process-high rows A t h.1 in omega arith)
  only_row (its-part p o g (inr (inr f))) h = absurd (h.2 f)

  row_below : {r t : ℕ} → r < row_count rows → OfAction rows r t → t < row_count rows
  row_below l its-row = l
  row_below l (its-part {s} {t} p o g q) = (refers-up rows A s t p g).1

  -- so a process of the tree above a row of the action is row r, or above it: each row is referred to once
  above-action : {r t : ℕ} (q : ℕ) → TreeRow rows A q → OfAction rows r t → Beneath rows q t → (q ≡ r) ⊎ Beneath rows q r
  above-action q h its-row b = inr b
  above-action {r} q h (its-part {s} {t} p o g i) (direct c f) =
      inl (only_row (subst (OfAction rows r) (sym (once rows A q s t c p f g).0) o) h)
  above-action q h (its-part {s} {t} p o g i) (further {s = u} c w f) =
      above-action q h o (subst (Beneath rows q) (once rows A u s t c p f g).0 w)

  -- the row of a block, its name and its variable
  module _ (v : Variable) (q : ℕ) (ms : Processes) (e : (content_at rows q).process ≡ some (node (block v) q ms)) where
    abbrev pub IsBlock : Type 0
    IsBlock = BlockOf rows (natural_at rows q 1) q × (v ≡ variable_at rows (natural_at rows q 1))

    pub block_row : IsBlock
    block_row = let (l, m) = process-kind rows A q (node (block v) q ms) e in of-each Of-kind (kind_at rows q) processes m
        (none_in 20 refl, (none_in 21 refl, (none_in 22 refl, (none_in 23 refl, (none_in 24 refl, (none_in 30 refl, (none_in 31 refl, (none_in 32 refl, (none_in 33 refl, (none_in 34 refl, (is l, tt)))))))))))
        refl l
      where
        Of-kind : ℕ → Type 0
        Of-kind k = kind_at rows q ≡ k → q < row_count rows → IsBlock

        locals : (k : ℕ) → kind_at rows q ≡ k → q < row_count rows → locals_of (part_by rows q k).process ≡ v ∷ []
        locals k f l = sym (ap (λ (x : Content). locals_of x.process) (content-by rows A q k l f)) ∙ ap locals_of e

        none_in : (k : ℕ) → locals_of (part_by rows q k).process ≡ [] → Of-kind k
        none_in k z f l = absurd (let j : 0 ≡ 1 = ap length (sym z ∙ locals k f l) in omega arith)

        is : q < row_count rows → Of-kind 35
        is j f l = ((l, f, refl), sym (ap (λ (vs : List Variable). get_or vs 0 no_variable) (locals 35 f l)))

  -- the cells of a declaration
  numbered : (d n : ℕ) → Memᴰ n (cells_of_variable (variable_at rows d)) → (i : ℕ) × Numbers (cells_at rows) n d i
  numbered d n m =
      let (i, e, l) = range-to n (variable_at rows d).first (variable_at rows d).size m in
      let s = variable-size rows d in
      (i, ⊎_elim (λ f. (omega arith, omega arith)) (λ z. absurd (omega arith)) (variable-first rows d))

  -- a block is the lowest of its name, for a second is refused; so a row that names it is beneath it
  lowest-block : (d q : ℕ) → BlockOf rows d q → (k : ℕ) → BlockOf rows d k → q ≤ k
  unfolding WellBlocked
  lowest-block d q b k c = ((A.4 q b.0).0 b.1).1 k (subst (λ (u : ℕ). BlockOf rows u k) (sym b.2) c)

  named-beneath : (d q t : ℕ) → BlockOf rows d q → t < row_count rows → NamesIt rows d t → Beneath rows q t
  unfolding WellBlocked
  named-beneath d q t b l h = (A.4 t l).1 d h q b (lowest-block d q b)

  -- an action outside a block uses none of its cells
  pub used-beneath : (v : Variable) (q : ℕ) (ms : Processes) → Sub (block v) q ms (whole (program rows)) → (k : Action) (r : ℕ) (ns : Processes) → Sub k r ns (whole (program rows))
      → Out r (rows_beneath ms) → Off (cells_of_variable v) (uses k)
  used-beneath v q ms h k r ns g out n m u =
      let e = inside-stands rows A (block v) q ms h in
      let f = inside-stands rows A k r ns g in
      let (b, z) = block_row v q ms e in
      let (i, a) = numbered (natural_at rows q 1) n (subst (λ (w : Variable). Memᴰ n (cells_of_variable w)) z m) in
      let (t, d, j, o, c, x) = uses-named rows A n r k ns f u in
      let y = (numbers-one (cells_at rows) n (natural_at rows q 1) i d j a x).0 in
      let w = named-beneath (natural_at rows q 1) q t b (row_below (inside-row rows A k r ns g).0 o) (subst (λ (p : ℕ). NamesIt rows p t) (sym y) c) in
      ⊎_elim (itself e f) beneath (above-action q (inside-row rows A (block v) q ms h) o w)
    where
      itself : (content_at rows q).process ≡ some (node (block v) q ms) → (content_at rows r).process ≡ some (node k r ns) → q ≡ r → ⊥
      itself e f i =
          let j : some (node (block v) q ms) ≡ some (node k r ns) = sym e ∙ ap (λ (x : ℕ). (content_at rows x).process) i ∙ f in
          let a : block v ≡ k = ap action_of (some-injective (node (block v) q ms) (node k r ns) j) in
          Memᴰ.not-nil (subst (λ (x : Action). Memᴰ n (uses x)) (sym a) u)

      beneath : Beneath rows q r → ⊥
      beneath w =
          let (l, i, free) = inside-row rows A (block v) q ms h in
          let (l', i', free') = inside-row rows A k r ns g in
          out (subst (λ (p : Process). Memᴰ r (rows_beneath (processes_in p))) (inside-placed rows A (block v) q ms h) ((beneath-rows rows A q l i r).1 (w, i', free')))

  -- two blocks have no cell in common
  pub blocks-apart : (v : Variable) (q : ℕ) (ms : Processes) → Sub (block v) q ms (whole (program rows)) → (w : Variable) (p : ℕ) (ns : Processes) → Sub (block w) p ns (whole (program rows))
      → q ≢ p → Off (cells_of_variable v) (cells_of_variable w)
  blocks-apart v q ms h w p ns g ne n m u =
      let (b, z) = block_row v q ms (inside-stands rows A (block v) q ms h) in
      let (c, y) = block_row w p ns (inside-stands rows A (block w) p ns g) in
      let (i, a) = numbered (natural_at rows q 1) n (subst (λ (x : Variable). Memᴰ n (cells_of_variable x)) z m) in
      let (j, x) = numbered (natural_at rows p 1) n (subst (λ (x : Variable). Memᴰ n (cells_of_variable x)) y u) in
      let e = (numbers-one (cells_at rows) n (natural_at rows q 1) i (natural_at rows p 1) j a x).0 in
      let to = lowest-block (natural_at rows q 1) q b p (subst (λ (d : ℕ). BlockOf rows d p) (sym e) c) in
      let back = lowest-block (natural_at rows p 1) p c q (subst (λ (d : ℕ). BlockOf rows d q) e b) in
      ne (omega arith)

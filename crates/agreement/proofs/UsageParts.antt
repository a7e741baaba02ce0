-- What stands at a row whose references lead to higher rows: it follows from what stands at those, and by the row's kind.
use mathlib.Core.Path.{◌≡◌, refl, sym, ap, ◌∙◌, subst}
use mathlib.Core.Logic.{⊎_elim}
use mathlib.Core.Bool.{Bool}
use mathlib.Core.List.Memᴰ
use mathlib.Core.List.{List, [], ◌∷◌, Memᴰ}
use mathlib.Core.Option.{some}
use Prim.Native.Nat.{ℕ, ◌<◌}
use lib.IntN.{ℤ}
use borrow.Author.Tests.{lt-ltb}
use Rattle.meaning.specs.declared.Node.{Node}
use Rattle.meaning.specs.declared.Node.TheVariants.{Literal, Element, Monadic, Dyadic, Stop, Skip, Assignment, Input, Output, Seq, Par, If, While, Alt, Block, Member, Choice, OptionRow, Guard, Other}
use Rattle.meaning.specs.Basics.{if_else}
use Rattle.meaning.specs.Rows.{row_count, field_at, natural_at, kind_at}
use Rattle.meaning.specs.Declarations.{variable_at, source_at, sink_at}
use Rattle.meaning.specs.Nodes.{node_at}
use Rattle.meaning.specs.Tree.{dyadic, sequence, parallel, assign, input, output, conditional, loop, alternation, block, node, empty, ChannelInput, Content, no_content, and_process, of_expr, of_element, of_process, of_guarded, of_guard_row, of_link, operation, content_of, content_at}
use Rattle.meaning.specs.ContentClaims.{higher_content}
use Rattle.meaning.proofs.PartLaws.{part-unfolds}
use Rattle.agreement.proofs.UsageRows.{node_of, node-of-kind, Fits}
use Rattle.agreement.specs.VerdictClaims.{Passed}
use Rattle.agreement.proofs.UsageLists.{references, one, two, three, m0, m1, m2}
use Rattle.agreement.proofs.UsageReferences.{passed-fits}

-- something of each number of a list
abbrev pub OfEach : (ℕ → Type 0) → List ℕ → Type 0
OfEach P [] = Unit {0}
OfEach P (k ∷ ks) = P k × OfEach P ks

pub of-each : (P : ℕ → Type 0) (k : ℕ) (ks : List ℕ) → Memᴰ k ks → OfEach P ks → P k
of-each P k [] m h = absurd (Memᴰ.not-nil m)
of-each P k (j ∷ ks) m h = ⊎_elim (λ e. subst P (sym e) h.0) (λ i. of-each P k ks i h.1) (Memᴰ.cases_cons m)

module _ (rows : List ℤ) where
  -- parts at higher rows that agree on a row's references give one part
  part-agree : (r : ℕ) (f g : ℕ → Content) (x : Node) → ((c : ℕ) → Memᴰ c (references x) → f c ≡ g c) → content_of rows r f x ≡ content_of rows r g x
  part-agree r f g (Literal x) h = refl
  part-agree r f g (Element a b) h = λ i. of_element (variable_at rows a) (h b m0 i).expr
  part-agree r f g (Monadic a b) h = λ i. of_expr (operation a (h b m0 i))
  part-agree r f g (Dyadic a b c) h = λ i. of_expr (dyadic a (h b m0 i).expr (h c m1 i).expr)
  part-agree r f g Stop h = refl
  part-agree r f g Skip h = refl
  part-agree r f g (Assignment a b c) h = λ i. of_process (node (assign (variable_at rows a) (h b m0 i).expr (h c m1 i).expr) r empty)
  part-agree r f g (Input a b c) h =
      ap (λ (j : ChannelInput). of_guarded (node (input j) r empty) (some j)) (λ i. record { channel = source_at rows a; subscript = (h b m0 i).expr; target = (h c m1 i).target })
  part-agree r f g (Output a b c) h = λ i. of_process (node (output (sink_at rows a) (h b m0 i).expr (h c m1 i).expr) r empty)
  part-agree r f g (Seq a) h = λ i. of_process (node sequence r (h a m0 i).listed)
  part-agree r f g (Par a) h = λ i. of_process (node parallel r (h a m0 i).listed)
  part-agree r f g (If a) h = λ i. of_process (node (conditional (h a m0 i).tests) r (h a m0 i).listed)
  part-agree r f g (While a b) h = λ i. of_process (node (loop (h a m0 i).expr b) r (and_process (h b m1 i).process empty))
  part-agree r f g (Alt a) h = λ i. of_process (node (alternation (h a m0 i).options) r (h a m0 i).listed)
  part-agree r f g (Block a b) h = λ i. of_process (node (block (variable_at rows a)) r (and_process (h b m0 i).process empty))
  part-agree r f g (Member a b) h = λ i. of_link (and_process (h a m0 i).process (h b m1 i).listed) [] []
  part-agree r f g (Choice a b c) h =
      λ i. of_link (and_process (h a m0 i).process (h b m1 i).listed) (record { boolean = (h c m2 i).expr; process = a } ∷ (h b m1 i).tests) []
  part-agree r f g (OptionRow a b c) h =
      λ i. of_link (and_process (h a m0 i).process (h b m1 i).listed) [] (record { row = r; guard = (h c m2 i).guard; process = a } ∷ (h b m1 i).options)
  part-agree r f g (Guard a b) h = λ i. of_guard_row (record { boolean = (h a m0 i).expr; input = (h b m1 i).guard.input })
  part-agree r f g Other h = refl

  -- references go to higher rows
  pub fits-higher : (r : ℕ) (x : Node) → Fits rows r x → (c : ℕ) → Memᴰ c (references x) → r < c
  fits-higher r (Literal x) f = λ c m. absurd (Memᴰ.not-nil m)
  fits-higher r (Element a b) f = one (◌<◌ r) b f.0
  fits-higher r (Monadic a b) f = one (◌<◌ r) b f.0.0
  fits-higher r (Dyadic a b c) f = two (◌<◌ r) b c f.0.0 f.1.0
  fits-higher r Stop f = λ c m. absurd (Memᴰ.not-nil m)
  fits-higher r Skip f = λ c m. absurd (Memᴰ.not-nil m)
  fits-higher r (Assignment a b c) f = two (◌<◌ r) b c f.0.0 f.1.0
  fits-higher r (Input a b c) f = two (◌<◌ r) b c f.1.0 f.2.0
  fits-higher r (Output a b c) f = two (◌<◌ r) b c f.1.0 f.2.0
  fits-higher r (Seq a) f = one (◌<◌ r) a f.0
  fits-higher r (Par a) f = one (◌<◌ r) a f.0
  fits-higher r (If a) f = one (◌<◌ r) a f.0
  fits-higher r (While a b) f = two (◌<◌ r) a b f.0.0 f.1.0
  fits-higher r (Alt a) f = one (◌<◌ r) a f.0
  fits-higher r (Block a b) f = one (◌<◌ r) b f.0
  fits-higher r (Member a b) f = two (◌<◌ r) a b f.0.0 f.1.0
  fits-higher r (Choice a b c) f = three (◌<◌ r) a b c f.0.0 f.1.0 f.2.0
  fits-higher r (OptionRow a b c) f = three (◌<◌ r) a b c f.0.0 f.1.0 f.2.0
  fits-higher r (Guard a b) f = two (◌<◌ r) a b f.0.0 f.1.0
  fits-higher r Other f = λ c m. absurd (Memᴰ.not-nil m)

  -- what stands at a row, from what stands at any row
  pub part-is : (r : ℕ) → r < row_count rows → Fits rows r (node_at rows r) → content_at rows r ≡ content_of rows r (content_at rows) (node_at rows r)
  part-is r l f =
      (part-unfolds rows r).0 l
      ∙ part-agree r (higher_content rows r) (content_at rows) (node_at rows r)
      (λ c m. ap (λ (t : Bool). if_else t (content_at rows c) no_content) (lt-ltb r c (fits-higher r (node_at rows r) f c m)))

  -- what stands at row r, if it is of kind k
  abbrev pub part_by : ℕ → ℕ → Content
  part_by r k = content_of rows r (content_at rows) (node_of k (field_at rows r 1) (natural_at rows r 1) (natural_at rows r 2) (natural_at rows r 3))

  pub part-by-kind : (P : Content → Type 0) (r : ℕ) → r < row_count rows → Fits rows r (node_at rows r) → (kinds : List ℕ) → Memᴰ (kind_at rows r) kinds → OfEach (λ k. P (part_by r k)) kinds → P (content_at rows r)
  part-by-kind P r l f kinds m h =
      subst P (sym (part-is r l f ∙ ap (content_of rows r (content_at rows)) (node-of-kind rows r (kind_at rows r) refl))) (of-each (λ k. P (part_by r k)) (kind_at rows r) kinds m h)

-- of a table that the stages 3 to 6 pass, by a row's node: what its fields lead to, and what stands at it
module _ (rows : List ℤ) (passed : Passed rows) (r : ℕ) (x : Node) (l : r < row_count rows) (e : node_at rows r ≡ x) where
  pub fits_by : Fits rows r x
  fits_by = subst (Fits rows r) e (passed-fits rows passed r l)

  pub content-by : content_at rows r ≡ content_of rows r (content_at rows) x
  content-by = part-is rows r l (passed-fits rows passed r l) ∙ ap (content_of rows r (content_at rows)) e

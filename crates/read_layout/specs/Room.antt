-- The rows of a line are within a limit, where its form goes.
use Rattle.std.specs.Prelude.{◌≡◌, true, List, [], ◌∷◌, ℕ, suc, ◌+◌, ◌≤◌, get_or}
use Rattle.std.proofs.Math.Option.{some}
use Rattle.meaning.specs.Basics.{if_else}
use Rattle.base_top_down.specs.Forms.{form_size}
use Rattle.grammar.specs.Outline.{OutlineLine, Expect, members, choices, options, nothing, one-process, one-member, heads, is_declaration, starts_block, expected_beneath, expected_after}
use Rattle.grammar.specs.TextRows.{test_form, guard_form}
use Rattle.read_layout.specs.Standing.{Standing, standing, open_rows, rest_rows}
use Rattle.read_layout.specs.Layout.{process_size, places_after}

module _ (names : List (List ℕ)) where
  -- where the form of a line ends
  abbrev pub line_end : Expect → OutlineLine → ℕ → ℕ → ℕ → ℕ
  line_end members x p b t = if_else (starts_block x) (suc p + t) (suc p + process_size names x + b + t)
  line_end choices x p b t = suc p + b + t + form_size (test_form names x)
  line_end options x p b t = suc p + b + t + form_size (guard_form names x)
  line_end nothing x p b t = p
  line_end one-process x p b t = if_else (starts_block x) (suc p + t) (p + process_size names x + b)
  line_end one-member x p b t = if_else (starts_block x) (p + t) (p + process_size names x + b + t)
  line_end heads x p b t = if_else (is_declaration x) (p + t) (p + process_size names x + b)

  -- it may stand there, and it ends within a limit; after a block's declaration among members come a process and perhaps further members
  pub record LineRoom (limit : ℕ) (e : Expect) (x : OutlineLine) (p b t r : ℕ) : Type 0 where
    pub beneath : Expect
    pub stands : expected_beneath e x ≡ some beneath
    pub ends : line_end e x p b t ≤ limit
    pub follows : starts_block x ≡ true → expected_after e x ≡ one-member → (1 ≤ t) × (r ≤ t)

  -- so do the forms of all lines
  unfoldable pub Room : ℕ → List Standing → List ℕ → Type 0
  Room limit [] at = Unit {0}
  Room limit (standing e l x ∷ ys) at =
      LineRoom limit e x (get_or at l 0) (open_rows ys (suc l)) (open_rows ys l) (rest_rows (standing e l x ∷ ys)) × Room limit ys (places_after names e l x (open_rows ys (suc l)) at)

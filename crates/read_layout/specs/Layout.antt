-- The rows that a line writes by itself, and where the lines beneath it and after it go: p is the row where its form begins, b, t and r are the rows of the forms
-- beneath it, after it at its level, and of the members after it.
use Rattle.std.specs.Prelude.{List, [], ◌∷◌, ℕ, zero, suc, ◌+◌, ◌-◌, ◌*◌, ℤ, pos, negsuc, get_or, set}
use Rattle.std.proofs.lemmas.List.Edits.{sets}
use Rattle.meaning.specs.Basics.{if_else}
use Rattle.base_top_down.specs.Forms.{absent, number, form_size, rows_from}
use Rattle.grammar.specs.Outline.{OutlineLine, Expect, members, choices, options, nothing, one-process, one-member, heads, is_declaration, starts_block}
use Rattle.grammar.specs.Names.{declaration_in}
use Rattle.grammar.specs.TextRows.{process_form, test_form, guard_form, block_form}
use Rattle.read_layout.specs.Standing.{Standing, standing, open_rows, rest_rows}

-- a reference to row n if rows stand there, else to none
abbrev pub link_to : ℕ → ℕ → ℤ
link_to zero n = negsuc 0
link_to (suc b) n = pos n

-- the row of a choice or an option: what it does, the next one, and its boolean or guard
abbrev pub listed_row : ℕ → ℕ → ℕ → ℕ → List ℤ
listed_row k p b t = pos k ∷ link_to b (suc p) ∷ link_to t (suc p + b) ∷ pos (suc p + b + t) ∷ []

module _ (names : List (List ℕ)) where
  -- the rows of a process without those beneath it
  abbrev pub process_size : OutlineLine → ℕ
  process_size x = form_size (process_form names x absent)

  -- these rows, from row n on
  abbrev pub process_rows : OutlineLine → ℕ → ℕ → List ℤ
  process_rows x n b = rows_from n (process_form names x (number (link_to b (n + process_size x))))

  -- a member
  abbrev pub member_rows : OutlineLine → ℕ → ℕ → ℕ → List ℤ
  member_rows x p b t = pos 40 ∷ pos (suc p) ∷ link_to t (suc p + process_size x + b) ∷ pos 0 ∷ process_rows x (suc p) b

  -- a block's row
  abbrev pub block_row : OutlineLine → ℕ → List ℤ
  block_row x p = rows_from p (block_form names (declaration_in x) (number (pos (suc p))))

  -- a block that is the next member
  abbrev pub member_block : OutlineLine → ℕ → ℕ → ℕ → List ℤ
  member_block x p t r = pos 40 ∷ pos (suc p) ∷ link_to r (suc p + t - r) ∷ pos 0 ∷ block_row x (suc p)

  -- the rows that a line writes from row p on
  abbrev pub head_rows : Expect → OutlineLine → ℕ → ℕ → ℕ → ℕ → List ℤ
  head_rows members x p b t r = if_else (starts_block x) (member_block x p t r) (member_rows x p b t)
  head_rows choices x p b t r = listed_row 41 p b t
  head_rows options x p b t r = listed_row 42 p b t
  head_rows nothing x p b t r = []
  head_rows one-process x p b t r = if_else (starts_block x) (block_row x p) (process_rows x p b)
  head_rows one-member x p b t r = if_else (starts_block x) (block_row x p) (process_rows x p b)
  head_rows heads x p b t r = if_else (is_declaration x) [] (process_rows x p b)

  -- the rows of a choice's boolean or an option's guard, from row n on
  abbrev pub tail_rows : Expect → OutlineLine → ℕ → List ℤ
  tail_rows members x n = []
  tail_rows choices x n = rows_from n (test_form names x)
  tail_rows options x n = rows_from n (guard_form names x)
  tail_rows nothing x n = []
  tail_rows one-process x n = []
  tail_rows one-member x n = []
  tail_rows heads x n = []

  -- where the lines beneath it go
  abbrev pub row_beneath : Expect → OutlineLine → ℕ → ℕ
  row_beneath members x p = suc p + process_size x
  row_beneath choices x p = suc p
  row_beneath options x p = suc p
  row_beneath nothing x p = p
  row_beneath one-process x p = p + process_size x
  row_beneath one-member x p = p + process_size x
  row_beneath heads x p = p + process_size x

  -- where the lines after it at its level go
  abbrev pub row_after : Expect → OutlineLine → ℕ → ℕ → ℕ
  row_after members x p b = if_else (starts_block x) (suc (suc p)) (suc p + process_size x + b)
  row_after choices x p b = suc p + b
  row_after options x p b = suc p + b
  row_after nothing x p b = p
  row_after one-process x p b = if_else (starts_block x) (suc p) (p + process_size x + b)
  row_after one-member x p b = if_else (starts_block x) (suc p) (p + process_size x + b)
  row_after heads x p b = if_else (is_declaration x) p (p + process_size x + b)

  -- the rows after a line is written
  abbrev pub line_laid : Expect → OutlineLine → ℕ → ℕ → ℕ → ℕ → List ℤ → List ℤ
  line_laid e x p b t r rows = sets (sets rows (4 * p) (head_rows e x p b t r)) (4 * (suc p + b + t)) (tail_rows e x (suc p + b + t))

  -- where the next forms at each level go, after a line of level l
  abbrev pub places_after : Expect → ℕ → OutlineLine → ℕ → List ℕ → List ℕ
  places_after e l x b at = set (set at (suc l) (row_beneath e x (get_or at l 0))) l (row_after e x (get_or at l 0) b)

  -- the rows after all lines are written, each where its form goes
  unfoldable pub all_laid : List Standing → List ℕ → List ℤ → List ℤ
  all_laid [] at rows = rows
  all_laid (standing e l x ∷ ys) at rows =
      let b = open_rows ys (suc l) in
      let t = open_rows ys l in
      let r = rest_rows (standing e l x ∷ ys) in
      all_laid ys (places_after e l x b at) (line_laid e x (get_or at l 0) b t r rows)

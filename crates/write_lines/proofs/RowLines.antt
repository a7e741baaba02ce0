-- The lines of the variables and of the output channels below a row, and with those of one row more.
use mathlib.Core.Path.{◌≡◌, refl, sym, ap, ap₂, ◌∙◌}
use mathlib.Core.Bool.{Bool, true, false}
use mathlib.Core.List.{List, [], ◌∷◌, ◌++◌, map, append-nil, append_assoc, flatten}
use Prim.Native.Nat.{ℕ, zero, suc, ◌+◌, ◌≤◌}
use native.Mathlib.Numerals.{add-one}
use native.Mathlib.Omega.{arith}
use lib.IntN.{ℤ}
use lib.ListN.{length, get_or, take, drop, length-append, length-take, length-drop}
use lib.Seq.{drop-drop}
use Rattle.meaning.specs.Rows.{natural_at}
use Rattle.meaning.specs.Basics.{if_else, all_below}
use Rattle.meaning.specs.Declarations.{declarations, sum_below, is_variable, has_role, cells_at, host_channels_at, capacity_at, variables, channels}
use Rattle.meaning.specs.Values.{Message}
use Rattle.meaning.specs.Buffers.{decoded, capacities}
use Rattle.meaning.specs.Printing.{Line, var_word, out_word, word_bytes, numbered, cells_of, cell_lines, out_lines}
use Rattle.base_rows.proofs.Leading.{declarations-at-most}
use Rattle.write_bytes.specs.Writing.{Writer, put_all, put_lines}
use Rattle.write_lines.specs.Decoding.{message_bytes, outputs_in}
use Rattle.write_bytes.proofs.Writers.{put_lines-append}
use Rattle.write_lines.proofs.LineSteps.{cells-part, messages-lined}

-- Variables -----------------------------------------------------------------------------------------------------------------------

concat-append : (f : ℕ → List Line) (xs ys : List ℕ) → flatten (map f (xs ++ ys)) ≡ flatten (map f xs) ++ flatten (map f ys)
unfolding flatten
concat-append f [] ys = refl
concat-append f (x ∷ xs) ys = ap {B = List Line} (λ l. f x ++ l) (concat-append f xs ys) ∙ sym (append_assoc (f x) (flatten (map f xs)) (flatten (map f ys)))

-- a row that is no variable has no cell
no_cells : (rows : List ℤ) (r : ℕ) → is_variable rows r ≡ false → cells_at rows r ≡ 0
unfolding cells_at
no_cells rows r e = ap (λ (c : Bool). if_else c (natural_at rows r 1) 0) e

module _ (rows : List ℤ) (cells : List Message) where
  -- the lines of the cells of the variable of row q
  abbrev of_row : ℕ → List Line
  of_row q = numbered var_word q 0 (cells_of rows cells q)

  -- those of the variables below row r
  unfoldable pub cells_below : ℕ → List Line
  cells_below r = flatten (map of_row (all_below (is_variable rows) r))

  pub cells-below-none : cells_below 0 ≡ []
  unfolding cells_below all_below flatten
  cells-below-none = refl

  pub cells-below-all : cells_below (declarations rows) ≡ cell_lines rows cells
  unfolding cells_below cell_lines variables
  cells-below-all = refl

  pub cells-below-more : (r : ℕ) → cells_below (r + 1) ≡ cells_below r ++ of_row r
  unfolding cells_below all_below flatten numbered
  cells-below-more r =
      ap cells_below (add-one r)
      ∙ concat-append of_row (all_below (is_variable rows) r) (if_else (is_variable rows r) (r ∷ []) [])
      ∙ ap {B = List Line} (λ l. cells_below r ++ l) (go (is_variable rows r) refl)
    where
      go : (t : Bool) → is_variable rows r ≡ t → flatten (map of_row (if_else t (r ∷ []) [])) ≡ of_row r
      go true e = append-nil (of_row r)
      go false e = sym (ap (λ (n : ℕ). numbered var_word r 0 (take n (drop (sum_below (cells_at rows) r) cells))) (no_cells rows r e))

-- Output channels -----------------------------------------------------------------------------------------------------------------

-- the sum of f over a list
unfoldable pub total : (ℕ → ℕ) → List ℕ → ℕ
total f [] = 0
total f (c ∷ cs) = f c + total f cs

total-append : (f : ℕ → ℕ) (xs ys : List ℕ) → total f (xs ++ ys) ≡ total f xs + total f ys
unfolding total
total-append f [] ys = omega arith
total-append f (x ∷ xs) ys = ap (λ (n : ℕ). f x + n) (total-append f xs ys) ∙ omega arith

-- one channel more behind some
outs-behind : (f : ℕ → ℕ) (cs : List ℕ) (c : ℕ) (counts : List ℕ) (xs : List Message)
    → out_lines (cs ++ (c ∷ [])) (outputs_in (map f (cs ++ (c ∷ []))) counts xs) ≡ out_lines cs (outputs_in (map f cs) counts xs) ++ numbered out_word c 0 (take (get_or counts (length cs) 0) (drop (total f cs) xs))
unfolding out_lines outputs_in numbered total
outs-behind f [] c [] xs = refl
outs-behind f [] c (n ∷ counts) xs = append-nil (numbered out_word c 0 (take n xs))
outs-behind f (d ∷ cs) c [] xs = refl
outs-behind f (d ∷ cs) c (n ∷ counts) xs =
    ap {B = List Line} (λ l. first ++ l) (outs-behind f cs c counts (drop (f d) xs))
    ∙ sym (append_assoc first (out_lines cs (outputs_in (map f cs) counts (drop (f d) xs))) (numbered out_word c 0 (take (get_or counts (length cs) 0) (drop (total f cs) (drop (f d) xs)))))
    ∙ ap (λ (l : List Message). (first ++ out_lines cs (outputs_in (map f cs) counts (drop (f d) xs))) ++ numbered out_word c 0 (take (get_or counts (length cs) 0) l)) (drop-drop (total f cs) (f d) xs)
  where
    first : List Line
    first = numbered out_word d 0 (take n xs)

module _ (rows : List ℤ) where
  -- the output channels below row r
  abbrev pub sinks : ℕ → List ℕ
  sinks r = all_below (has_role 2 rows) r

  pub host-channels-below : (r : ℕ) → length (sinks r) ≡ sum_below (host_channels_at 2 rows) r
  unfolding all_below sum_below host_channels_at
  host-channels-below zero = refl
  host-channels-below (suc r) = length-append (sinks r) (if_else (has_role 2 rows r) (r ∷ []) []) ∙ ap₂ (λ (m n : ℕ). m + n) (host-channels-below r) (go (has_role 2 rows r))
    where
      go : (t : Bool) → length (if_else t (r ∷ []) []) ≡ if_else t 1 0
      go true = refl
      go false = refl

  -- a row that is no output channel has no capacity
  no-capacity : (r : ℕ) → has_role 2 rows r ≡ false → capacity_at rows r ≡ 0
  unfolding capacity_at
  no-capacity r e = ap (λ (c : Bool). if_else c (natural_at rows r 3) 0) e

  pub capacities-below : (r : ℕ) → total (capacity_at rows) (sinks r) ≡ sum_below (capacity_at rows) r
  unfolding all_below sum_below total
  capacities-below zero = refl
  capacities-below (suc r) = total-append (capacity_at rows) (sinks r) (if_else (has_role 2 rows r) (r ∷ []) []) ∙ ap₂ (λ (m n : ℕ). m + n) (capacities-below r) (go (has_role 2 rows r) refl)
    where
      go : (t : Bool) → has_role 2 rows r ≡ t → total (capacity_at rows) (if_else t (r ∷ []) []) ≡ capacity_at rows r
      go true e = omega arith
      go false e = sym (no-capacity r e)

  module _ (counts : List ℕ) (xs : List Message) where
    -- the lines of the output channels below row r
    unfoldable pub outs_below : ℕ → List Line
    outs_below r = out_lines (sinks r) (outputs_in (map (capacity_at rows) (sinks r)) counts xs)

    pub outs-below-none : outs_below 0 ≡ []
    unfolding outs_below all_below out_lines
    outs-below-none = refl

    pub outs-below-all : outs_below (declarations rows) ≡ out_lines (channels rows 2) (outputs_in (capacities rows) counts xs)
    unfolding outs_below channels
    outs-below-all = refl

    -- the messages that row r has in its strip
    abbrev pub strip : ℕ → List Message
    strip r = take (if_else (has_role 2 rows r) (get_or counts (sum_below (host_channels_at 2 rows) r) 0) 0) (drop (sum_below (capacity_at rows) r) xs)

    pub outs-below-more : (r : ℕ) → outs_below (r + 1) ≡ outs_below r ++ numbered out_word r 0 (strip r)
    unfolding outs_below all_below numbered
    outs-below-more r = ap outs_below (add-one r) ∙ go (has_role 2 rows r)
      where
        go : (t : Bool)
            → out_lines (sinks r ++ if_else t (r ∷ []) []) (outputs_in (map (capacity_at rows) (sinks r ++ if_else t (r ∷ []) [])) counts xs)
            ≡ outs_below r ++ numbered out_word r 0 (take (if_else t (get_or counts (sum_below (host_channels_at 2 rows) r) 0) 0) (drop (sum_below (capacity_at rows) r) xs))
        go true =
            outs-behind (capacity_at rows) (sinks r) r counts xs
            ∙ ap₂ (λ (m n : ℕ). outs_below r ++ numbered out_word r 0 (take (get_or counts m 0) (drop n xs))) (host-channels-below r) (capacities-below r)
        go false =
            ap (λ (cs : List ℕ). out_lines cs (outputs_in (map (capacity_at rows) cs) counts xs)) (append-nil (sinks r))
            ∙ sym (append-nil (outs_below r))

-- What a loop over the rows has written ---------------------------------------------------------------------------------------------

-- a table has at most 1,024 declarations
pub few-declarations : (rows : List ℤ) → length rows ≤ 4096 → declarations rows ≤ 1024
few-declarations rows h = let d = declarations-at-most rows in omega arith

-- a part is no longer than the list
pub part-short : (from size : ℕ) (zs : List ℤ) → length (take size (drop from zs)) ≤ length zs
part-short from size zs = omega (arith, length-take size (drop from zs), length-drop from zs)

-- after the lines of the variables below row r, those of row r
pub cells-step : (rows : List ℤ) (ms : List ℕ) (zs : List ℤ) (r first size : ℕ) (x : Writer) {v w : Writer} {ns : List ℕ} {ys : List ℤ}
    → first ≡ sum_below (cells_at rows) r → size ≡ cells_at rows r → ns ≡ take size (drop first ms) → ys ≡ take size (drop first zs)
    → v ≡ put_lines (cells_below rows (decoded zs ms) r) x → w ≡ put_all (message_bytes (word_bytes var_word) r 0 (decoded ys ns)) v → w ≡ put_lines (cells_below rows (decoded zs ms) (r + 1)) x
cells-step rows ms zs r first size x f s n y e d =
    d
    ∙ messages-lined var_word r _ _
    ∙ ap₂ (λ (l : List Message) (u : Writer). put_lines (numbered var_word r 0 l) u)
    (ap₂ decoded y n ∙ cells-part ms zs first size ∙ ap₂ (λ (m k : ℕ). take m (drop k (decoded zs ms))) s f)
    e
    ∙ sym (ap (λ (l : List Line). put_lines l x) (cells-below-more rows (decoded zs ms) r) ∙ put_lines-append (cells_below rows (decoded zs ms) r) _ x)

-- after the lines of the output channels below row r, those of row r
pub outs-step : (rows : List ℤ) (counts ms : List ℕ) (zs : List ℤ) (r first port given : ℕ) (x : Writer) {v w : Writer} {ns : List ℕ} {ys : List ℤ}
    → first ≡ sum_below (capacity_at rows) r → port ≡ sum_below (host_channels_at 2 rows) r → given ≡ if_else (has_role 2 rows r) (get_or counts port 0) 0
    → ns ≡ take given (drop first ms) → ys ≡ take given (drop first zs)
    → v ≡ put_lines (outs_below rows counts (decoded zs ms) r) x → w ≡ put_all (message_bytes (word_bytes out_word) r 0 (decoded ys ns)) v → w ≡ put_lines (outs_below rows counts (decoded zs ms) (r + 1)) x
outs-step rows counts ms zs r first port given x f p g n y e d =
    d
    ∙ messages-lined out_word r _ _
    ∙ ap₂ (λ (l : List Message) (u : Writer). put_lines (numbered out_word r 0 l) u)
    (ap₂ decoded y n ∙ cells-part ms zs first given ∙ ap₂ (λ (m k : ℕ). take m (drop k (decoded zs ms))) (g ∙ ap (λ (k : ℕ). if_else (has_role 2 rows r) (get_or counts k 0) 0) p) f)
    e
    ∙ sym (ap (λ (l : List Line). put_lines l x) (outs-below-more rows counts (decoded zs ms) r) ∙ put_lines-append (outs_below rows counts (decoded zs ms) r) _ x)

-- one row more in a sum
pub sum_more : (f : ℕ → ℕ) (r m n : ℕ) → m ≡ sum_below f r → n ≡ f r → m + n ≡ sum_below f (r + 1)
unfolding sum_below
sum_more f r m n e d = ap₂ (λ (i j : ℕ). i + j) e d ∙ ap (sum_below f) (sym (add-one r))

pub sum-none : (f : ℕ → ℕ) → 0 ≡ sum_below f 0
unfolding sum_below
sum-none f = refl

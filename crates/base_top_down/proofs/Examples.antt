-- An example, computed: the run on paper with its rows in another order is numbered as on paper.
use mathlib.Core.Path.{◌≡◌, refl}
use mathlib.Core.List.{List, [], ◌∷◌}
use lib.IntN.{ℤ, pos, negsuc}
use Rattle.meaning.specs.Kinds.{shapes, shape_in, shape_of}
use Rattle.meaning.specs.Declarations.{leading, declarations, root}
use Rattle.meaning.specs.HigherRows.{last_rows, at_row}
use Rattle.base_top_down.specs.Forms.{is_reference, form_at, form_size, rows_from, form_of, declared, table_of, top_down}

abbrev paper : List ℤ
paper =
    pos 2 ∷ pos 1 ∷ pos 1 ∷ pos 0
    ∷ pos 2 ∷ pos 1 ∷ pos 2 ∷ pos 4
    ∷ pos 1 ∷ pos 1 ∷ pos 0 ∷ pos 0
    ∷ pos 30 ∷ pos 4 ∷ pos 0 ∷ pos 0
    ∷ pos 40 ∷ pos 5 ∷ pos 9 ∷ pos 0
    ∷ pos 23 ∷ pos 0 ∷ pos 6 ∷ pos 7
    ∷ pos 10 ∷ pos 0 ∷ pos 0 ∷ pos 0
    ∷ pos 11 ∷ pos 2 ∷ pos 8 ∷ pos 0
    ∷ pos 10 ∷ pos 0 ∷ pos 0 ∷ pos 0
    ∷ pos 40 ∷ pos 10 ∷ negsuc 0 ∷ pos 0
    ∷ pos 24 ∷ pos 1 ∷ pos 11 ∷ pos 12
    ∷ pos 10 ∷ pos 0 ∷ pos 0 ∷ pos 0
    ∷ pos 13 ∷ pos 0 ∷ pos 13 ∷ pos 15
    ∷ pos 11 ∷ pos 2 ∷ pos 14 ∷ pos 0
    ∷ pos 10 ∷ pos 0 ∷ pos 0 ∷ pos 0
    ∷ pos 10 ∷ pos 5 ∷ pos 0 ∷ pos 0 ∷ []

abbrev shuffled : List ℤ
shuffled =
    pos 2 ∷ pos 1 ∷ pos 1 ∷ pos 0
    ∷ pos 2 ∷ pos 1 ∷ pos 2 ∷ pos 4
    ∷ pos 1 ∷ pos 1 ∷ pos 0 ∷ pos 0
    ∷ pos 30 ∷ pos 4 ∷ pos 0 ∷ pos 0
    ∷ pos 40 ∷ pos 5 ∷ pos 7 ∷ pos 0
    ∷ pos 23 ∷ pos 0 ∷ pos 6 ∷ pos 8
    ∷ pos 10 ∷ pos 0 ∷ pos 0 ∷ pos 0
    ∷ pos 40 ∷ pos 9 ∷ negsuc 0 ∷ pos 0
    ∷ pos 11 ∷ pos 2 ∷ pos 10 ∷ pos 0
    ∷ pos 24 ∷ pos 1 ∷ pos 13 ∷ pos 11
    ∷ pos 10 ∷ pos 0 ∷ pos 0 ∷ pos 0
    ∷ pos 13 ∷ pos 0 ∷ pos 12 ∷ pos 15
    ∷ pos 11 ∷ pos 2 ∷ pos 14 ∷ pos 0
    ∷ pos 10 ∷ pos 0 ∷ pos 0 ∷ pos 0
    ∷ pos 10 ∷ pos 0 ∷ pos 0 ∷ pos 0
    ∷ pos 10 ∷ pos 5 ∷ pos 0 ∷ pos 0 ∷ []

pub renumbered : top_down shuffled ≡ paper
unfolding leading declarations root last_rows at_row shapes shape_in shape_of is_reference form_at form_size rows_from form_of declared table_of top_down
renumbered = refl

pub unchanged : top_down paper ≡ paper
unfolding leading declarations root last_rows at_row shapes shape_in shape_of is_reference form_at form_size rows_from form_of declared table_of top_down
unchanged = refl

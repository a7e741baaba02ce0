-- What a token does depends on its sort alone.
use mathlib.Core.Path.{◌≡◌, refl}
use mathlib.Core.Bool.{Bool, true}
use mathlib.Core.List.{List}
use mathlib.Core.Option.{none}
use Rattle.grammar.specs.Grammar.{both, either, Mark, a-skip, a-stop, a-seq, a-par, an-if, an-alt, a-while, becomes, asks, tells, ampersand, an_int, a-chan, a-hostin, a-hostout, colon, unused, name, number, minus, not-word, given, arith, joins, round-open, round-close, square-open, square-close, mark}
use Rattle.grammar.specs.Shapes.{Kind, Opening, wants, has, shape_after}
use Rattle.read_tokens.specs.Lexemes.{mark_lexeme}
use Rattle.read_shapes.specs.Turns.{shape_by_sort, SortTells}

-- a mark stands in no phrase
mark-stops : (k : Kind) (os : List Opening) (f : Bool) (m : Mark) → (none ≡ shape_by_sort (wants k os) (mark_lexeme m).sort) × (none ≡ shape_by_sort (has k os f) (mark_lexeme m).sort)
unfolding shape_by_sort
mark-stops k os f a-skip = (refl, refl)
mark-stops k os f a-stop = (refl, refl)
mark-stops k os f a-seq = (refl, refl)
mark-stops k os f a-par = (refl, refl)
mark-stops k os f an-if = (refl, refl)
mark-stops k os f an-alt = (refl, refl)
mark-stops k os f a-while = (refl, refl)
mark-stops k os f becomes = (refl, refl)
mark-stops k os f asks = (refl, refl)
mark-stops k os f tells = (refl, refl)
mark-stops k os f ampersand = (refl, refl)
mark-stops k os f an_int = (refl, refl)
mark-stops k os f a-chan = (refl, refl)
mark-stops k os f a-hostin = (refl, refl)
mark-stops k os f a-hostout = (refl, refl)
mark-stops k os f colon = (refl, refl)
mark-stops k os f (unused i) = (refl, refl)

pub sort-tells : SortTells
unfolding shape_after shape_by_sort
sort-tells (wants k os) (name n) = refl
sort-tells (wants k os) (number z) = refl
sort-tells (wants k os) minus = refl
sort-tells (wants k os) not-word = refl
sort-tells (wants k os) given = refl
sort-tells (wants k os) (arith i) = refl
sort-tells (wants k os) (joins both) = refl
sort-tells (wants k os) (joins either) = refl
sort-tells (wants k os) round-open = refl
sort-tells (wants k os) round-close = refl
sort-tells (wants k os) square-open = refl
sort-tells (wants k os) square-close = refl
sort-tells (wants k os) (mark m) = (mark-stops k os true m).0
sort-tells (has k os f) (name n) = refl
sort-tells (has k os f) (number z) = refl
sort-tells (has k os f) minus = refl
sort-tells (has k os f) not-word = refl
sort-tells (has k os f) given = refl
sort-tells (has k os f) (arith i) = refl
sort-tells (has k os f) (joins both) = refl
sort-tells (has k os f) (joins either) = refl
sort-tells (has k os f) round-open = refl
sort-tells (has k os f) round-close = refl
sort-tells (has k os f) square-open = refl
sort-tells (has k os f) square-close = refl
sort-tells (has k os f) (mark m) = (mark-stops k os f m).1

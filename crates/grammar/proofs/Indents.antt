-- A line's bytes are read exactly if they are two spaces for each level and then tokens.
use mathlib.Core.Path.{◌≡◌, refl, sym, ap, subst₂}
use mathlib.Core.Bool.{Bool, true, false, ◌&&◌}
use mathlib.Core.List.{List, [], ◌∷◌}
use mathlib.Core.Option.{Option, none, some, none-ne-some, some-injective}
use Prim.Native.Nat.{ℕ, suc}
use lib.Dec.{eqb}
use Rattle.meaning.specs.Basics.{if_else}
use borrow.Author.Tests.{eqb-true}
use Rattle.grammar.specs.Grammar.{Token}
use Rattle.grammar.specs.Scan.{space, start, Item, gap, glue, items, read, tokens}
use Rattle.grammar.specs.Tokens.{token_of, hang, needs_space}
use Rattle.grammar.specs.LineBytes.{body_of, Written, written, Indented, here, deeper, at_zero, down, line_from_bytes, LineBytesExact}
use Rattle.grammar.proofs.LinesSound.{split-and}
use Rattle.grammar.proofs.TokenTable.{tokens-exact}

-- no body begins with a space
no_lead : (ts : List Token) (b : ℕ) (bs : List ℕ) → body_of (b ∷ bs) ≡ some ts → eqb b space ≡ false
unfolding tokens items read
no_lead ts b bs h = go (eqb b space) (glue token_of hang needs_space b (items token_of hang needs_space bs)) h
  where
    go : (t : Bool) (is : List Item) → read token_of hang needs_space start (if_else t (gap ∷ items token_of hang needs_space bs) is) ≡ some ts → t ≡ false
    go true is h = absurd (none-ne-some ts h)
    go false is h = refl

at_zero_lem : (bs : List ℕ) (ts : List Token) → body_of bs ≡ some ts → line_from_bytes bs ≡ some (written 0 ts)
unfolding line_from_bytes
at_zero_lem [] ts h = rw h refl
at_zero_lem (b ∷ []) ts h = rw h refl
at_zero_lem (b ∷ c ∷ bs) ts h = rw (no_lead ts b (c ∷ bs) h, h) refl

indented-read : {w : Written} {bs : List ℕ} → Indented w bs → line_from_bytes bs ≡ some w
unfolding line_from_bytes
indented-read (here {ts} {bs} p) = at_zero_lem bs ts ((tokens-exact bs ts).0 p)
indented-read (deeper p) = ap down (indented-read p)

from_zero : (bs : List ℕ) (w : Written) → at_zero (body_of bs) ≡ some w → Indented w bs
from_zero bs w h = go (body_of bs) refl h
  where
    go : (o : Option (List Token)) → body_of bs ≡ o → at_zero o ≡ some w → Indented w bs
    go none q h = absurd (none-ne-some w h)
    go (some ts) q h = rw (some-injective (written 0 ts) w h) at (here ((tokens-exact bs ts).1 q))

read-indented : (bs : List ℕ) (w : Written) → line_from_bytes bs ≡ some w → Indented w bs
unfolding line_from_bytes
read-indented [] w h = from_zero [] w h
read-indented (b ∷ []) w h = from_zero (b ∷ []) w h
read-indented (b ∷ c ∷ bs) w h = go (eqb b space && eqb c space) refl h (read-indented bs)
  where
    lower : (o : Option Written) → line_from_bytes bs ≡ o → down o ≡ some w → ((v : Written) → line_from_bytes bs ≡ some v → Indented v bs) → Indented w (space ∷ space ∷ bs)
    lower none q h rest = absurd (none-ne-some w h)
    lower (some (written l ts)) q h rest = rw (some-injective (written (suc l) ts) w h) at (deeper (rest (written l ts) q))

    go : (t : Bool) → (eqb b space && eqb c space) ≡ t → if_else t (down (line_from_bytes bs)) (at_zero (body_of (b ∷ c ∷ bs))) ≡ some w
        → ((v : Written) → line_from_bytes bs ≡ some v → Indented v bs) → Indented w (b ∷ c ∷ bs)
    go true q h rest =
        let (u, v) = split-and (eqb b space) (eqb c space) q in
        subst₂ (λ (x y : ℕ). Indented w (x ∷ y ∷ bs)) (sym (eqb-true b space u)) (sym (eqb-true c space v)) (lower (line_from_bytes bs) refl h rest)
    go false q h rest = from_zero (b ∷ c ∷ bs) w h

pub line-bytes-exact : LineBytesExact
line-bytes-exact bs w = (λ p. indented-read p, read-indented bs w)

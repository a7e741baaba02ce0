-- Where names are in order, each use is of a name with one declaration, which serves for it.
use mathlib.Core.Path.{◌≡◌, sym, ap, ◌∙◌}
use mathlib.Core.Bool.{Bool}
use mathlib.Core.List.{List}
use mathlib.Core.Option.{Option, none, some, some-injective}
use Prim.Native.Nat.{ℕ, suc, ◌<◌}
use native.Mathlib.Decide.{dec_lt}
use native.Mathlib.Omega.{arith}
use lib.IntN.{ℤ}
use lib.ListN.{length, get_elem?}
use Rattle.meaning.specs.Basics.{Lowest}
use Rattle.meaning.proofs.Decides.{Decides, holding, failing}
use Rattle.meaning.proofs.LentLaws.{entry-is}
use Rattle.grammar.specs.Outline.{Declaration, Lined}
use Rattle.grammar.specs.Names.{Use, declaration_in, Found, first_declared}
use Rattle.grammar.specs.NameClaims.{Serves, DeclaredOn, UsedAt, Misnamed, again, nowhere, other-sort}
use Rattle.grammar.proofs.NamesExact.{decides-serves, line-is, Finding, not-declared, declared-first, finding}

module _ (ls : List Lined) (ordered : Lowest (Misnamed ls) (suc (length ls)) none) where
  right-line : (i : ℕ) (y : Lined) → get_elem? ls i ≡ some y → ¬ Misnamed ls (suc i)
  right-line i y e = ordered (suc i) (let (l, _) = entry-is ls i y y e in omega arith)

  pub one-declaration : (i j : ℕ) (n : List ℕ) (c d : Declaration) (y z : ℤ) → DeclaredOn ls i n c y → DeclaredOn ls j n d z → c ≡ d
  one-declaration i j n c d y z p q = go (dec_lt i j) (dec_lt j i)
    where
      go : Dec (i < j) → Dec (j < i) → c ≡ d
      go (yes l) h = absurd (right-line j _ q.1 (again l p q))
      go (no l) (yes h) = absurd (right-line i _ p.1 (again h q p))
      go (no l) (no h) =
          let e : i ≡ j = omega arith in
          some-injective c d (ap declaration_in (line-is (sym p.1 ∙ ap (get_elem? ls) e ∙ q.1)))

  -- a declaration of the name that serves for the use
  pub record Served (u : Use) : Type 0 where
    pub line : ℕ
    pub declaration : Declaration
    pub size : ℤ
    pub declared : DeclaredOn ls line u.named declaration size
    pub serving : Serves declaration u.sort

  pub served : (i : ℕ) (u : Use) → UsedAt ls i u → Served u
  served i u p = go (first_declared u.named ls) (finding u.named ls)
    where
      go : (o : Option Found) → Finding u.named ls o → Served u
      go none (not-declared f) = absurd (right-line i _ p.1.1 (nowhere p f))
      go (some f) (declared-first {z} q) = by (decides-serves f.declaration u.sort)
        where
          by : {t : Bool} → Decides (Serves f.declaration u.sort) t → Served u
          by (holding s) = record { line = f.before; declaration = f.declaration; size = z; declared = q.declared; serving = s }
          by (failing s) = absurd (right-line i _ p.1.1 (other-sort p q s))

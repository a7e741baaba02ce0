-- The declarations of a text in the order of its lines: those before the process stand first, since nothing stands at its level after it.
use mathlib.Core.Path.{◌≡◌, refl, sym, ap, ap₂, subst, ◌∙◌}
use mathlib.Core.Bool.{Bool, true, false}
use mathlib.Core.List.{List, [], ◌∷◌, ◌++◌, map, flatten, append_assoc}
use mathlib.Core.Option.{Option, none, some, none-ne-some, some-injective}
use Prim.Native.Nat.{ℕ, zero, suc, ◌≤◌, ◌<◌}
use native.Mathlib.Omega.{arith}
use lib.ListN.{length}
use Rattle.meaning.specs.Basics.{if_else}
use Rattle.grammar.specs.Outline.{Declaration, OutlineLine, Lined, lined, Expect, nothing, heads, is_declaration, process_beneath, expected_beneath, expected_after, Trees, Block, end, more}
use Rattle.grammar.specs.Names.{declaration_in}
use Rattle.grammar.specs.TextRows.{if_declared, first, of_block, declarations}
use Rattle.grammar.proofs.TextPlaces.{text-lines}
use Rattle.read_declared.specs.Declarations.{in_order, InOrder, NoMoreThanLines}

-- Lists of lines --------------------------------------------------------------------------------------------------------------------

-- the declarations of some lines and of others
pub in-order-append : (ls ms : List Lined) → in_order (ls ++ ms) ≡ in_order ls ++ in_order ms
unfolding in_order
in-order-append [] ms = refl
in-order-append (lined l x ∷ ls) ms =
    ap (λ (ds : List Declaration). if_declared (declaration_in x) ++ ds) (in-order-append ls ms) ∙ sym (append_assoc (if_declared (declaration_in x)) (in_order ls) (in_order ms))

pub no-more-than-lines : NoMoreThanLines
unfolding in_order
no-more-than-lines [] = omega arith
no-more-than-lines (lined l x ∷ ls) = go (declaration_in x) (no-more-than-lines ls)
  where
    go : (o : Option Declaration) → length (in_order ls) ≤ length ls → length (if_declared o ++ in_order ls) ≤ suc (length ls)
    go none h = omega arith
    go (some d) h = omega arith

-- Blocks ----------------------------------------------------------------------------------------------------------------------------

-- declarations after those of some lines and of others
regrouped : (ls ms : List Lined) (ds : List Declaration) → in_order ls ++ (in_order ms ++ ds) ≡ in_order (ls ++ ms) ++ ds
regrouped ls ms ds = sym (ap (λ (es : List Declaration). es ++ ds) (in-order-append ls ms) ∙ append_assoc (in_order ls) (in_order ms) ds)

-- the lines beneath level 0 declare only in blocks
abbrev Beneath : List Lined → Type 0
Beneath ls = (rest : List Lined) → (flatten (map first (ls ++ rest)) ≡ flatten (map first rest)) × (flatten (map of_block (ls ++ rest)) ≡ in_order ls ++ flatten (map of_block rest))

deep : {e : Expect} {l : ℕ} {ls : List Lined} {ps : Trees} → Block e l ls ps → 0 < l → Beneath ls
unfolding in_order flatten
deep (end h) p rest = (refl, refl)
deep (more {l = zero} h b c) p rest = absurd (omega arith)
deep (more {l = suc l} {x} {ls} {ms} h b c) p rest =
    let (f, g) = deep b (omega arith) (ms ++ rest) in
    let (u, v) = deep c p rest in
    let d = if_declared (declaration_in x) in
    let e = append_assoc ls ms rest in (
      ap (λ (ks : List Lined). flatten (map first ks)) e ∙ f ∙ u,
      ap (λ (ks : List Lined). d ++ flatten (map of_block ks)) e
          ∙ ap (λ (ds : List Declaration). d ++ ds) (g ∙ ap (λ (ds : List Declaration). in_order ls ++ ds) v ∙ regrouped ls ms (flatten (map of_block rest)))
          ∙ sym (append_assoc d (in_order (ls ++ ms)) (flatten (map of_block rest))),
    )

-- where nothing is expected no line stands
none-beneath : {e : Expect} {l : ℕ} {ls : List Lined} {ps : Trees} → Block e l ls ps → e ≡ nothing → ls ≡ []
unfolding expected_beneath
none-beneath (end h) i = refl
none-beneath (more {b} {x} h p q) i = absurd (none-ne-some b (sym (ap (λ (e : Expect). expected_beneath e x) i) ∙ h))

-- a line before lines whose declarations stand in order
zero-line : (x : OutlineLine) (ls : List Lined) → in_order ls ≡ declarations ls → in_order (lined 0 x ∷ ls) ≡ declarations (lined 0 x ∷ ls)
unfolding in_order flatten
zero-line x ls h = ap (λ (ds : List Declaration). if_declared (declaration_in x) ++ ds) h ∙ sym (append_assoc (if_declared (declaration_in x)) (flatten (map first ls)) (flatten (map of_block ls)))

top : {e : Expect} {l : ℕ} {ls : List Lined} {ps : Trees} → Block e l ls ps → e ≡ heads → l ≡ 0 → in_order ls ≡ declarations ls
unfolding in_order flatten expected_beneath expected_after
top (end h) i j = refl
top (more {e} {b} {l} {x} {ls} {ms} {qs} h p q) i j =
    subst (λ (k : ℕ). in_order (lined k x ∷ (ls ++ ms)) ≡ declarations (lined k x ∷ (ls ++ ms))) (sym j)
    (zero-line x (ls ++ ms)
    (go (is_declaration x) (ap (λ (e : Expect). expected_beneath e x) (sym i) ∙ h)
    (λ k. top q (ap (λ (e : Expect). expected_after e x) i ∙ k) j)
    (λ k. none-beneath q (ap (λ (e : Expect). expected_after e x) i ∙ k))))
  where
    go : (t : Bool) → if_else t (some nothing) (process_beneath x) ≡ some b → (if_else t heads nothing ≡ heads → in_order ms ≡ declarations ms) → (if_else t heads nothing ≡ nothing → ms ≡ [])
        → in_order (ls ++ ms) ≡ declarations (ls ++ ms)
    go true k rest none_left =
        let z = none-beneath p (sym (some-injective nothing b k)) in
        subst (λ (ks : List Lined). in_order (ks ++ ms) ≡ declarations (ks ++ ms)) (sym z) (rest refl)
    go false k rest none_left =
        let (f, g) = deep p (omega arith) [] in
        subst (λ (ks : List Lined). in_order (ls ++ ks) ≡ declarations (ls ++ ks)) (sym (none_left refl))
        (in-order-append ls [] ∙ sym (ap₂ (λ (ds es : List Declaration). ds ++ es) f g))

-- Texts -----------------------------------------------------------------------------------------------------------------------------

pub in_order_lem : InOrder
in_order_lem text e = let (ps, t) = (text-lines text e).2 in top t refl refl

-- Only lines that are one process are accepted. Of the levels it is said what the lines still to come must be; this holds by induction on those lines.
use mathlib.Core.Path.{◌≡◌, refl, sym, ap, subst, ◌∙◌}
use mathlib.Core.Bool.{Bool, true, false, ◌&&◌, false≢true}
use mathlib.Core.List.{List, [], ◌∷◌, ◌++◌, append_assoc, append-nil}
use mathlib.Core.Option.{Option, none, some}
use Prim.Native.Nat.{ℕ}
use borrow.Author.Tests.{eqb-true}
use lib.ListN.{length}
use lib.Dec.{eqb}
use Rattle.meaning.specs.Basics.{if_else}
use Rattle.grammar.specs.Outline.{OutlineLine, Lined, lined, Expect, heads, expected_beneath, expected_after, may_end, node, Trees, empty, also, Block, end, more, Levels, place, accept, accept_line, accept_all, all_end, levels_ended, whole_text}
use Rattle.grammar.specs.OutlineClaims.{LinesSound}

-- the lines to come: those at the deepest level, then the others
abbrev Follows : Levels → List Lined → Type 0
Follows [] ls = ls ≡ []
Follows (e ∷ k) ls = (xs : List Lined) × (ys : List Lined) × (ps : Trees) × (xs ++ ys ≡ ls) × Block e (length k) xs ps × Follows k ys

pub split-and : (a b : Bool) → (a && b) ≡ true → (a ≡ true) × (b ≡ true)
split-and true b h = (refl, h)
split-and false b h = absurd (false≢true h)

all-ended : (k : Levels) → all_end k ≡ true → Follows k []
unfolding all_end
all-ended [] h = refl
all-ended (e ∷ k) h = let (m, n) = split-and (may_end e) (all_end k) h in ([], [], empty, refl, end m, all-ended k n)

lost : (ls : List Lined) → levels_ended (accept_all none ls) ≡ true → ⊥
unfolding accept_all accept_line levels_ended
lost [] h = false≢true h
lost (y ∷ ls) h = lost ls h

module _ (ls : List Lined) where
  abbrev Leads : Option Levels → Type 0
  Leads o = levels_ended (accept_all o ls) ≡ true

  placed : (e : Expect) (k : Levels) (x : OutlineLine) (o : Option Expect) → expected_beneath e x ≡ o → Leads (place e k x o) → ((k' : Levels) → Leads (some k') → Follows k' ls)
      → Follows (e ∷ k) (lined (length k) x ∷ ls)
  unfolding place
  placed e k x none g h next = absurd (lost ls h)
  placed e k x (some b) g h next =
      let (xs, ys, ps, q, p, f) = next (b ∷ expected_after e x ∷ k) h in
      let (vs, ws, qs, r, s, t) = f in (
        lined (length k) x ∷ (xs ++ vs),
        ws,
        also (node x ps) qs,
        ap (λ (l : List Lined). lined (length k) x ∷ l) (append_assoc xs vs ws ∙ ap (λ (l : List Lined). xs ++ l) r ∙ q),
        more g p s,
        t,
      )

  accepted : (k : Levels) (l : ℕ) (x : OutlineLine) → Leads (accept k l x) → ((k' : Levels) → Leads (some k') → Follows k' ls) → Follows k (lined l x ∷ ls)
  unfolding accept
  accepted [] l x h next = absurd (lost ls h)
  accepted (e ∷ k) l x h next = go (eqb (length k) l) (may_end e) refl refl h (λ g. accepted k l x g next)
    where
      go : (t m : Bool) → eqb (length k) l ≡ t → may_end e ≡ m → Leads (if_else t (place e k x (expected_beneath e x)) (if_else m (accept k l x) none))
          → (Leads (accept k l x) → Follows k (lined l x ∷ ls)) → Follows (e ∷ k) (lined l x ∷ ls)
      go true m g u h rest = subst (λ (i : ℕ). Follows (e ∷ k) (lined i x ∷ ls)) (eqb-true (length k) l g) (placed e k x (expected_beneath e x) refl h next)
      go false true g u h rest = ([], lined l x ∷ ls, empty, refl, end u, rest h)
      go false false g u h rest = absurd (lost ls h)

leads : (ls : List Lined) (k : Levels) → levels_ended (accept_all (some k) ls) ≡ true → Follows k ls
unfolding accept_all accept_line levels_ended
leads [] k h = all-ended k h
leads (lined l x ∷ ls) k h = accepted ls k l x h (leads ls)

pub lines-sound : LinesSound
unfolding whole_text
lines-sound ls h =
    let (xs, ys, ps, q, p, f) = leads ls (heads ∷ []) h in
    let w : xs ≡ ls = sym (append-nil xs) ∙ ap (λ (l : List Lined). xs ++ l) (sym f) ∙ q in
    (ps, rw w at p)

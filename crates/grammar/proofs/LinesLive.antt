-- The reader of lines fails exactly at the first line that no lines after it could mend: lines that have not failed are made a process by nothing or by one SKIP.
use mathlib.Core.Path.{◌≡◌, refl, sym, ap, subst, ◌∙◌}
use mathlib.Core.Bool.{Bool, true, false, false≢true}
use mathlib.Core.List.{List, [], ◌∷◌, ◌++◌}
use mathlib.Core.Logic.{◌≢◌, ◌⊎◌, inl, inr}
use mathlib.Core.Option.{Option, none, some}
use Prim.Native.Nat.{ℕ, ◌<◌}
use borrow.Author.Tests.{eq-eqb, ne_eqb}
use native.Mathlib.Omega.{arith}
use lib.ListN.{length}
use lib.Dec.{eqb}
use Rattle.meaning.specs.Basics.{if_else}
use Rattle.grammar.specs.Outline.{OutlineLine, skip, Lined, lined, Expect, members, choices, options, nothing, one-process, one-member, heads, process_beneath, choice, guard_beneath, is_declaration, starts_block, expected_beneath, expected_after, may_end, Trees, Levels, place, accept, accept_line, accept_all, all_end, levels_ended, outset, whole_text, placed}
use Rattle.grammar.specs.OutlineClaims.{Text, Mended, AtMostSkip, no_line, one-skip, LinesLive}
use Rattle.grammar.proofs.LinesComplete.{lines-complete}
use Rattle.grammar.proofs.LinesSound.{lines-sound}

accept-append : (o : Option Levels) (ls ms : List Lined) → accept_all o (ls ++ ms) ≡ accept_all (accept_all o ls) ms
unfolding accept_all
accept-append o [] ms = refl
accept-append o (y ∷ ls) ms = accept-append (accept_line o y) ls ms

accept-none : (ls : List Lined) → accept_all none ls ≡ none
unfolding accept_all accept_line
accept-none [] = refl
accept-none (y ∷ ls) = accept-none ls

-- a process is due at one level at most, and beneath that level nothing is expected
abbrev Due : Option Levels → Type 0
Due none = Unit {0}
Due (some []) = Unit {0}
Due (some (members ∷ k)) = all_end k ≡ true
Due (some (choices ∷ k)) = all_end k ≡ true
Due (some (options ∷ k)) = all_end k ≡ true
Due (some (nothing ∷ k)) = Due (some k)
Due (some (one-process ∷ k)) = all_end k ≡ true
Due (some (one-member ∷ k)) = all_end k ≡ true
Due (some (heads ∷ k)) = all_end k ≡ true

due_all : (k : Levels) → all_end k ≡ true → Due (some k)
unfolding all_end may_end
due_all [] h = tt
due_all (members ∷ k) h = h
due_all (choices ∷ k) h = h
due_all (options ∷ k) h = h
due_all (nothing ∷ k) h = due_all k h
due_all (one-process ∷ k) h = absurd (false≢true h)
due_all (one-member ∷ k) h = absurd (false≢true h)
due_all (heads ∷ k) h = absurd (false≢true h)

due-pop : (e : Expect) (k : Levels) → Due (some (e ∷ k)) → Due (some k)
due-pop members k h = due_all k h
due-pop choices k h = due_all k h
due-pop options k h = due_all k h
due-pop nothing k h = h
due-pop one-process k h = due_all k h
due-pop one-member k h = due_all k h
due-pop heads k h = due_all k h

due-push : (b : Expect) (k : Levels) → all_end k ≡ true → Due (some (b ∷ k))
due-push members k h = h
due-push choices k h = h
due-push options k h = h
due-push nothing k h = due_all k h
due-push one-process k h = h
due-push one-member k h = h
due-push heads k h = h

-- a process, or a declaration before one, after which a process is due
due-member : (e later : Expect) (k : Levels) → may_end later ≡ true → Due (some (e ∷ k)) → all_end k ≡ true
    → (t : Bool) (o : Option Expect) → Due (placed (if_else t e later) k (if_else t (some nothing) o))
unfolding all_end
due-member e later k m h a true o = h
due-member e later k m h a false none = tt
due-member e later k m h a false (some b) = due-push b (later ∷ k) (rw m a)

due-place : (e : Expect) (k : Levels) (x : OutlineLine) → Due (some (e ∷ k)) → Due (place e k x (expected_beneath e x))
unfolding place all_end may_end expected_after expected_beneath
due-place members k x h = due-member one-member members k refl h h (starts_block x) (process_beneath x)
due-place one-process k x h = due-member one-process nothing k refl h h (starts_block x) (process_beneath x)
due-place one-member k x h = due-member one-member members k refl h h (starts_block x) (process_beneath x)
due-place choices k x h = go (choice x)
  where
    go : (o : Option Expect) → Due (place choices k x o)
    go none = tt
    go (some b) = due-push b (choices ∷ k) h
due-place options k x h = go (guard_beneath x)
  where
    go : (o : Option Expect) → Due (place options k x o)
    go none = tt
    go (some b) = due-push b (options ∷ k) h
due-place nothing k x h = tt
due-place heads k x h = go (is_declaration x) (process_beneath x) refl
  where
    go : (t : Bool) (o : Option Expect) → is_declaration x ≡ t → Due (place heads k x (if_else t (some nothing) o))
    go true o q = subst (λ (t : Bool). Due (some (if_else t heads nothing ∷ k))) (sym q) h
    go false none q = tt
    go false (some b) q = subst (λ (t : Bool). Due (some (b ∷ if_else t heads nothing ∷ k))) (sym q) (due-push b (nothing ∷ k) h)

due-if : (t : Bool) (o q : Option Levels) → Due o → Due q → Due (if_else t o q)
due-if true o q h g = h
due-if false o q h g = g

due-accept : (k : Levels) (l : ℕ) (x : OutlineLine) → Due (some k) → Due (accept k l x)
unfolding accept
due-accept [] l x h = tt
due-accept (e ∷ k) l x h =
    due-if (eqb (length k) l) (place e k x (expected_beneath e x)) (if_else (may_end e) (accept k l x) none) (due-place e k x h)
    (due-if (may_end e) (accept k l x) none (due-accept k l x (due-pop e k h)) tt)

due : (o : Option Levels) (ls : List Lined) → Due o → Due (accept_all o ls)
unfolding accept_all accept_line
due o [] h = h
due none (y ∷ ls) h = due none ls tt
due (some k) (lined l x ∷ ls) h = due (accept k l x) ls (due-accept k l x h)

-- nothing is due, or SKIP at a level ends it
abbrev Ends : Levels → Type 0
Ends k = (all_end k ≡ true) ⊎ ((l : ℕ) × (l < length k) × (levels_ended (accept k l skip) ≡ true))

ends : (k : Levels) → Due (some k) → Ends k
unfolding accept place expected_beneath expected_after may_end levels_ended all_end
ends [] h = inl refl
ends (members ∷ k) h = inl h
ends (choices ∷ k) h = inl h
ends (options ∷ k) h = inl h
ends (nothing ∷ k) h = go (ends k h)
  where
    go : Ends k → Ends (nothing ∷ k)
    go (inl q) = inl q
    go (inr w) = let (l, b, q) = w in inr (l, omega arith, rw (ne_eqb (length k) l (omega arith)) q)
ends (one-process ∷ k) h = inr (length k, omega arith, rw (eq-eqb (length k) (length k) refl) h)
ends (one-member ∷ k) h = inr (length k, omega arith, rw (eq-eqb (length k) (length k) refl) h)
ends (heads ∷ k) h = inr (length k, omega arith, rw (eq-eqb (length k) (length k) refl) h)

mends : (k : Levels) → Due (some k) → (ms : List Lined) × AtMostSkip ms × (levels_ended (accept_all (some k) ms) ≡ true)
unfolding accept_all accept_line levels_ended
mends k h = go (ends k h)
  where
    go : Ends k → (ms : List Lined) × AtMostSkip ms × (levels_ended (accept_all (some k) ms) ≡ true)
    go (inl q) = ([], no_line, q)
    go (inr w) = let (l, b, q) = w in (lined l skip ∷ [], one-skip, q)

dead : (ls : List Lined) → accept_all outset ls ≡ none → ¬ Mended ls
unfolding whole_text levels_ended
dead ls h m =
    let (ms, w) = m in
    let (ps, p) = w in
    let k : accept_all outset (ls ++ ms) ≡ none = accept-append outset ls ms ∙ ap (λ (o : Option Levels). accept_all o ms) h ∙ accept-none ms in
    false≢true (ap levels_ended (sym k) ∙ (lines-complete (ls ++ ms) ps p).0)

alive : (ls : List Lined) (o : Option Levels) → accept_all outset ls ≡ o → Due o → o ≢ none → (ms : List Lined) × AtMostSkip ms × ((ps : Trees) × Text (ls ++ ms) ps)
unfolding whole_text
alive ls none h d n = absurd (n refl)
alive ls (some k) h d n =
    let (ms, s, e) = mends k d in
    (ms, s, lines-sound (ls ++ ms) (ap levels_ended (accept-append outset ls ms ∙ ap (λ (o : Option Levels). accept_all o ms) h) ∙ e))

pub lines-live : LinesLive
unfolding all_end
lines-live ls = (dead ls, alive ls (accept_all outset ls) refl (due outset ls refl))

-- With ALT two orders may come to no common state: ALT of b ! 1 and b ! 2, each behind an open guard, has two ends.
use mathlib.Core.Path.{◌≡◌, refl, sym, ap, subst, ◌∙◌}
use mathlib.Core.Logic.{inl, inr}
use mathlib.Core.Option.{none, some}
use mathlib.Core.List.Memᴰ
use mathlib.Core.List.{List, [], ◌∷◌, ◌++◌, append-nil}
use Prim.Native.Nat.{ℕ}
use native.Mathlib.Omega.{arith}
use lib.IntN.{ℤ, pos, negsuc}
use lib.ListN.{get_or}
use Rattle.meaning.specs.Values.{Message}
use Rattle.meaning.specs.State.{State, program}
use Rattle.meaning.specs.Labels.{Label, own, take_option}
use Rattle.meaning.specs.Order.{Order, halt, OrderOf}
use Rattle.meaning.specs.Sheet.{sheet_fault}
use Rattle.meaning.specs.Answers.{check}
use Rattle.meaning.proofs.ComputesAnswers.{computes_answers}
use Rattle.agreement.specs.MissingClaims.{list_at}
use Rattle.agreement.specs.CommonClaims.{EitherBeginning}
use Rattle.agreement.proofs.OneRest.{no_more}
use Rattle.agreement_instances.specs.NotEmptyClaims.{Parted}
use Rattle.agreement_instances.proofs.Concrete.{empty_sheet, sheet_of, at_start, ready_in, after_step, from_start, rests, one_more}

abbrev rows : List ℤ
rows =
    pos 2 ∷ pos 1 ∷ pos 2 ∷ pos 4 ∷ pos 34 ∷ pos 2 ∷ pos 0 ∷ pos 0
    ∷ pos 42 ∷ pos 3 ∷ pos 9 ∷ pos 6 ∷ pos 24 ∷ pos 0 ∷ pos 4 ∷ pos 5 ∷ pos 10 ∷ pos 0 ∷ pos 0 ∷ pos 0 ∷ pos 10 ∷ pos 1 ∷ pos 0 ∷ pos 0
    ∷ pos 43 ∷ pos 7 ∷ pos 8 ∷ pos 0 ∷ pos 10 ∷ pos 1 ∷ pos 0 ∷ pos 0 ∷ pos 21 ∷ pos 0 ∷ pos 0 ∷ pos 0
    ∷ pos 42 ∷ pos 10 ∷ negsuc 0 ∷ pos 13 ∷ pos 24 ∷ pos 0 ∷ pos 11 ∷ pos 12 ∷ pos 10 ∷ pos 0 ∷ pos 0 ∷ pos 0 ∷ pos 10 ∷ pos 2 ∷ pos 0 ∷ pos 0
    ∷ pos 43 ∷ pos 14 ∷ pos 15 ∷ pos 0 ∷ pos 10 ∷ pos 1 ∷ pos 0 ∷ pos 0 ∷ pos 21 ∷ pos 0 ∷ pos 0 ∷ pos 0 ∷ []

rows-accepted : check rows ≡ none
unfolding computes_answers
rows-accepted = refl

sheet-fits : sheet_fault rows empty_sheet ≡ none
unfolding computes_answers
sheet-fits = refl

both-ready : ready_in rows (at_start rows) ≡ take_option 1 2 ∷ take_option 1 9 ∷ []
unfolding computes_answers
both-ready = refl

first_next : ready_in rows (after_step rows (take_option 1 2) (at_start rows)) ≡ own 3 ∷ []
unfolding computes_answers
first_next = refl

second-next : ready_in rows (after_step rows (take_option 1 9) (at_start rows)) ≡ own 10 ∷ []
unfolding computes_answers
second-next = refl

abbrev first_end : State
first_end = after_step rows (own 3) (after_step rows (take_option 1 2) (at_start rows))

abbrev second_end : State
second_end = after_step rows (own 10) (after_step rows (take_option 1 9) (at_start rows))

first-rests : ready_in rows first_end ≡ []
unfolding computes_answers
first-rests = refl

second-rests : ready_in rows second_end ≡ []
unfolding computes_answers
second-rests = refl

first-list : first_end.store.outputs ≡ (some (pos 1) ∷ []) ∷ []
unfolding computes_answers
first-list = refl

second-list : second_end.store.outputs ≡ (some (pos 2) ∷ []) ∷ []
unfolding computes_answers
second-list = refl

no_steps : OrderOf rows (sheet_of rows) [] (at_start rows)
no_steps = from_start rows rows-accepted [] (at_start rows) halt

first-order : OrderOf rows (sheet_of rows) (take_option 1 2 ∷ own 3 ∷ []) first_end
first-order =
    one_more rows rows-accepted (one_more rows rows-accepted no_steps (take_option 1 2) _ both-ready (Memᴰ.head refl)) (own 3) _ first_next (Memᴰ.head refl)

second-order : OrderOf rows (sheet_of rows) (take_option 1 9 ∷ own 10 ∷ []) second_end
second-order =
    one_more rows rows-accepted (one_more rows rows-accepted no_steps (take_option 1 9) _ both-ready (Memᴰ.tail (Memᴰ.head refl))) (own 10) _ second-next (Memᴰ.head refl)

-- lists that begin differently
no-beginning : (xs ys : List Message) → xs ≡ some (pos 1) ∷ [] → ys ≡ some (pos 2) ∷ [] → EitherBeginning xs ys → ⊥
no-beginning xs ys e f (inl (m, g)) = let h : some (pos 2) ∷ [] ≡ some (pos 1) ∷ m = sym f ∙ g ∙ ap (λ (l : List Message). l ++ m) e in let z : ◌≡◌ {A = ℕ} 1 2 = cc in omega arith
no-beginning xs ys e f (inr (m, g)) = let h : some (pos 1) ∷ [] ≡ some (pos 2) ∷ m = sym e ∙ g ∙ ap (λ (l : List Message). l ++ m) f in let z : ◌≡◌ {A = ℕ} 1 2 = cc in omega arith

never-common : (v : State) (l k : List Label) → Order (program rows) (sheet_of rows) first_end l v → Order (program rows) (sheet_of rows) second_end k v → ⊥
never-common v l k o q =
    let (e, _) = no_more rows (sheet_of rows) (rests rows rows-accepted _ first_end first-order first-rests) o in
    let (f, _) = no_more rows (sheet_of rows) (rests rows rows-accepted _ second_end second-order second-rests) q in
    no-beginning (list_at first_end 0) (list_at second_end 0) (ap (λ (l : List (List Message)). get_or l 0 []) first-list) (ap (λ (l : List (List Message)). get_or l 0 []) second-list)
    (subst (λ (s : State). EitherBeginning (list_at first_end 0) (list_at s 0)) (sym e ∙ f) (inl ([], sym (append-nil _))))

pub parted : Parted
parted =
    record {
      rows = rows;
      sheet = empty_sheet;
      table-accepted = rows-accepted;
      sheet-accepted = sheet-fits;
      labels = take_option 1 2 ∷ own 3 ∷ [];
      others = take_option 1 9 ∷ own 10 ∷ [];
      one = first_end;
      two = second_end;
      order = first-order;
      other = second-order;
      never-common = never-common;
      channel = 0;
      apart = no-beginning (list_at first_end 0) (list_at second_end 0) (ap (λ (l : List (List Message)). get_or l 0 []) first-list) (ap (λ (l : List (List Message)). get_or l 0 []) second-list);
    }

-- Of the rows by which ready steps are ordered the sentence of request 10 is false: an ALT (row 0) of two options TRUE & SKIP (rows 1 and 3), each with STOP.
-- When the first is taken the second is no longer ready, but only the state of row 2, the first STOP, has changed.
use mathlib.Core.Path.{◌≡◌, refl, sym, ap, subst}
use mathlib.Core.Option.{none}
use mathlib.Core.List.Memᴰ
use mathlib.Core.List.{List, [], ◌∷◌, ◌++◌, Memᴰ}
use Prim.Native.Nat.{ℕ, zero, suc, ◌<◌}
use native.Mathlib.Omega.{arith}
use lib.IntN.{ℤ, pos, negsuc}
use lib.ListN.{length, get_or}
use Rattle.meaning.specs.declared.Node.{Node}
use Rattle.meaning.specs.Rows.{row_count}
use Rattle.meaning.specs.References.{Beneath, direct, further}
use Rattle.meaning.specs.State.{State, program}
use Rattle.meaning.specs.Labels.{Label, take_option}
use Rattle.meaning.specs.Readings.{Sheet}
use Rattle.meaning.specs.Settle.{start}
use Rattle.meaning.specs.Ready.{ready, after}
use Rattle.meaning.specs.Order.{halt}
use Rattle.meaning.specs.Sheet.{sheet_fault, readings}
use Rattle.meaning.specs.Answers.{check}
use Rattle.meaning.specs.Accepted.{BothAccepted}
use Rattle.meaning.proofs.ComputesAnswers.{computes_answers}
use Rattle.meaning.proofs.AnswerLaws.{accepted}
use Rattle.agreement.specs.Statements.{Reached, StepOf}
use Rattle.agreement.proofs.Beginning.{begins-at-start}
use Rattle.agreement.proofs.Reached.{order-more}
use Rattle.agreement.proofs.Demands.{ready-exactly, after-is-step}
use Rattle.agreement.proofs.TableFit.{fit}
use Rattle.agreement.proofs.TableReferences.{refers-up}
use Rattle.agreement.proofs.UsageLists.{references}
use Rattle.run_kept.specs.ReadyClaims.{OptionOf, option-first, option-next, ChannelOf, named-by-input, named-by-output, named-by-guard, Untouched, NotByOrderRow}

abbrev rows : List ℤ
rows =
    pos 34 ∷ pos 1 ∷ pos 0 ∷ pos 0 ∷ pos 42 ∷ pos 2 ∷ pos 3 ∷ pos 8 ∷ pos 20 ∷ pos 0 ∷ pos 0 ∷ pos 0 ∷ pos 42 ∷ pos 4 ∷ negsuc 0 ∷ pos 5 ∷ pos 20 ∷ pos 0 ∷ pos 0 ∷ pos 0
    ∷ pos 43 ∷ pos 6 ∷ pos 7 ∷ pos 0 ∷ pos 10 ∷ pos 1 ∷ pos 0 ∷ pos 0 ∷ pos 21 ∷ pos 0 ∷ pos 0 ∷ pos 0
    ∷ pos 43 ∷ pos 9 ∷ pos 10 ∷ pos 0 ∷ pos 10 ∷ pos 1 ∷ pos 0 ∷ pos 0 ∷ pos 21 ∷ pos 0 ∷ pos 0 ∷ pos 0 ∷ []

-- one empty line
abbrev bytes : List ℕ
bytes = 10 ∷ []

abbrev sheet : Sheet
sheet = readings rows bytes

table-accepted : check rows ≡ none
unfolding computes_answers
table-accepted = refl

sheet-accepted : sheet_fault rows bytes ≡ none
unfolding computes_answers
sheet-accepted = refl

both : BothAccepted rows sheet
both = (table-accepted, (bytes, (sheet-accepted, refl)))

-- the state at the start, and after the first option is taken
abbrev s : State
s = start (program rows)

abbrev t : State
t = after (program rows) sheet (take_option 0 1) s

two_ready : ready (program rows) sheet s ≡ take_option 0 1 ∷ take_option 0 3 ∷ []
unfolding computes_answers
two_ready = refl

none-ready : ready (program rows) sheet t ≡ []
unfolding computes_answers
none-ready = refl

at-start : Reached rows sheet s
at-start = ([], record { beginning = s; begins = begins-at-start (program rows) (row_count rows) (fit rows table-accepted); order = halt })

taken : (x : Label) → Memᴰ x (take_option 0 1 ∷ take_option 0 3 ∷ []) → StepOf rows sheet s x (after (program rows) sheet x s)
taken x m = (after-is-step rows table-accepted sheet s at-start x (subst (λ (l : List Label). Memᴰ x l) (sym two_ready) m)).0

first_taken : StepOf rows sheet s (take_option 0 1) t
first_taken = taken (take_option 0 1) (Memᴰ.head refl)

later : Reached rows sheet t
later = (at-start.0 ++ (take_option 0 1 ∷ []), order-more rows sheet at-start.1 first_taken)

-- from row 3 on no state has changed
same : (b : ℕ) → 2 < b → get_or t.states b 0 ≡ get_or s.states b 0
unfolding computes_answers
same zero l = absurd (omega arith)
same (suc zero) l = absurd (omega arith)
same (suc (suc zero)) l = absurd (omega arith)
same (suc (suc (suc b))) l = refl

higher : {b : ℕ} → Beneath rows 3 b → 2 < b
higher {b} (direct p g) = let u = (refers-up rows ((accepted rows).0 table-accepted) 3 b p g).0 in omega arith
higher (further {s = q} {t = b} p w g) = let l = higher w in let u = (refers-up rows ((accepted rows).0 table-accepted) q b p g).0 in omega arith

-- an option is no ALT and has no channel
fields : Node → ℕ
fields x = length (references x)

no-alt : {j : ℕ} → OptionOf rows 3 j → ⊥
unfolding computes_answers fields
no-alt (option-first e) = let z : ◌≡◌ {A = ℕ} 3 1 = ap fields e in omega arith
no-alt (option-next o e) = no-alt o

no-channel : {c : ℕ} → ChannelOf rows 3 c → ⊥
unfolding computes_answers fields
no-channel (named-by-input e) = let z : ◌≡◌ {A = ℕ} 3 2 = ap fields e in omega arith
no-channel (named-by-output e) = let z : ◌≡◌ {A = ℕ} 3 2 = ap fields e in omega arith
no-channel (named-by-guard o g e) = no-alt o

untouched : Untouched rows s t 3
untouched = record { itself = same 3 (omega arith); beneath = λ b w. same b (higher w); on-channels = λ p c k g. absurd (no-channel k) }

pub not-by-order-row : NotByOrderRow
not-by-order-row h =
    let y = take_option 0 3 in
    let r = (h rows sheet both s at-start (take_option 0 1) t first_taken 3 untouched y refl).0 (after (program rows) sheet y s, taken y (Memᴰ.tail (Memᴰ.head refl))) in
    Memᴰ.not-nil (subst (λ (l : List Label). Memᴰ y l) none-ready ((ready-exactly rows table-accepted sheet t later y).0.1 r))
